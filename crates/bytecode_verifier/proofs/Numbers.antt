-- The numbers of the instructions that are counted: one more instruction, and what they are at most.
use Rattle.std.proofs.Common.{◌≡◌, ℕ, zero, suc, ◌+◌, ◌*◌, ◌^◌, ◌<◌, ◌≤◌, Bool, true, false, ◌==◌, nat_le, if◌then◌else◌, List, [], ◌∷◌, Option, Some, None, get_or, length, min, slice_get, slice_index, slice_set, refl, sym, ap, ◌∙◌, add-one, arith}
use Rattle.std.proofs.Math.Nat.{mul-le-mul, mul-le-mul_left}
use Rattle.std.specs.Option.{option_map_or}
use Rattle.std.proofs.lemmas.Option.{slice_get-get_or}
use Rattle.bytecode_format.specs.declared.operation.Operation.{Operation}
use Rattle.octets.specs.Limits.{max_depth, max_loops, max_parts}
use Rattle.bytecode_format.specs.declared.instruction.Instruction.{Instruction}
use Rattle.bytecode_format.specs.Operations.{operation_of}
use Rattle.bytecode_format.specs.Code.{Code}
use Rattle.bytecode_format.specs.Spelling.{IsProgram}
use Rattle.bytecode_cost.specs.Sums.{Sums, with_cap, turns, budget_at}
use Rattle.bytecode_cost.proofs.Chains.{turns_more}
use Rattle.bytecode_cost.proofs.Powers.{product_bound, turns_none, turns_one_few, turns_two_few, turns_three_few}
use Rattle.bytecode_verifier.specs.Loops.{open_loops}
use Rattle.bytecode_verifier.specs.declared.cap.Cap.{Cap}
use Rattle.bytecode_verifier.specs.declared.counting.Counted.{Counted}
use Rattle.bytecode_verifier.specs.declared.counting.Counted.TheVariants.{Actions, Stores}
use Rattle.bytecode_verifier.specs.Counting.{counts, counted_at, number_below, number_inside, times_at, entries_at, octets_at}
use Rattle.bytecode_verifier.specs.Pass.{with_charge, numbers_below}
use Rattle.bytecode_verifier.proofs.Budgets.{sum_small, counted_small}
use Rattle.bytecode_verifier.proofs.Steps.{levels_more}

-- one for an instruction, or none
abbrev pub cap_of_one : ℕ → Cap
cap_of_one n = record { fixed = n; scaled = 0 }

counted_here : (counted : Counted) (code : Code) (place : ℕ) (i : Instruction) → slice_get code.instructions place ≡ Some i
    → counted_at counted code place ≡ (if counts counted (operation_of i.op) then 1 else 0)
counted_here counted code place i here = rw here refl

-- what is found of the instruction at a place
pub number_here : (counted : Counted) (code : Code) (place : ℕ) (default : Instruction) (o : Option Operation) (n : ℕ) → place < length code.instructions
    → o ≡ operation_of (get_or code.instructions place default).op → n ≡ (if counts counted o then 1 else 0) → n ≡ counted_at counted code place
number_here counted code place default o n lt op one =
    one ∙ ap (λ p. if counts counted p then 1 else 0) op ∙ sym (counted_here counted code place (get_or code.instructions place default) (slice_get-get_or code.instructions place default lt))

pub one_at_most : (b : Bool) → (if b then 1 else 0) ≤ 1
one_at_most true = omega arith
one_at_most false = omega arith

counted_few : (counted : Counted) (code : Code) (place : ℕ) → counted_at counted code place ≤ 1
counted_few counted code place = go (slice_get code.instructions place)
  where
    go : (o : Option Instruction) → option_map_or (λ (i : Instruction). if counts counted (operation_of i.op) then 1 else 0) o 0 ≤ 1
    go None = omega arith
    go (Some i) = one_at_most (counts counted (operation_of i.op))

number_small : (counted : Counted) (code : Code) (bound k : ℕ) → number_below counted code bound k ≤ bound
number_small counted code bound k =
    omega (
      arith,
      sum_small (λ place. if length (open_loops code place) == k then counted_at counted code place else 0) bound 1
          (λ place. counted_small (length (open_loops code place) == k) (counted_at counted code place) 1 (counted_few counted code place)),
    )

-- none of them is more than the instructions below the place
pub numbers_small : (counted : Counted) (code : Code) (bound depth : ℕ) → slice_index (numbers_below counted code bound).fixed depth ≤ bound
numbers_small counted code bound zero = number_small counted code bound 0
numbers_small counted code bound (suc zero) = number_small counted code bound 1
numbers_small counted code bound (suc (suc zero)) = number_small counted code bound 2
numbers_small counted code bound (suc (suc (suc zero))) = number_small counted code bound 3
numbers_small counted code bound (suc (suc (suc (suc depth)))) = omega arith

-- nothing is added for octets
none_more : (depth : ℕ) → slice_set (0 ∷ 0 ∷ 0 ∷ 0 ∷ []) depth (slice_index (0 ∷ 0 ∷ 0 ∷ 0 ∷ []) depth + 0) ≡ 0 ∷ 0 ∷ 0 ∷ 0 ∷ []
none_more zero = refl
none_more (suc zero) = refl
none_more (suc (suc zero)) = refl
none_more (suc (suc (suc zero))) = refl
none_more (suc (suc (suc (suc depth)))) = refl

-- with the instruction at the place
pub numbers_more : (counted : Counted) (code : Code) (place depth n : ℕ) (old : Sums) → depth ≡ length (open_loops code place) → n ≡ counted_at counted code place
    → old ≡ numbers_below counted code place → with_charge depth (cap_of_one n) old ≡ numbers_below counted code (place + 1)
numbers_more counted code place depth n old deep one e = rw (e, fixed) (go (nat_le depth max_loops))
  where
    number : ℕ → ℕ
    number k = number_below counted code place k

    below : List ℕ
    below = number 0 ∷ number 1 ∷ number 2 ∷ number 3 ∷ []

    fixed : (numbers_below counted code (place + 1)).fixed ≡ (if nat_le depth max_loops then slice_set below depth (slice_index below depth + n) else below)
    fixed = rw (add-one, ← one, ← deep) (levels_more depth (number 0) (number 1) (number 2) (number 3) n)

    go : (b : Bool) → (if b then with_cap (numbers_below counted code place) depth n 0 else numbers_below counted code place)
        ≡ (let sums : Sums = record { version = code.version; fixed = if b then slice_set below depth (slice_index below depth + n) else below; scaled = 0 ∷ 0 ∷ 0 ∷ 0 ∷ [] } in sums)
    go true = ap (λ scaled. let sums : Sums = record { version = code.version; fixed = slice_set below depth (slice_index below depth + n); scaled = scaled } in sums) (none_more depth)
    go false = refl

-- ---- what they come to

-- what a budget of these numbers allows is how often the instructions run
pub times_are : (counted : Counted) (code : Code) (p : ℕ) → budget_at (numbers_below counted code (length code.instructions)) 0 p ≡ times_at counted code p
times_are counted code p = omega arith

few_times : (number turns : ℕ) → number ≤ 65536 → turns ≤ 68719476736 → number * turns ≤ 4503599627370496
few_times number turns few some = omega (arith, product_bound number turns 65536 68719476736 few some)

pub times_small : (counted : Counted) (code : Code) → IsProgram code → (p : ℕ) → p ≤ max_parts → times_at counted code p < 2 ^ 64
times_small counted code fits p few =
    let version = code.version in
    let small : (k : ℕ) → number_inside counted code k ≤ 65536 = λ k. omega (arith, number_small counted code (length code.instructions) k, fits.instructions) in
    let none = few_times (number_inside counted code 0) (turns version p 0) (small 0) (omega (arith, turns_none version p)) in
    let one = few_times (number_inside counted code 1) (turns version p 1) (small 1) (turns_one_few version p few) in
    let two = few_times (number_inside counted code 2) (turns version p 2) (small 2) (turns_two_few version p few) in
    let three = few_times (number_inside counted code 3) (turns version p 3) (small 3) (turns_three_few version p few) in
    omega arith

-- ---- at larger messages

pub times_more : (counted : Counted) (code : Code) (p q : ℕ) → p ≤ q → times_at counted code p ≤ times_at counted code q
times_more counted code p q le =
    let term : (k : ℕ) → number_inside counted code k * turns code.version p k ≤ number_inside counted code k * turns code.version q k =
    λ k. mul-le-mul_left (number_inside counted code k) (turns_more code.version p q k le) in
    let none = term 0 in
    let one = term 1 in
    let two = term 2 in
    let three = term 3 in
    omega arith

pub entries_more : (code : Code) (p q : ℕ) → p ≤ q → entries_at code p ≤ entries_at code q
entries_more code p q le = omega (arith, times_more Actions code p q le)

pub octets_more : (code : Code) (n m p q : ℕ) → n ≤ m → p ≤ q → octets_at code n p ≤ octets_at code m q
octets_more code n m p q octets parts =
    let more = times_more Stores code p q parts in
    let few : 1 + min (times_at Stores code p) max_depth ≤ 1 + min (times_at Stores code q) max_depth = omega (arith, more) in
    mul-le-mul few octets

-- whatever the program
pub octets_at_most : (code : Code) (n p : ℕ) → octets_at code n p ≤ (1 + max_depth) * n
octets_at_most code n p =
    let few : 1 + min (times_at Stores code p) max_depth ≤ 1 + max_depth = omega arith in
    let same : n ≤ n = omega arith in
    mul-le-mul few same
