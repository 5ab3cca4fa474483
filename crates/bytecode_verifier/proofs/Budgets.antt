-- The budget of an accepted program: what its sums are at most.
use Rattle.std.proofs.Common.{◌≡◌, ℕ, zero, suc, ◌+◌, ◌*◌, ◌^◌, ◌<◌, ◌≤◌, Bool, true, false, cond, ◌==◌, [], ◌∷◌, Option, Some, None, All, length, max, slice_get, sum, refl, inl, inr, lit≤, arith}
use Rattle.std.proofs.lemmas.Bool.{cases_lt}
use Rattle.std.proofs.Math.Nat.{mul-le-mul}
use Rattle.std.proofs.lemmas.List.Sums.{sum_by-le-sum_by}
use Rattle.std.specs.Option.{option_map_or}
use Rattle.std.proofs.lemmas.List.Elements.{All-cons, All-nil}
use Rattle.octets.specs.Limits.{max_message, max_parts, max_stack}
use Rattle.bytecode_format.specs.declared.instruction.Instruction.{Instruction}
use Rattle.bytecode_format.specs.declared.operation.Operation.{Operation}
use Rattle.bytecode_format.specs.declared.operation.Operation.TheVariants.{Join, Set, File, Store, Take, Test}
use Rattle.bytecode_format.specs.declared.operation.TestOperation.{TestOperation}
use Rattle.bytecode_format.specs.declared.operation.TestOperation.TheVariants.{Header, Exists, String, PartBody, PartDigest}
use Rattle.bytecode_format.specs.declared.question.Counts.{Counts}
use Rattle.bytecode_format.specs.Questions.{counts_in}
use Rattle.bytecode_format.specs.Operations.{operation_of}
use Rattle.bytecode_format.specs.Code.{Code}
use Rattle.bytecode_format.specs.Spelling.{IsProgram}
use Rattle.bytecode_cost.specs.Sums.{IsBudget, budget_at}
use Rattle.bytecode_cost.proofs.Powers.{budget_bound}
use Rattle.bytecode_verifier.specs.Places.{sum_below}
use Rattle.bytecode_verifier.specs.Loops.{open_loops}
use Rattle.bytecode_verifier.specs.Shape.{Entries, Texts, Lists, take_texts, take_counted, shape_at}
use Rattle.bytecode_verifier.specs.declared.cap.Cap.{Cap}
use Rattle.bytecode_verifier.specs.Budget.{one_more_each, cap_of_octets, cap_of_test, one_charge, cap_of, cap_found, cap_at, sum_inside, sums_inside, budget_of}
use Rattle.bytecode_verifier.specs.Pass.{IsSmall, max_cap}
use Rattle.bytecode_verifier.proofs.Taking.{TakenLists, taken, taken_lists}
use Rattle.bytecode_verifier.proofs.Short.{length_short, shape_small}

-- no cap is larger than this
abbrev pub Fits : Cap → Type 0
Fits cap = (cap.fixed ≤ max_cap) × (cap.scaled ≤ max_cap)

one_fits : Fits one_charge
one_fits = (lit≤ tt, lit≤ tt)

-- what a header test's names, parameters and keys come to
matching_fits : (names params keys a b n p : ℕ) → keys + params + names ≤ 1024 → a ≤ names * 16385 → b ≤ keys * 16385 → n ≡ names → p ≡ params → a + n * max p 1 * b ≤ max_cap
matching_fits names params keys a b n p few ha hb same_names same_params =
    let few_names : n ≤ 1024 = omega arith in
    let few_params : max p 1 ≤ 1024 = omega arith in
    let few_keys : b ≤ 16778240 = omega arith in
    let pairs : n * max p 1 ≤ 1024 * 1024 = mul-le-mul few_names few_params in
    let most : n * max p 1 * b ≤ 1024 * 1024 * 16778240 = mul-le-mul pairs few_keys in
    omega arith

product : (a b x y : ℕ) → a ≤ x → b ≤ y → a * b ≤ x * y
product a b x y h k = mul-le-mul h k

-- how often a source is compared with a key
few_pairs : (n k : ℕ) → n + k ≤ 1024 → n * k ≤ 393216
few_pairs n k few =
    elim (cases_lt n 512) [
      | inl less ↦
          elim (cases_lt n 257) [
            | inl least ↦ let most : n * k ≤ 256 * 1024 = product n k 256 1024 (omega arith) (omega arith) in omega arith
            | inr more ↦ let most : n * k ≤ 512 * 768 = product n k 512 768 (omega arith) (omega arith) in omega arith
          ]
      | inr more ↦
          elim (cases_lt n 769) [
            | inl less ↦ let most : n * k ≤ 768 * 512 = product n k 768 512 (omega arith) (omega arith) in omega arith
            | inr most ↦ let most : n * k ≤ 1024 * 256 = product n k 1024 256 (omega arith) (omega arith) in omega arith
          ]
    ]

-- what comparing sources with keys comes to
comparing_fits : (n k a b : ℕ) → n + k ≤ 1024 → a ≤ n * 16385 → b ≤ k * 16385 → 1 + a * b ≤ max_cap
comparing_fits n k a b few ha hb =
    let most : a * b ≤ n * 16385 * (k * 16385) = mul-le-mul ha hb in
    let pairs : n * 16385 * (k * 16385) ≡ n * k * 268468225 = grind arith in
    let enough : n * k * 268468225 ≤ 393216 * 268468225 = product (n * k) 268468225 393216 268468225 (few_pairs n k few) (omega arith) in
    omega arith

octets_fit : (number : ℕ) (entries : Entries) → IsSmall entries → (o : Option Texts) → take_texts number entries ≡ o → Fits (option_map_or cap_of_octets o one_charge)
octets_fit number entries small None h = one_fits
octets_fit number entries small (Some texts) h =
    let t = taken number entries texts small.short h in
    let less : sum texts.texts ≤ one_more_each texts.texts = sum_by-le-sum_by (λ b. b) (λ b. b + 1) texts.texts (λ b. omega arith) in
    (omega (arith, t.total, t.left, small.few, less), lit≤ tt)

test_fits : (test : TestOperation) (counts : Counts) (entries : Entries) (lists : Lists) → length entries ≤ max_stack → TakenLists counts entries lists → Fits (cap_of_test test lists)
test_fits Header counts entries lists few t =
    (lit≤ tt, matching_fits counts.names counts.params counts.keys (one_more_each lists.names) (one_more_each lists.keys) (length lists.names) (length lists.params) (omega (arith, t.left, few)) t.names_total t.keys_total t.names_are t.params_are)
test_fits Exists counts entries lists few t = (lit≤ tt, omega (arith, t.names_total, t.left, few))
test_fits String counts entries lists few t =
    (comparing_fits counts.names counts.keys (one_more_each lists.names) (one_more_each lists.keys) (omega (arith, t.left, few)) t.names_total t.keys_total, lit≤ tt)
test_fits PartBody counts entries lists few t = (lit≤ tt, omega (arith, t.keys_total, t.left, few))
test_fits PartDigest counts entries lists few t = (omega (arith, t.keys_total, t.left, few), lit≤ tt)
test_fits _ counts entries lists few t = one_fits

pub cap_fits : (o : Option Operation) (i : Instruction) (entries : Entries) → i.b < 2 ^ 16 → IsSmall entries → Fits (cap_of o i entries)
cap_fits (Some (Test test)) i entries below small = go (take_counted (counts_in test i) entries) refl
  where
    go : (o : Option Lists) → take_counted (counts_in test i) entries ≡ o → Fits (option_map_or (cap_of_test test) o one_charge)
    go None h = one_fits
    go (Some lists) h = test_fits test (counts_in test i) entries lists small.few (taken_lists (counts_in test i) entries lists small.short h)
cap_fits (Some File) i entries below small = octets_fit 1 entries small (take_texts 1 entries) refl
cap_fits (Some Store) i entries below small = octets_fit 1 entries small (take_texts 1 entries) refl
cap_fits (Some Join) i entries below small = octets_fit i.b entries small (take_texts i.b entries) refl
cap_fits (Some Set) i entries below small = octets_fit 1 entries small (take_texts 1 entries) refl
cap_fits (Some Take) i entries below small = (omega (arith, below), lit≤ tt)
cap_fits _ i entries below small = one_fits

-- the cap at a place
pub cap_at_fits : (code : Code) → IsProgram code → (place : ℕ) → Fits (cap_at code place)
cap_at_fits code fits place = found (slice_get code.instructions place) (shape_at code place) refl refl
  where
    found : (i : Option Instruction) (o : Option Entries) → slice_get code.instructions place ≡ i → shape_at code place ≡ o → Fits (cap_found i o)
    found None o here h = (lit≤ tt, lit≤ tt)
    found (Some i) None here h = (lit≤ tt, lit≤ tt)
    found (Some i) (Some entries) here h = cap_fits (operation_of i.op) i entries (length_short code.instructions place i fits.each_instruction here) (shape_small code fits place entries h)

pub sum_small : (f : ℕ → ℕ) (n most : ℕ) → ((place : ℕ) → f place ≤ most) → sum_below f n ≤ n * most
sum_small f zero most h = omega arith
sum_small f (suc n) most h = omega (arith, sum_small f n most h, h n)

pub counted_small : (b : Bool) (n most : ℕ) → n ≤ most → cond b n 0 ≤ most
counted_small true n most h = h
counted_small false n most h = omega arith

sums_small : (part : Cap → ℕ) (code : Code) → IsProgram code → ((cap : Cap) → Fits cap → part cap ≤ max_cap) → All (λ sum. sum < 2 ^ 63) (sums_inside part code)
sums_small part code fits one =
    let inside : (k : ℕ) → sum_inside part code k ≤ length code.instructions * max_cap =
    λ k. sum_small _ (length code.instructions) max_cap (λ place. counted_small (length (open_loops code place) == k) (part (cap_at code place)) max_cap (one (cap_at code place) (cap_at_fits code fits place))) in
    let small : (k : ℕ) → sum_inside part code k < 2 ^ 63 = λ k. omega (arith, inside k, fits.instructions) in
    let P : ℕ → Type 0 = λ sum. sum < 2 ^ 63 in
    let s : ℕ → ℕ = sum_inside part code in
    All-cons P (s 0) (s 1 ∷ s 2 ∷ s 3 ∷ []) (small 0) (All-cons P (s 1) (s 2 ∷ s 3 ∷ []) (small 1) (All-cons P (s 2) (s 3 ∷ []) (small 2) (All-cons P (s 3) [] (small 3) (All-nil P))))

-- the sums are those of a budget
pub is_budget : (code : Code) → IsProgram code → IsBudget (budget_of code)
is_budget code fits =
    record {
      fixed_levels = refl;
      scaled_levels = refl;
      each_fixed = sums_small (λ cap. cap.fixed) code fits (λ cap h. h.0);
      each_scaled = sums_small (λ cap. cap.scaled) code fits (λ cap h. h.1);
    }

pub budget_small : (code : Code) → IsProgram code → (n p : ℕ) → n ≤ max_message → p ≤ max_parts → budget_at (budget_of code) n p < 2 ^ 128
budget_small code fits n p few parts = budget_bound (budget_of code) (is_budget code fits) n p few parts
