-- The table of what is known of the loops at each place.
use Rattle.std.proofs.Common.{◌≡◌, ℕ, zero, suc, ◌+◌, ◌<◌, ◌≤◌, Bool, true, false, cond, ◌==◌, List, [], ◌∷◌, ◌++◌, Option, Some, None, length, drop, slice_get, refl, ap, ap₂, ◌∙◌, inl, inr, arith, add-one, length-append}
use Rattle.std.proofs.lemmas.Bool.{cases_eq}
use Rattle.bytecode_format.specs.declared.instruction.Instruction.{Instruction}
use Rattle.bytecode_verifier.specs.declared.nest.Nest.{Nest}
use Rattle.bytecode_verifier.specs.Nests.{first_of, without_first, nexts_from, next_at, open_over, open_at, nest_at, AreNests}
use Rattle.bytecode_verifier.proofs.Closing.{drop_here}
use Rattle.bytecode_verifier.proofs.Open.{past_from}

-- what is known of the places below one
abbrev pub nests_below : List Instruction → ℕ → List Nest
nests_below instructions zero = []
nests_below instructions (suc place) = nests_below instructions place ++ nest_at instructions place ∷ []

-- no more loops are open than there are places before
pub open_over_few : (place next : ℕ) (before : List ℕ) → length before ≤ place → length (open_over place next before) ≤ place + 1
open_over_few place zero [] few = omega arith
open_over_few place zero (n ∷ before) few = go (n == place)
  where
    go : (b : Bool) → length (cond b before (n ∷ before)) ≤ place + 1
    go true = omega (arith, few)
    go false = omega (arith, few)
open_over_few place (suc next) before few = omega (arith, few)

-- the place of one loop is taken from those of all
pub nexts_here : (xs : List Instruction) (place : ℕ) → place < length xs → nexts_from place (drop place xs) ≡ next_at xs place ∷ nexts_from (place + 1) (drop (place + 1) xs)
nexts_here xs place lt = go (slice_get xs place) refl
  where
    go : (o : Option Instruction) → slice_get xs place ≡ o → nexts_from place (drop place xs) ≡ next_at xs place ∷ nexts_from (place + 1) (drop (place + 1) xs)
    go None e = absurd (let past = past_from xs place e in omega arith)
    go (Some i) e = rw (drop_here xs place i e, e, add-one) refl

length-nests : (xs : List Instruction) (place : ℕ) → length (nests_below xs place) ≡ place
length-nests xs zero = refl
length-nests xs (suc place) = length-append (nests_below xs place) _ ∙ omega (arith, length-nests xs place)

get_kept : (ns : List Nest) (n m : Nest) (k : ℕ) → slice_get ns k ≡ Some m → slice_get (ns ++ n ∷ []) k ≡ Some m
get_kept [] n m k e = absurd cc
get_kept (x ∷ ns) n m zero e = e
get_kept (x ∷ ns) n m (suc k) e = get_kept ns n m k e

get_last : (ns : List Nest) (n : Nest) (k : ℕ) → length ns ≡ k → slice_get (ns ++ n ∷ []) k ≡ Some n
get_last [] n k e = rw (← e) refl
get_last (x ∷ ns) n zero e = absurd (omega arith)
get_last (x ∷ ns) n (suc k) e = get_last ns n k (omega arith)

nests_get : (xs : List Instruction) (number place : ℕ) → place < number → slice_get (nests_below xs number) place ≡ Some (nest_at xs place)
nests_get xs zero place lt = absurd (omega arith)
nests_get xs (suc n) place lt =
    elim (cases_eq place n) [
      | inl same ↦ rw same (get_last (nests_below xs n) (nest_at xs n) n (length-nests xs n))
      | inr differ ↦ get_kept (nests_below xs n) (nest_at xs n) (nest_at xs place) place (nests_get xs n place (omega arith))
    ]

pub are_nests : (xs : List Instruction) (nests : List Nest) (number : ℕ) → nests ≡ nests_below xs number → number ≡ length xs → AreNests xs nests
are_nests xs nests number is all = record {
  number = ap length is ∙ length-nests xs number ∙ all;
  each = λ place lt. ap (λ ns. slice_get ns place) is ∙ nests_get xs number place (omega arith);
}

-- the table goes on by a place
pub record GoesOn (xs : List Instruction) (place : ℕ) (later now : List ℕ) (table : List Nest) : Type 0 where
  pub nexts : later ≡ nexts_from (place + 1) (drop (place + 1) xs)
  pub inside : now ≡ open_at xs (place + 1)
  pub few : length now ≤ place + 1
  pub nests : table ≡ nests_below xs (place + 1)

pub nests_more : (xs : List Instruction) (place next first number : ℕ) (all later before now : List ℕ) (old new : List Nest) → place < length xs
    → all ≡ nexts_from place (drop place xs) → before ≡ open_at xs place → length before ≤ place → old ≡ nests_below xs place
    → next ≡ first_of all → later ≡ without_first all → first ≡ first_of before → number ≡ length before → now ≡ open_over place next before
    → new ≡ old ++ (let n : Nest = record { next = next; inner = first; depth = number } in n) ∷ [] → GoesOn xs place later now new
nests_more xs place next first number all later before now old new lt wanted inside few made next-is rest first-is counted over grown =
    let both : all ≡ next_at xs place ∷ nexts_from (place + 1) (drop (place + 1) xs) = wanted ∙ nexts_here xs place lt in
    let here : next ≡ next_at xs place = next-is ∙ ap first_of both in
    let then : now ≡ open_over place (next_at xs place) (open_at xs place) = over ∙ ap₂ (open_over place) here inside in
    record {
      nexts = rest ∙ ap without_first both;
      inside = rw add-one then;
      few = rw over (open_over_few place next before few);
      nests = rw (add-one, grown, made, here, first-is, counted, inside) refl;
    }
