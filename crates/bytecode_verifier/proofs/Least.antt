-- The least number that passes a test.
use Rattle.std.proofs.Common.{◌≡◌, ℕ, zero, suc, ◌+◌, ◌<◌, Bool, true, false, Option, Some, None, length, refl, ap, ◌∙◌, inl, inr, arith, add-one}
use Rattle.std.proofs.lemmas.Bool.{cases_lt}
use Rattle.std.specs.Bool.{then_some}
use Rattle.std.specs.Option.{option_or}
use Rattle.bytecode_format.specs.Code.{Code}
use Rattle.bytecode_verifier.specs.Places.{least_below, least_place}

-- one more number is tried
pub least_more : (test : ℕ → Bool) (place : ℕ) (old new : Option ℕ) (broken : Bool) → old ≡ least_below test place → broken ≡ test place → new ≡ option_or old (then_some broken place) → new ≡ least_below test (place + 1)
least_more test place old new broken e b n = rw add-one (n ∙ ap (λ o. option_or o (then_some broken place)) e ∙ ap (λ t. option_or (least_below test place) (then_some t place)) b)

pub or_none : (o p : Option ℕ) → option_or o p ≡ None → (o ≡ None) × (p ≡ None)
or_none None p h = (refl, h)
or_none (Some x) p h = absurd (cc)

then_some_none : (b : Bool) (n : ℕ) → then_some b n ≡ None → b ≡ false
then_some_none false n h = refl
then_some_none true n h = absurd (cc)

-- where there is no least one there is none
pub least_none : (test : ℕ → Bool) (n : ℕ) → least_below test n ≡ None → (p : ℕ) → p < n → test p ≡ false
least_none test zero h p lt = absurd (omega arith)
least_none test (suc n) h p lt =
    let parts = or_none (least_below test n) (then_some (test n) n) h in
    elim (cases_lt p n) [
      | inl less ↦ least_none test n parts.0 p less
      | inr more ↦ let same : p ≡ n = omega arith in rw same (then_some_none (test n) n parts.1)
    ]

-- where there is none there is no least one
pub least_of_none : (test : ℕ → Bool) (n : ℕ) → ((p : ℕ) → p < n → test p ≡ false) → least_below test n ≡ None
least_of_none test zero h = refl
least_of_none test (suc n) h = rw (least_of_none test n (λ p lt. h p (omega arith)), h n (omega arith)) refl

pub or_none_right : (o : Option ℕ) → option_or o None ≡ o
or_none_right None = refl
or_none_right (Some x) = refl

-- the end of the program adds nothing to a rule on its instructions
pub least_at_end : (test : ℕ → Bool) (code : Code) → test (length code.instructions) ≡ false → least_place test code ≡ least_below test (length code.instructions)
least_at_end test code h = rw h (or_none_right _)
