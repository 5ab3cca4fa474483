-- The octets of a class that a text begins with, and the one after them.
use Rattle.std.proofs.Common.{◌≡◌, ◌==◌, ℕ, zero, suc, Bool, true, false, List, [], ◌∷◌, length, take, drop, refl, sym, ap, ◌∙◌, inl, inr, arith}
use Rattle.std.specs.List.{list_all, take_while}
use Rattle.std.proofs.lemmas.Bool.{cases_Bool, eqb-true}
use Rattle.std.proofs.lemmas.List.Sums.{take_while-cons}
use Rattle.sieve_references.specs.Reading.{is_not_dollar}

module _ (passes : ℕ → Bool) where
  begins : (x : ℕ) (xs : List ℕ) (n : ℕ) → suc n ≡ length (take_while passes (x ∷ xs)) → (passes x ≡ true) × (n ≡ length (take_while passes xs))
  begins x xs n e =
      elim (cases_Bool (passes x)) [
        | inl here ↦ let is : take_while passes (x ∷ xs) ≡ x ∷ take_while passes xs = take_while-cons passes x xs ∙ rw here refl in (here, omega (arith, e, ap length is))
        | inr not_here ↦ let is : take_while passes (x ∷ xs) ≡ [] = take_while-cons passes x xs ∙ rw not_here refl in absurd (omega (arith, e, ap length is))
      ]

  ends : (x : ℕ) (xs : List ℕ) → 0 ≡ length (take_while passes (x ∷ xs)) → passes x ≡ false
  ends x xs e =
      elim (cases_Bool (passes x)) [
        | inl here ↦ let is : take_while passes (x ∷ xs) ≡ x ∷ take_while passes xs = take_while-cons passes x xs ∙ rw here refl in absurd (omega (arith, e, ap length is))
        | inr not_here ↦ not_here
      ]

  -- each of them is of the class
  pub run_passes : (text : List ℕ) (n : ℕ) → n ≡ length (take_while passes text) → list_all passes (take n text) ≡ true
  run_passes text zero e = refl
  run_passes [] (suc n) e = refl
  run_passes (x ∷ xs) (suc n) e = let here = begins x xs n e in rw (here.0) (run_passes xs n here.1)

  -- the one after them isn't
  pub run_ends : (text : List ℕ) (n : ℕ) (x : ℕ) (rest : List ℕ) → n ≡ length (take_while passes text) → drop n text ≡ x ∷ rest → passes x ≡ false
  run_ends [] zero x rest e is = absurd (cc)
  run_ends [] (suc n) x rest e is = absurd (cc)
  run_ends (y ∷ ys) zero x rest e is = let same : y ≡ x = cc in ap passes (sym same) ∙ ends y ys e
  run_ends (y ∷ ys) (suc n) x rest e is = run_ends ys n x rest (begins y ys n e).1 is

  -- where there is none, the whole text is
  pub run_whole : (text : List ℕ) (n : ℕ) → n ≡ length (take_while passes text) → drop n text ≡ [] → list_all passes text ≡ true
  run_whole [] n e is = refl
  run_whole (y ∷ ys) zero e is = absurd (cc)
  run_whole (y ∷ ys) (suc n) e is = let here = begins y ys n e in rw (here.0) (run_whole ys n here.1 is)

-- what isn't another octet than `$` is `$`
pub is_dollar : (x : ℕ) → is_not_dollar x ≡ false → x ≡ 36
is_dollar x e =
    elim (cases_Bool (x == 36)) [
      | inl same ↦ eqb-true x 36 same
      | inr other ↦ let differs : is_not_dollar x ≡ true = rw other refl in absurd (cc)
    ]
