-- The first elements of lists that have each element once, as they grow.
use Rattle.std.proofs.Common.{◌≡◌, ◌∙◌, ℕ, ◌≤◌, Bool, List, [], ◌∷◌, length, take, refl, sym, ap, inl, inr, arith, length-append}
use Rattle.std.proofs.lemmas.Bool.{cases_Bool, cases_lt}
use Rattle.std.proofs.lemmas.List.{length-take-le, take-append-le, take_all}
use Rattle.octets.specs.Once.{is_listed, with_one, with_more}

module _ {A : Type 0} (same : A → A → Bool) where
  -- with one more they are no fewer
  pub one_grows : (xs : List A) (x : A) → length xs ≤ length (with_one same xs x)
  one_grows xs x =
      elim (cases_Bool (is_listed same x xs)) [
        | inl listed ↦ rw listed (omega arith)
        | inr fresh ↦ rw fresh (omega (arith, length-append xs (x ∷ [])))
      ]

  pub grows : (xs more : List A) → length xs ≤ length (with_more same xs more)
  grows xs [] = omega arith
  grows xs (y ∷ ys) = omega (arith, one_grows xs y, grows (with_one same xs y) ys)

  module _ (n : ℕ) where
    -- the first stay where there are more
    pub kept_one : (xs : List A) (x : A) → n ≤ length xs → take n (with_one same xs x) ≡ take n xs
    kept_one xs x many =
        elim (cases_Bool (is_listed same x xs)) [
          | inl listed ↦ rw listed refl
          | inr fresh ↦ rw fresh (take-append-le n xs (x ∷ []) many)
        ]

    pub kept_more : (xs more : List A) → n ≤ length xs → take n (with_more same xs more) ≡ take n xs
    kept_more xs [] many = refl
    kept_more xs (y ∷ ys) many = kept_more (with_one same xs y) ys (omega (arith, many, one_grows xs y)) ∙ kept_one xs y many

    -- what is beyond them makes no difference to them
    pub more_of_first : (xs more : List A) → take n (with_more same (take n xs) more) ≡ take n (with_more same xs more)
    more_of_first xs more =
        elim (cases_lt n (length xs)) [
          | inr few ↦ ap (λ l. take n (with_more same l more)) (take_all n xs few)
          | inl many ↦
              let len : length (take n xs) ≡ n = length-take-le n xs (omega (arith, many)) in
              kept_more (take n xs) more (omega (arith, len)) ∙ take_all n (take n xs) (omega (arith, len)) ∙ sym (kept_more xs more (omega (arith, many)))
        ]
