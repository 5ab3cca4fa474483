-- The first place from which on a list passes a test.
use Rattle.std.proofs.Common.{◌≡◌, ℕ, zero, suc, ◌+◌, ◌-◌, ◌<◌, ◌≤◌, Bool, true, false, List, [], ◌∷◌, length, drop, Option, Some, None, inl, inr, refl, sym, ap, subst, ◌∙◌, add-one, arith}
use Rattle.std.proofs.lemmas.Bool.{true≢false, cond_both, cases_lt, cases_order}
use Rattle.std.proofs.lemmas.List.{drop-drop}
use Rattle.std.specs.Option.{option_map}
use Rattle.glob_match.specs.Containment.{first_place}

module _ (test : List ℕ → Bool) where
  -- r is the first place from which on the value passes
  abbrev pub IsPlace : List ℕ → Option ℕ → Type 0
  IsPlace value None = (j : ℕ) → j ≤ length value → test (drop j value) ≡ false
  IsPlace value (Some k) = (k ≤ length value) × (test (drop k value) ≡ true) × ((j : ℕ) → j < k → test (drop j value) ≡ false)

  here : (value : List ℕ) → test value ≡ true → IsPlace value (Some 0)
  here value passes = (omega arith, passes, λ j less. absurd (omega arith))

  later : (x : ℕ) (xs : List ℕ) → test (x ∷ xs) ≡ false → (r : Option ℕ) → IsPlace xs r
      → IsPlace (x ∷ xs) (option_map (λ place. place + 1) r)
  later x xs fails None none = nowhere
    where
      nowhere : (j : ℕ) → j ≤ length (x ∷ xs) → test (drop j (x ∷ xs)) ≡ false
      nowhere zero h = fails
      nowhere (suc j) h = none j (omega arith)
  later x xs fails (Some k) (within, passes, before) =
      (omega arith, subst (λ n. test (drop n (x ∷ xs)) ≡ true) (sym (add-one k)) passes, before_more)
    where
      before_more : (j : ℕ) → j < k + 1 → test (drop j (x ∷ xs)) ≡ false
      before_more zero h = fails
      before_more (suc j) h = before j (omega arith)

  pub place_of : (value : List ℕ) → IsPlace value (first_place test value)
  place_of [] = cond_both (test []) (Some 0) None (λ r. IsPlace [] r) (here []) (λ fails. nowhere fails)
    where
      nowhere : test [] ≡ false → (j : ℕ) → j ≤ 0 → test (drop j []) ≡ false
      nowhere fails zero h = fails
      nowhere fails (suc j) h = fails
  place_of (x ∷ xs) =
      cond_both (test (x ∷ xs)) (Some 0) (option_map (λ place. place + 1) (first_place test xs)) (λ r. IsPlace (x ∷ xs) r)
      (here (x ∷ xs)) (λ fails. later x xs fails (first_place test xs) (place_of xs))

  pub place_once : (value : List ℕ) (r s : Option ℕ) → IsPlace value r → IsPlace value s → r ≡ s
  place_once value None None p q = refl
  place_once value None (Some k) none (within, passes, before) = absurd (true≢false (sym passes ∙ none k within))
  place_once value (Some k) None (within, passes, before) none = absurd (true≢false (sym passes ∙ none k within))
  place_once value (Some k) (Some n) (within, passes, before) (within', passes', before') =
      elim (cases_order k n) [
        | inl e ↦ ap Some e
        | inr (inl less) ↦ absurd (true≢false (sym passes ∙ before' k less))
        | inr (inr more) ↦ absurd (true≢false (sym passes' ∙ before n more))
      ]

  -- places that are ruled out, and then further ones
  pub ruled_out : (value : List ℕ) (place n : ℕ) → ((j : ℕ) → j < place → test (drop j value) ≡ false)
      → ((j : ℕ) → j < n → test (drop j (drop place value)) ≡ false) → (j : ℕ) → j < place + n → test (drop j value) ≡ false
  ruled_out value place n before after j less =
      elim (cases_lt j place) [
        | inl early ↦ before j early
        | inr from ↦
            let at : place + (j - place) ≡ j = omega arith in
            ap test (ap (λ m. drop m value) (sym at) ∙ sym (drop-drop (j - place) place value)) ∙ after (j - place) (omega arith)
      ]
