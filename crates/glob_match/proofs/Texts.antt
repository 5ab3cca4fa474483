-- Equal texts, and stretches of a text that are equal to a key.
use Rattle.std.proofs.Common.{◌≡◌, ℕ, ◌≤◌, Bool, true, List, [], ◌∷◌, ◌++◌, map, length, take, drop, Some, None, is_some, refl, sym, ap, ◌∙◌, arith}
use Rattle.std.proofs.lemmas.Bool.{true≢false, false≢true, eqb-true, eq-eqb, and_parts, and_from}
use Rattle.std.proofs.lemmas.List.{take-append-drop, drop_at, length-append}
use Rattle.glob_match.specs.declared.comparator.Comparator.{Comparator}
use Rattle.glob_match.specs.declared.token.Token.TheVariants.{Literal}
use Rattle.glob_match.specs.Comparison.{compared, compared_octet, same_octet, is_match}
use Rattle.glob_match.specs.Containment.{HasStretch, begins_with, first_place, contains_match}
use Rattle.glob_match.proofs.Places.{IsPlace, place_of}

module _ (comparator : Comparator) where
  pub same_from : (a b : ℕ) → same_octet comparator a b ≡ true → compared_octet comparator a ≡ compared_octet comparator b
  same_from a b h = eqb-true (compared_octet comparator a) (compared_octet comparator b) h

  pub same_since : (a b : ℕ) → compared_octet comparator a ≡ compared_octet comparator b → same_octet comparator a b ≡ true
  same_since a b h = eq-eqb (compared_octet comparator a) (compared_octet comparator b) h

  pub equal_from : (value key : List ℕ) → is_match comparator value key ≡ true → compared comparator value ≡ compared comparator key
  equal_from [] [] h = refl
  equal_from [] (y ∷ ys) h = absurd (false≢true h)
  equal_from (x ∷ xs) [] h = absurd (false≢true h)
  equal_from (x ∷ xs) (y ∷ ys) h =
      let parts = and_parts (same_octet comparator x y) (is_match comparator xs ys) h in
      let first = same_from x y parts.0 in
      let rest = equal_from xs ys parts.1 in
      cc

  pub equal_since : (value key : List ℕ) → compared comparator value ≡ compared comparator key → is_match comparator value key ≡ true
  equal_since [] [] h = refl
  equal_since [] (y ∷ ys) h = cc
  equal_since (x ∷ xs) [] h = cc
  equal_since (x ∷ xs) (y ∷ ys) h =
      and_from (same_octet comparator x y) (is_match comparator xs ys) (same_since x y cc) (equal_since xs ys cc)

  -- what begins with literals, begins with an equal text
  pub begins_from : (key value : List ℕ) → begins_with comparator (map Literal key) value ≡ true
      → (stretch after : List ℕ) × (value ≡ stretch ++ after) × (compared comparator stretch ≡ compared comparator key)
  begins_from [] value h = ([], value, refl, refl)
  begins_from (y ∷ ys) [] h = absurd (false≢true h)
  begins_from (y ∷ ys) (x ∷ xs) h =
      let parts = and_parts (same_octet comparator x y) (begins_with comparator (map Literal ys) xs) h in
      let first = same_from x y parts.0 in
      let (stretch, after, e, f) = begins_from ys xs parts.1 in
      (x ∷ stretch, after, ap (λ v. x ∷ v) e, cc)

  pub begins_since : (key stretch after : List ℕ) → compared comparator stretch ≡ compared comparator key
      → begins_with comparator (map Literal key) (stretch ++ after) ≡ true
  begins_since [] stretch after h = refl
  begins_since (y ∷ ys) [] after h = cc
  begins_since (y ∷ ys) (x ∷ xs) after h =
      and_from (same_octet comparator x y) (begins_with comparator (map Literal ys) (xs ++ after)) (same_since x y cc) (begins_since ys xs after cc)

  abbrev begins_key : List ℕ → List ℕ → Bool
  begins_key key = begins_with comparator (map Literal key)

  pub contains_from : (value key : List ℕ) → contains_match comparator value key ≡ true → HasStretch comparator value key
  contains_from value key h =
      elim (first_place (begins_key key) value) as (λ r. IsPlace (begins_key key) value r → is_some r ≡ true → HasStretch comparator value key) [
        | None ↦ λ none is. absurd (false≢true is)
        | Some k ↦ λ (within, passes, before) is.
            let (stretch, after, e, f) = begins_from key (drop k value) passes in
            (take k value, stretch, after, sym (take-append-drop k value) ∙ ap (λ v. take k value ++ v) e, f)
      ] (place_of (begins_key key) value) h

  pub contains_since : (value key : List ℕ) → HasStretch comparator value key → contains_match comparator value key ≡ true
  contains_since value key (before, stretch, after, e, f) =
      elim (first_place (begins_key key) value) as (λ r. IsPlace (begins_key key) value r → is_some r ≡ true) [
        | None ↦ λ none.
            let within : length before ≤ length value = omega (arith, length-append before (stretch ++ after), ap length e) in
            let at : drop (length before) value ≡ stretch ++ after = ap (drop (length before)) e ∙ drop_at before (stretch ++ after) (length before) refl in
            absurd (true≢false (sym (begins_since key stretch after f) ∙ ap (begins_key key) (sym at) ∙ none (length before) within))
        | Some k ↦ λ found. refl
      ] (place_of (begins_key key) value)
