-- Where a text stands in another, as `memchr` says it and as the first place from which on a test passes.
use Rattle.std.proofs.Common.{◌≡◌, ℕ, ◌+◌, ◌-◌, ◌<◌, ◌≤◌, true, false, List, ◌++◌, map, length, take, drop, get_or, Option, Some, None, inl, inr, sym, ap, subst, ◌∙◌, arith}
use Rattle.std.proofs.lemmas.Bool.{false_from_ne_true, cases_lt}
use Rattle.std.proofs.lemmas.List.{drop-map, get_or-drop, get_or-take, length-append, length-drop, length-map, length-take-le, map-id, take-append-drop, take-map, take_at}
use Rattle.std.specs.Char.{to_ascii_uppercase}
use Rattle.memchr.specs.Find.{FindsNeedle, Nowhere, OccursAt}
use Rattle.memchr.proofs.lemmas.MatchLemmas.{OccursAt-part, OccursAt-from_part}
use Rattle.glob_match.specs.declared.comparator.Comparator.{Comparator}
use Rattle.glob_match.specs.declared.comparator.Comparator.TheVariants.{Octet, Casemap}
use Rattle.glob_match.specs.declared.token.Token.TheVariants.{Literal}
use Rattle.glob_match.specs.Comparison.{compared, compared_octet, is_match}
use Rattle.glob_match.specs.Containment.{begins_with, first_place}
use Rattle.glob_match.proofs.Places.{IsPlace, place_of, place_once}
use Rattle.glob_match.proofs.Texts.{begins_from, begins_since, equal_from, equal_since}

module _ (comparator : Comparator) (value text : List ℕ) where
  -- a part of what is compared is what is compared of the part
  part : (n k : ℕ) → take n (drop k (compared comparator value)) ≡ compared comparator (take n (drop k value))
  part n k =
      ap (take n) (drop-map (compared_octet comparator) k value) ∙ take-map (compared_octet comparator) n (drop k value)

  occurs_begins : (k : ℕ) → OccursAt (compared comparator value) (compared comparator text) k
      → begins_with comparator (map Literal text) (drop k value) ≡ true
  occurs_begins k occurs =
      let n = length (compared comparator text) in
      let same : compared comparator (take n (drop k value)) ≡ compared comparator text =
      sym (part n k) ∙ OccursAt-part (compared comparator value) (compared comparator text) k occurs in
      subst (λ v. begins_with comparator (map Literal text) v ≡ true) (take-append-drop n (drop k value))
      (begins_since comparator text (take n (drop k value)) (drop n (drop k value)) same)

  begins_occurs : (k : ℕ) → k ≤ length value → begins_with comparator (map Literal text) (drop k value) ≡ true
      → OccursAt (compared comparator value) (compared comparator text) k
  begins_occurs k within begins =
      let (stretch, after, e, same) = begins_from comparator text (drop k value) begins in
      let n = length (compared comparator text) in
      let length_text : n ≡ length text = length-map text (compared_octet comparator) in
      let lengths : length stretch ≡ n = sym (length-map stretch (compared_octet comparator)) ∙ ap length same in
      let fits : k + n ≤ length (compared comparator value) =
      omega (arith, length-map value (compared_octet comparator), length-drop k value, ap length e, length-append stretch after) in
      OccursAt-from_part (compared comparator value) (compared comparator text) k fits
      (part n k ∙ ap (λ v. compared comparator (take n v)) e ∙ ap (compared comparator) (take_at stretch after n lengths) ∙ same)

  -- what a search for what is compared gives
  pub found : (r : Option ℕ) → FindsNeedle (compared comparator value) (compared comparator text) 0 r
      → r ≡ first_place (begins_with comparator (map Literal text)) value
  found r finds = place_once (begins_with comparator (map Literal text)) value r _ (is_place r finds) (place_of (begins_with comparator (map Literal text)) value)
    where
      longest : length (compared comparator value) ≡ length value
      longest = length-map value (compared_octet comparator)

      fails : (j : ℕ) → j ≤ length value → (OccursAt (compared comparator value) (compared comparator text) j → ⊥)
          → begins_with comparator (map Literal text) (drop j value) ≡ false
      fails j within none = false_from_ne_true (begins_with comparator (map Literal text) (drop j value)) (λ begins. none (begins_occurs j within begins))

      is_place : (r : Option ℕ) → FindsNeedle (compared comparator value) (compared comparator text) 0 r
          → IsPlace (begins_with comparator (map Literal text)) value r
      is_place None none = λ j within. fails j within (none j (omega arith) (omega (arith, longest)))
      is_place (Some k) (first, occurs) =
          let high = first.high in
          let within : k ≤ length value = omega (arith, longest) in
          (within, occurs_begins k occurs, λ j less. fails j (omega arith) (first.before j (omega arith) less))

-- octets that are compared as they are
pub found_octets : (value text : List ℕ) (r : Option ℕ) → FindsNeedle value text 0 r
    → r ≡ first_place (begins_with Octet (map Literal text)) value
found_octets value text r finds =
    found Octet value text r (subst (λ v. FindsNeedle v (map (λ (x : ℕ). x) text) 0 r) (sym (map-id value)) (subst (λ t. FindsNeedle value t 0 r) (sym (map-id text)) finds))

-- ---- windows

module _ (value text : List ℕ) (start n : ℕ) (within : start + n ≤ length value) where
  pub window_length : length (take n (drop start value)) ≡ n
  window_length = length-take-le n (drop start value) (omega (arith, length-drop start value))

  read : (j : ℕ) → j < n → get_or (take n (drop start value)) j 0 ≡ get_or value (start + j) 0
  read j h = get_or-take n (drop start value) j 0 h ∙ get_or-drop start value j 0

  -- what stands in the window stands in the value
  pub window_from : (k : ℕ) → OccursAt (take n (drop start value)) text k → OccursAt value text (start + k)
  window_from k occurs = record {
    fits = omega (arith, window_length, occurs.fits);
    reads = λ j h.
        let sum : (start + k) + j ≡ start + (k + j) = omega arith in
        ap (λ i. get_or value i 0) sum ∙ sym (read (k + j) (omega (arith, window_length, occurs.fits))) ∙ occurs.reads j h;
  }

  -- what stands in the value within the window stands in the window
  pub window_since : (k : ℕ) → k + length text ≤ n → OccursAt value text (start + k) → OccursAt (take n (drop start value)) text k
  window_since k fits occurs = record {
    fits = omega (arith, window_length);
    reads = λ j h.
        let sum : (start + k) + j ≡ start + (k + j) = omega arith in
        read (k + j) (omega arith) ∙ ap (λ i. get_or value i 0) (sym sum) ∙ occurs.reads j h;
  }

  -- what isn't in the window is nowhere before the next one
  pub window_none : FindsNeedle (take n (drop start value)) text 0 None → Nowhere (OccursAt value text) 0 start
      → (j : ℕ) → j + length text ≤ start + n → OccursAt value text j → ⊥
  window_none none before j h occurs =
      elim (cases_lt j start) [
        | inl less ↦ before j (omega arith) less occurs
        | inr from ↦
            let e : start + (j - start) ≡ j = omega arith in
            none (j - start) (omega arith) (omega (arith, window_length)) (window_since (j - start) (omega arith) (subst (OccursAt value text) (sym e) occurs))
      ]

  pub window_some : (k : ℕ) → FindsNeedle (take n (drop start value)) text 0 (Some k) → Nowhere (OccursAt value text) 0 start
      → FindsNeedle value text 0 (Some (start + k))
  window_some k (first, occurs) before =
      let there = window_from k occurs in
      let fits = occurs.fits in
      let high = first.high in (
        record {
          low = omega arith;
          high = omega (arith, there.fits);
          before = λ j low less at.
              elim (cases_lt j start) [
                | inl early ↦ before j (omega arith) early at
                | inr from ↦
                    let e : start + (j - start) ≡ j = omega arith in
                    first.before (j - start) (omega arith) (omega arith)
                    (window_since (j - start) (omega (arith, window_length)) (subst (OccursAt value text) (sym e) at))
              ];
        },
        there,
      )

-- a window that was folded is that window of what is compared
pub folded_window : (value window new : List ℕ) (start n : ℕ) → start + n ≤ length value
    → new ≡ map to_ascii_uppercase (take ((start + n) - start) (drop start value))
    → take n (new ++ drop n window) ≡ take n (drop start (compared Casemap value))
folded_window value window new start n within e =
    let size : (start + n) - start ≡ n = omega arith in
    let folded : new ≡ map to_ascii_uppercase (take n (drop start value)) = e ∙ ap (λ k. map to_ascii_uppercase (take k (drop start value))) size in
    let long : length new ≡ n =
    ap length folded ∙ length-map (take n (drop start value)) to_ascii_uppercase ∙ length-take-le n (drop start value) (omega (arith, length-drop start value)) in
    take_at new (drop n window) n long ∙ folded ∙ sym (part Casemap value value n start)

-- ---- octet by octet

module _ (value text : List ℕ) (k : ℕ) (within : k + length text ≤ length value) where
  abbrev stretch : List ℕ
  stretch = take ((k + length text) - k) (drop k value)

  size : (k + length text) - k ≡ length (compared Casemap text)
  size = omega (arith, length-map text to_ascii_uppercase)

  pub occurs_from_equal : is_match Casemap stretch text ≡ true → OccursAt (compared Casemap value) (compared Casemap text) k
  occurs_from_equal equal =
      OccursAt-from_part (compared Casemap value) (compared Casemap text) k (omega (arith, length-map text to_ascii_uppercase, length-map value to_ascii_uppercase))
      (part Casemap value text (length (compared Casemap text)) k ∙ ap (λ n. compared Casemap (take n (drop k value))) (sym size) ∙ equal_from Casemap stretch text equal)

  pub equal_from_occurs : OccursAt (compared Casemap value) (compared Casemap text) k → is_match Casemap stretch text ≡ true
  equal_from_occurs occurs =
      equal_since Casemap stretch text
      (ap (λ n. compared Casemap (take n (drop k value))) size ∙ sym (part Casemap value text (length (compared Casemap text)) k)
      ∙ OccursAt-part (compared Casemap value) (compared Casemap text) k occurs)
