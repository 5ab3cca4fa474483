-- How long segments are.
use Rattle.std.proofs.Common.{◌≡◌, ℕ, zero, suc, ◌+◌, ◌-◌, ◌<◌, ◌≤◌, ◌==◌, ◌&&◌, Bool, true, false, List, [], ◌∷◌, length, All, Option, Some, None, option_map, if◌then◌else◌, refl, sym, ap, ◌∙◌, inl, inr, arith}
use Rattle.std.specs.Prelude.{nat_le}
use Rattle.std.specs.List.{list_all, sum_by}
use Rattle.std.specs.Option.{option_and_then}
use Rattle.std.proofs.lemmas.Bool.{cases_Bool}
use Rattle.std.proofs.lemmas.List.Elements.{All-cons}
use Rattle.std.proofs.lemmas.List.Sums.{sum_by-cons}
use Rattle.sieve_references.specs.References.{Segment, stretch, variable, capture, beyond, foreign, is_identifier, is_number, value_after, capture_of, with_octet, words, before_brace, reference_of, Reference, with_rest, reference_at, with_one, segments_after, segments, extent_of}
use Rattle.sieve_references.specs.Reading.{is_element}

-- ---- a reference

-- octets of the first of the words
abbrev first_len : List (List ℕ) → ℕ
first_len [] = 0
first_len (word ∷ others) = length word

one_more : (x : ℕ) (found : List (List ℕ)) → first_len (with_octet x found) ≤ suc (first_len found)
one_more x [] = omega arith
one_more x (word ∷ others) = omega arith

first_within : (inside : List ℕ) → first_len (words inside) ≤ length inside
first_within [] = omega arith
first_within (x ∷ xs) =
    elim (cases_Bool (x == 46)) [
      | inl dot ↦ rw dot (omega arith)
      | inr within ↦ rw within (omega (arith, one_more x (words xs), first_within xs))
    ]

captured : (n : ℕ) → extent_of (capture_of n) ≡ 4
captured n = elim (cases_Bool (nat_le n 9)) [ inl small ↦ rw small refl | inr large ↦ rw large refl ]

some_name : (word : List ℕ) → is_identifier word ≡ true → 0 < length word
some_name [] e = absurd (cc)
some_name (x ∷ xs) e = omega arith

some_number : (word : List ℕ) → is_number word ≡ true → 0 < length word
some_number [] e = absurd (cc)
some_number (x ∷ xs) e = omega arith

of_words : (found : List (List ℕ)) (segment : Segment) → reference_of found ≡ Some segment → extent_of segment ≤ 3 + first_len found
of_words [] segment e = absurd (cc)
of_words (word ∷ []) segment e =
    elim (cases_Bool (is_identifier word)) [
      | inl name ↦
          let is : Some (variable word) ≡ Some segment = sym (rw name refl) ∙ e in
          let same : variable word ≡ segment = cc in
          omega (arith, ap extent_of same)
      | inr other ↦
          elim (cases_Bool (is_number word)) [
            | inl number ↦
                let is : Some (capture_of (value_after 0 word)) ≡ Some segment = sym (rw (other, number) refl) ∙ e in
                let same : capture_of (value_after 0 word) ≡ segment = cc in
                omega (arith, ap extent_of same, captured (value_after 0 word), some_number word number)
            | inr neither ↦ let is : None ≡ Some segment = sym (rw (other, neither) refl) ∙ e in absurd (cc)
          ]
    ]
of_words (word ∷ another ∷ others) segment e =
    elim (cases_Bool (is_identifier word)) [
      | inl name ↦ either (list_all is_element (another ∷ others)) (some_name word name) (rw name at e)
      | inr other ↦ let is : None ≡ Some segment = sym (rw other refl) ∙ e in absurd (cc)
    ]
  where
    either : (b : Bool) → 0 < length word → (if b then Some foreign else None) ≡ Some segment → extent_of segment ≤ 3 + length word
    either true some e = let same : foreign ≡ segment = cc in omega (arith, ap extent_of same)
    either false some e = absurd (cc)

brace_within : (rest inside : List ℕ) → before_brace rest ≡ Some inside → length inside < length rest
brace_within [] inside e = absurd (cc)
brace_within (x ∷ xs) inside e = step (x == 125) (before_brace xs) (λ found is. brace_within xs found is) e
  where
    step : (b : Bool) (o : Option (List ℕ)) → ((found : List ℕ) → o ≡ Some found → length found < length xs)
        → (if b then Some [] else option_map (λ found. x ∷ found) o) ≡ Some inside → length inside < suc (length xs)
    step true o within e = let same : [] ≡ inside = cc in omega (arith, ap length same)
    step false None within e = absurd (cc)
    step false (Some found) within e = let same : x ∷ found ≡ inside = cc in omega (arith, ap length same, within found refl)

-- a reference isn't longer than its text, and its segment isn't longer than the reference
record IsWithin (xs : List ℕ) (found : Reference) : Type 0 where
  pub left : found.rest ≤ length xs
  pub segment : extent_of found.segment ≤ suc found.rest

reference_within : (x : ℕ) (xs : List ℕ) (found : Reference) → reference_at (x ∷ xs) ≡ Some found → IsWithin xs found
reference_within x [] found e = absurd (cc)
reference_within x (y ∷ rest) found e = begun ((x == 36) && (y == 123)) e
  where
    named : (inside : List ℕ) → length inside < length rest → (o : Option Segment) → reference_of (words inside) ≡ o
        → option_map (with_rest (length inside + 2)) o ≡ Some found → IsWithin (y ∷ rest) found
    named inside lt None at e = absurd (cc)
    named inside lt (Some segment) at e =
        let same : with_rest (length inside + 2) segment ≡ found = cc in
        let n : length inside + 2 ≡ found.rest = ap (λ f. f.rest) same in
        let is : segment ≡ found.segment = ap (λ f. f.segment) same in
        record {
          left = omega (arith, lt, n);
          segment = omega (arith, n, ap extent_of is, of_words (words inside) segment at, first_within inside);
        }

    closed : (o : Option (List ℕ)) → before_brace rest ≡ o → option_and_then (λ inside. option_map (with_rest (length inside + 2)) (reference_of (words inside))) o ≡ Some found → IsWithin (y ∷ rest) found
    closed None at e = absurd (cc)
    closed (Some inside) at e = named inside (brace_within rest inside at) (reference_of (words inside)) refl e

    begun : (b : Bool) → (if b then option_and_then (λ inside. option_map (with_rest (length inside + 2)) (reference_of (words inside))) (before_brace rest) else None) ≡ Some found → IsWithin (y ∷ rest) found
    begun true e = closed (before_brace rest) refl e
    begun false e = absurd (cc)

-- ---- segments

octet_more : (x : ℕ) (found : List Segment) → sum_by extent_of (with_one x found) ≤ suc (sum_by extent_of found)
octet_more x [] = omega arith
octet_more x (stretch octets ∷ others) = omega (arith, sum_by-cons extent_of (stretch (x ∷ octets)) others, sum_by-cons extent_of (stretch octets) others)
octet_more x (variable name ∷ others) = omega (arith, sum_by-cons extent_of (stretch (x ∷ [])) (variable name ∷ others))
octet_more x (capture n ∷ others) = omega (arith, sum_by-cons extent_of (stretch (x ∷ [])) (capture n ∷ others))
octet_more x (beyond ∷ others) = omega (arith, sum_by-cons extent_of (stretch (x ∷ [])) (beyond ∷ others))
octet_more x (foreign ∷ others) = omega (arith, sum_by-cons extent_of (stretch (x ∷ [])) (foreign ∷ others))

after_within : (n : ℕ) (text : List ℕ) → sum_by extent_of (segments_after n text) ≤ length text - n
after_within n [] = omega arith
after_within (suc n) (x ∷ xs) = let less : suc (length xs) - suc n ≡ length xs - n = omega arith in rw less (after_within n xs)
after_within zero (x ∷ xs) = step (reference_at (x ∷ xs)) refl (λ n. after_within n xs)
  where
    step : (o : Option Reference) → reference_at (x ∷ xs) ≡ o → ((n : ℕ) → sum_by extent_of (segments_after n xs) ≤ length xs - n) → sum_by extent_of (segments (x ∷ xs)) ≤ suc (length xs) - 0
    step None at others =
        let here : segments (x ∷ xs) ≡ with_one x (segments xs) = rw at refl in
        omega (arith, ap (sum_by extent_of) here, octet_more x (segments xs), others 0)
    step (Some found) at others =
        let here : segments (x ∷ xs) ≡ found.segment ∷ segments_after found.rest xs = rw at refl in
        let within = reference_within x xs found at in
        omega (arith, ap (sum_by extent_of) here, sum_by-cons extent_of found.segment (segments_after found.rest xs), within.left, within.segment, others found.rest)

-- all segments together
pub together : (text : List ℕ) → sum_by extent_of (segments text) ≤ length text
together text = omega (arith, after_within 0 text)

-- what is within a bound together is so one by one
one_by_one : {A : Type 0} (extent : A → ℕ) (xs : List A) (n : ℕ) → sum_by extent xs ≤ n → All (λ x. extent x ≤ n) xs
one_by_one extent [] n le = λ k d lt. absurd (omega arith)
one_by_one extent (x ∷ xs) n le =
    let cut = sum_by-cons extent x xs in
    All-cons (λ x. extent x ≤ n) x xs (omega (arith, le, cut)) (one_by_one extent xs n (omega (arith, le, cut)))

pub each : (text : List ℕ) → All (λ segment. extent_of segment ≤ length text) (segments text)
each text = one_by_one extent_of (segments text) (length text) (together text)
