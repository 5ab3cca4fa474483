-- Where the stretches of wildcards stand, and what their texts are.
use Rattle.std.proofs.Common.{◌≡◌, ℕ, zero, suc, ◌+◌, ◌-◌, ◌≤◌, true, List, [], ◌∷◌, ◌++◌, map, length, take, drop, Option, Some, None, inl, inr, refl, sym, ap, subst, ◌∙◌, arith, min}
use Rattle.std.proofs.Math.Seq.{take-append_seam, drop-append_seam}
use Rattle.std.proofs.lemmas.Bool.{false≢true, and_parts, cases_lt}
use Rattle.std.proofs.lemmas.List.{append-nil, drop-drop, length-append, length-drop, length-take, take-map, take-take, take_all}
use Rattle.std.specs.List.{slice_range}
use Rattle.std.specs.Option.{option_map}
use Rattle.glob_match.specs.declared.captures.Stretch.{Stretch}
use Rattle.glob_match.specs.declared.comparator.Comparator.{Comparator}
use Rattle.glob_match.specs.declared.token.Token.{Token}
use Rattle.glob_match.specs.declared.token.Token.TheVariants.{Literal, AnyOctet, Star}
use Rattle.glob_match.specs.Captures.{LieWithin, capture_places, cut, places_from, places_of_match, stretch_at, texts, whole}
use Rattle.glob_match.specs.Comparison.{same_octet}
use Rattle.glob_match.specs.Containment.{begins_with}
use Rattle.glob_match.specs.Matching.{Fits, captures_of, least_fit, match_of, max_capture, max_captures}
use Rattle.glob_match.specs.Segments.{NoStar, any_octets, any_places}
use Rattle.glob_match.specs.Tokens.{tokens_of}
use Rattle.glob_match.proofs.Least.{least_from}

-- ---- segments

module _ (comparator : Comparator) (key : List Token) (stretches : List (List ℕ)) where
  -- the wildcards of a segment, and then those of what follows it
  pub segment_places : (place : ℕ) (segment : List Token) (value : List ℕ) → NoStar segment → begins_with comparator segment value ≡ true
      → places_from place (segment ++ key) (any_octets segment value ++ stretches) ≡ any_places place segment ++ places_from (place + length segment) key stretches
  segment_places place [] value none begins = ap (λ n. places_from n key stretches) (omega arith)
  segment_places place (token ∷ segment) [] none begins = absurd (false≢true begins)
  segment_places place (Literal octet ∷ segment) (x ∷ xs) none begins =
      segment_places (place + 1) segment xs none (and_parts (same_octet comparator x octet) (begins_with comparator segment xs) begins).1
      ∙ ap (λ n. any_places (place + 1) segment ++ places_from n key stretches) (omega arith)
  segment_places place (AnyOctet ∷ segment) (x ∷ xs) none begins =
      ap (λ places. stretch_at place 1 ∷ places)
      (segment_places (place + 1) segment xs none begins
      ∙ ap (λ n. any_places (place + 1) segment ++ places_from n key stretches) (omega arith))
  segment_places place (Star ∷ segment) (x ∷ xs) none begins = absurd none

  -- the same behind a star that stands for so many octets
  pub star_places : (start k : ℕ) (segment : List Token) (stretch value : List ℕ) → NoStar segment → begins_with comparator segment value ≡ true → length stretch ≡ k
      → places_from start (Star ∷ (segment ++ key)) (stretch ∷ (any_octets segment value ++ stretches))
      ≡ (stretch_at start k ∷ any_places (start + k) segment) ++ places_from (start + k + length segment) key stretches
  star_places start k segment stretch value none begins long =
      ap (λ n. stretch_at start n ∷ places_from (start + n) (segment ++ key) (any_octets segment value ++ stretches)) long
      ∙ ap (λ places. stretch_at start k ∷ places) (segment_places (start + k) segment value none begins)

-- where nothing follows
pub last_places : (comparator : Comparator) (start k : ℕ) (segment : List Token) (stretch value : List ℕ) → NoStar segment → begins_with comparator segment value ≡ true → length stretch ≡ k
    → places_from start (Star ∷ segment) (stretch ∷ any_octets segment value) ≡ stretch_at start k ∷ any_places (start + k) segment
last_places comparator start k segment stretch value none begins long =
    ap (λ ts. places_from start (Star ∷ ts) (stretch ∷ any_octets segment value)) (sym (append-nil segment))
    ∙ ap (λ ss. places_from start (Star ∷ (segment ++ [])) (stretch ∷ ss)) (sym (append-nil (any_octets segment value)))
    ∙ star_places comparator [] [] start k segment stretch value none begins long
    ∙ append-nil (stretch_at start k ∷ any_places (start + k) segment)

pub only_places : (comparator : Comparator) (segment : List Token) (value : List ℕ) → NoStar segment → begins_with comparator segment value ≡ true
    → places_from 0 segment (any_octets segment value) ≡ any_places 0 segment
only_places comparator segment value none begins =
    ap (λ ts. places_from 0 ts (any_octets segment value)) (sym (append-nil segment))
    ∙ ap (places_from 0 (segment ++ [])) (sym (append-nil (any_octets segment value)))
    ∙ segment_places comparator [] [] 0 segment value none begins
    ∙ append-nil (any_places 0 segment)

-- ---- texts

abbrev text_at : List ℕ → Stretch → List ℕ
text_at value stretch = slice_range value stretch.start stretch.end

-- a stretch of a text, and what follows it
taken_text : (value stretch rest : List ℕ) (place : ℕ) → drop place value ≡ stretch ++ rest → text_at value (stretch_at place (length stretch)) ≡ stretch
taken_text value stretch rest place e =
    let size : (place + length stretch) - place ≡ length stretch = omega arith in
    ap (λ n. take n (drop place value)) size ∙ ap (take (length stretch)) e ∙ take-append_seam stretch rest

left_text : (value stretch rest : List ℕ) (place : ℕ) → drop place value ≡ stretch ++ rest → drop (place + length stretch) value ≡ rest
left_text value stretch rest place e = sym (drop-drop (length stretch) place value) ∙ ap (drop (length stretch)) e ∙ drop-append_seam stretch rest

-- what is left is a text's end, so that a stretch of it ends within the text
fits_within : (value stretch rest : List ℕ) (place : ℕ) → place ≤ length value → drop place value ≡ stretch ++ rest → place + length stretch ≤ length value
fits_within value stretch rest place within e = omega (arith, length-drop place value, ap length e, length-append stretch rest)

module _ (comparator : Comparator) (value : List ℕ) where
  pub texts_from : (key : List Token) (place : ℕ) (stretches : List (List ℕ)) (left : List ℕ) → drop place value ≡ left → Fits comparator key stretches left
      → map (text_at value) (places_from place key stretches) ≡ stretches
  texts_from [] place stretches left e fits = sym fits.0
  texts_from (Literal octet ∷ key) place stretches left e (x, rest, is, same, fits) =
      texts_from key (place + 1) stretches rest (left_text value (x ∷ []) rest place (e ∙ is)) fits
  texts_from (AnyOctet ∷ key) place stretches left e (x, rest, others, is, are, fits) =
      let here = e ∙ is in
      ap (λ ss. map (text_at value) (places_from place (AnyOctet ∷ key) ss)) are
      ∙ ap (λ t. t ∷ map (text_at value) (places_from (place + 1) key others)) (taken_text value (x ∷ []) rest place here)
      ∙ ap (λ ts. (x ∷ []) ∷ ts) (texts_from key (place + 1) others rest (left_text value (x ∷ []) rest place here) fits)
      ∙ sym are
  texts_from (Star ∷ key) place stretches left e (stretch, rest, others, is, are, fits) =
      let here = e ∙ is in
      ap (λ ss. map (text_at value) (places_from place (Star ∷ key) ss)) are
      ∙ ap (λ t. t ∷ map (text_at value) (places_from (place + length stretch) key others)) (taken_text value stretch rest place here)
      ∙ ap (λ ts. stretch ∷ ts) (texts_from key (place + length stretch) others rest (left_text value stretch rest place here) fits)
      ∙ sym are

  pub within_from : (key : List Token) (place : ℕ) (stretches : List (List ℕ)) (left : List ℕ) → place ≤ length value → drop place value ≡ left → Fits comparator key stretches left
      → LieWithin (length value) (places_from place key stretches)
  within_from [] place stretches left within e fits = tt
  within_from (Literal octet ∷ key) place stretches left within e (x, rest, is, same, fits) =
      within_from key (place + 1) stretches rest (fits_within value (x ∷ []) rest place within (e ∙ is)) (left_text value (x ∷ []) rest place (e ∙ is)) fits
  within_from (AnyOctet ∷ key) place stretches left within e (x, rest, others, is, are, fits) =
      let here = e ∙ is in
      let inside = fits_within value (x ∷ []) rest place within here in
      subst (λ ss. LieWithin (length value) (places_from place (AnyOctet ∷ key) ss)) (sym are)
      (omega arith, omega (arith, inside), within_from key (place + 1) others rest inside (left_text value (x ∷ []) rest place here) fits)
  within_from (Star ∷ key) place stretches left within e (stretch, rest, others, is, are, fits) =
      let here = e ∙ is in
      let inside = fits_within value stretch rest place within here in
      subst (λ ss. LieWithin (length value) (places_from place (Star ∷ key) ss)) (sym are)
      (omega arith, omega (arith, inside), within_from key (place + length stretch) others rest inside (left_text value stretch rest place here) fits)

-- a stretch that is cut
cut_text : (value : List ℕ) (stretch : Stretch) → text_at value (cut stretch) ≡ take max_capture (text_at value stretch)
cut_text value stretch =
    let start = stretch.start in
    let wide = stretch.end - stretch.start in
    let size : (start + min wide max_capture) - start ≡ min wide max_capture = omega arith in
    ap (λ n. take n (drop start value)) size
    ∙ elim (cases_lt max_capture wide) [
      | inl more ↦
          let e : min wide max_capture ≡ max_capture = omega arith in
          ap (λ n. take n (drop start value)) e ∙ sym (take-take max_capture wide (drop start value) (omega arith))
      | inr short ↦
          let e : min wide max_capture ≡ wide = omega arith in
          ap (λ n. take n (drop start value)) e
          ∙ sym (take_all max_capture (take wide (drop start value)) (omega (arith, length-take wide (drop start value))))
    ]

cut_texts : (value : List ℕ) (stretches : List Stretch) → map (text_at value) (map cut stretches) ≡ map (take max_capture) (map (text_at value) stretches)
cut_texts value [] = refl
cut_texts value (stretch ∷ stretches) =
    ap (λ t. t ∷ map (text_at value) (map cut stretches)) (cut_text value stretch)
    ∙ ap (λ ts. take max_capture (text_at value stretch) ∷ ts) (cut_texts value stretches)

-- the texts of the captures
pub capture_texts : (comparator : Comparator) (value : List ℕ) (key : List Token) (stretches : List (List ℕ)) → Fits comparator key stretches value
    → texts value (capture_places value key stretches) ≡ captures_of value stretches
capture_texts comparator value key stretches fits =
    let all : take (length value - 0) value ≡ value = take_all (length value - 0) value (omega arith) in
    cut_texts value (take max_captures (whole value ∷ places_from 0 key stretches))
    ∙ ap (map (take max_capture))
    (sym (take-map (text_at value) max_captures (whole value ∷ places_from 0 key stretches))
    ∙ ap (λ t. take max_captures (t ∷ map (text_at value) (places_from 0 key stretches))) all
    ∙ ap (λ ts. take max_captures (value ∷ ts)) (texts_from comparator value key 0 stretches value refl fits))

pub match_texts : (comparator : Comparator) (value key : List ℕ) (found : Option (List Stretch)) → found ≡ places_of_match comparator value key
    → option_map (texts value) found ≡ match_of comparator value key
match_texts comparator value key found e =
    ap (option_map (texts value)) e ∙ by (least_fit comparator (tokens_of key) value) refl
  where
    by : (o : Option (List (List ℕ))) → least_fit comparator (tokens_of key) value ≡ o
        → option_map (texts value) (option_map (capture_places value (tokens_of key)) o) ≡ option_map (captures_of value) o
    by None is = refl
    by (Some stretches) is = ap Some (capture_texts comparator value (tokens_of key) stretches (least_from comparator (tokens_of key) value stretches is).fits)

-- the captures lie in the value
cut_within : (size n : ℕ) (stretches : List Stretch) → LieWithin size stretches → LieWithin size (map cut (take n stretches))
cut_within size zero stretches lie = tt
cut_within size (suc n) [] lie = tt
cut_within size (suc n) (stretch ∷ stretches) lie = (omega arith, omega (arith, lie.0, lie.1), cut_within size n stretches lie.2)

pub captures_within : (comparator : Comparator) (value : List ℕ) (key : List Token) (stretches : List (List ℕ)) → Fits comparator key stretches value
    → LieWithin (length value) (capture_places value key stretches)
captures_within comparator value key stretches fits =
    cut_within (length value) max_captures (whole value ∷ places_from 0 key stretches)
    (omega arith, omega arith, within_from comparator value key 0 stretches value (omega arith) refl fits)
