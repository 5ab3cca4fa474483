-- What each segment of a key leaves to be matched.
use Rattle.std.proofs.Common.{◌≡◌, ℕ, ◌+◌, ◌-◌, ◌<◌, ◌≤◌, Bool, true, false, List, [], ◌∷◌, ◌++◌, length, take, drop, Option, Some, None, MatchOption, Bor, refl, sym, ap, subst, ◌∙◌, arith}
use Rattle.std.proofs.lemmas.List.{append-nil, drop-drop, length-drop, length-take, take-map}
use Rattle.std.specs.Option.{option_map}
use Rattle.glob_match.specs.declared.captures.Stretch.{Stretch}
use Rattle.glob_match.specs.declared.comparator.Comparator.{Comparator}
use Rattle.glob_match.specs.declared.token.Token.{Token}
use Rattle.glob_match.specs.declared.token.Token.TheVariants.{Literal, AnyOctet, Star}
use Rattle.glob_match.specs.Containment.{begins_with, first_place}
use Rattle.glob_match.specs.Captures.{capture_places, cut, places_from, stretch_at, whole}
use Rattle.glob_match.specs.Matching.{least_fit, max_captures}
use Rattle.glob_match.specs.Segments.{NoStar, any_octets, any_places, with_places, with_stretches}
use Rattle.glob_match.specs.Tokens.{literals, tokens_of}
use Rattle.glob_match.proofs.Added.{with_stretches-append}
use Rattle.glob_match.proofs.Earliest.{last_found, last_none, next_segment, no_segment, segment_fits, segment_none, whole_found, whole_none}
use Rattle.glob_match.proofs.Places.{IsPlace, place_of}
use Rattle.glob_match.proofs.Plain.{begins_length}
use Rattle.glob_match.proofs.Standing.{last_places, only_places, segment_places, star_places}

-- what is made of what is made
maps_alike : {A B C : Type 0} (f : B → C) (g : A → B) (h : A → C) → ((x : A) → f (g x) ≡ h x) → (o : Option A) → option_map f (option_map g o) ≡ option_map h o
maps_alike f g h same None = refl
maps_alike f g h same (Some x) = ap Some (same x)

places_after : (value : List ℕ) (key : List Token) (stretches : List (List ℕ)) → capture_places value key stretches ≡ with_places (cut (whole value) ∷ []) 0 key stretches
places_after value key stretches = sym (take-map cut max_captures (whole value ∷ places_from 0 key stretches))

module _ (comparator : Comparator) (value : List ℕ) (segment : List Token) (no_star : NoStar segment) where
  abbrev begins : List ℕ → Bool
  begins = begins_with comparator segment

  -- ---- behind a star, at the end

  module _ (start : ℕ) (captures : List Stretch) (within : start ≤ length value) where
    abbrev made : List Token → List (List ℕ) → List Stretch
    made key = with_places captures start (Star ∷ key)

    abbrev left : List Token → Option (List Stretch)
    left key = option_map (made key) (least_fit comparator (Star ∷ key) (drop start value))

    pub end_short : length value - start < length segment → None ≡ left segment
    end_short less =
        sym (ap (option_map (made segment)) (last_none comparator segment no_star (drop start value) (λ k e. absurd (omega (arith, length-drop start value)))))

    pub end_fails : (place : ℕ) → place + length segment ≡ length value → begins (drop place value) ≡ false → None ≡ left segment
    end_fails place long fails =
        sym (ap (option_map (made segment)) (last_none comparator segment no_star (drop start value) (λ k e.
        let at : start + k ≡ place = omega (arith, length-drop start value) in
        ap begins (drop-drop k start value ∙ ap (λ n. drop n value) at) ∙ fails)))

    pub end_found : (place : ℕ) → start ≤ place → place + length segment ≡ length value → begins (drop place value) ≡ true
        → Some (with_stretches captures (record { start = start; end = place } ∷ any_places place segment)) ≡ left segment
    end_found place from long there =
        let k = place - start in
        let at : start + k ≡ place = omega arith in
        let rest = drop-drop k start value ∙ ap (λ n. drop n value) at in
        let begun : begins (drop k (drop start value)) ≡ true = ap begins rest ∙ there in
        let wide : length (take k (drop start value)) ≡ k = omega (arith, length-take k (drop start value), length-drop start value) in
        let stands : places_from start (Star ∷ segment) (take k (drop start value) ∷ any_octets segment (drop k (drop start value)))
        ≡ record { start = start; end = place } ∷ any_places place segment =
        last_places comparator start k segment (take k (drop start value)) (drop k (drop start value)) no_star begun wide
        ∙ ap (λ n. record { start = start; end = n } ∷ any_places n segment) at in
        sym (ap (option_map (made segment)) (last_found comparator segment no_star (drop start value) k (omega (arith, length-drop start value)) begun)
        ∙ ap (λ places. Some (with_stretches captures places)) stands)

    -- ---- behind a star, with a star after the segment

    pub next_fails : (key : List Token) → None ≡ first_place begins (drop start value) → None ≡ left (segment ++ key)
    next_fails key none = sym (ap (option_map (made (segment ++ key))) (no_segment comparator segment no_star key (drop start value) none))

    module _ (k : ℕ) (place : Some k ≡ first_place begins (drop start value)) where
      pub next_within : start + k + length segment ≤ length value
      next_within =
          let is : IsPlace begins (drop start value) (Some k) = subst (IsPlace begins (drop start value)) (sym place) (place_of begins (drop start value)) in
          omega (arith, is.0, begins_length comparator segment (drop k (drop start value)) is.1, length-drop k (drop start value), length-drop start value)

      pub next_found : (key : List Token)
          → option_map (with_places (with_stretches captures (stretch_at start k ∷ any_places (start + k) segment)) (start + (k + length segment)) (Star ∷ key))
          (least_fit comparator (Star ∷ key) (drop (start + (k + length segment)) value))
          ≡ left (segment ++ Star ∷ key)
      next_found key =
          let is : IsPlace begins (drop start value) (Some k) = subst (IsPlace begins (drop start value)) (sym place) (place_of begins (drop start value)) in
          let text = drop start value in
          let first = stretch_at start k ∷ any_places (start + k) segment in
          let wide : length (take k text) ≡ k = omega (arith, length-take k text, is.0) in
          let next : start + k + length segment ≡ start + (k + length segment) = omega arith in
          let rest = least_fit comparator (Star ∷ key) (drop (k + length segment) text) in
          ap (λ v. option_map (with_places (with_stretches captures first) (start + (k + length segment)) (Star ∷ key)) (least_fit comparator (Star ∷ key) v))
          (sym (drop-drop (k + length segment) start value))
          ∙ sym (maps_alike (made (segment ++ Star ∷ key)) (λ ss. take k text ∷ (any_octets segment (drop k text) ++ ss))
          (with_places (with_stretches captures first) (start + (k + length segment)) (Star ∷ key))
          (λ ss.
          ap (with_stretches captures) (star_places comparator (Star ∷ key) ss start k segment (take k text) (drop k text) no_star is.1 wide
          ∙ ap (λ n. first ++ places_from n (Star ∷ key) ss) next)
          ∙ sym (with_stretches-append captures first (places_from (start + (k + length segment)) (Star ∷ key) ss)))
          rest)
          ∙ sym (ap (option_map (made (segment ++ Star ∷ key))) (next_segment comparator segment no_star key text k place))

  -- ---- the first segment

  abbrev first_captures : List Stretch
  first_captures = with_stretches (cut (whole value) ∷ []) (any_places 0 segment)

  pub first_fails : (key : List Token) → begins value ≡ false → None ≡ option_map (capture_places value (segment ++ key)) (least_fit comparator (segment ++ key) value)
  first_fails key fails = sym (ap (option_map (capture_places value (segment ++ key))) (segment_none comparator key segment value no_star fails))

  pub first_found : (key : List Token) → begins value ≡ true
      → option_map (with_places first_captures (length segment) key) (least_fit comparator key (drop (length segment) value))
      ≡ option_map (capture_places value (segment ++ key)) (least_fit comparator (segment ++ key) value)
  first_found key there =
      let rest = least_fit comparator key (drop (length segment) value) in
      sym (maps_alike (capture_places value (segment ++ key)) (λ ss. any_octets segment value ++ ss) (with_places first_captures (length segment) key)
      (λ ss.
      places_after value (segment ++ key) (any_octets segment value ++ ss)
      ∙ ap (with_stretches (cut (whole value) ∷ [])) (segment_places comparator key ss 0 segment value no_star there
      ∙ ap (λ n. any_places 0 segment ++ places_from n key ss) (omega arith))
      ∙ sym (with_stretches-append (cut (whole value) ∷ []) (any_places 0 segment) (places_from (length segment) key ss)))
      rest)
      ∙ sym (ap (option_map (capture_places value (segment ++ key))) (segment_fits comparator key segment value no_star there))

  pub whole_fits : begins value ≡ true → length value ≡ length segment
      → Some first_captures ≡ option_map (capture_places value segment) (least_fit comparator segment value)
  whole_fits there long =
      ap Some (sym (places_after value segment (any_octets segment value)
      ∙ ap (with_stretches (cut (whole value) ∷ [])) (only_places comparator segment value no_star there)))
      ∙ sym (ap (option_map (capture_places value segment)) (whole_found comparator segment no_star value there long))

  pub whole_fails : (length value ≡ length segment → ⊥) → None ≡ option_map (capture_places value segment) (least_fit comparator segment value)
  whole_fails other = sym (ap (option_map (capture_places value segment)) (whole_none comparator segment no_star value (λ there. other)))

-- ---- how a key is split

pub split_tokens : (key segment : List Token) (rest : Option (Bor (List ℕ)))
    → MatchOption rest (key ≡ segment) (λ r. key ≡ segment ++ Star ∷ tokens_of r.now) → (more : List Token) × (key ≡ segment ++ more)
split_tokens key segment None e = ([], e ∙ sym (append-nil segment))
split_tokens key segment (Some r) e = (Star ∷ tokens_of r.now, e)

pub literals-append : (xs ys : List Token) → literals (xs ++ ys) ≡ literals xs + literals ys
literals-append [] ys = omega arith
literals-append (Literal octet ∷ xs) ys = omega (arith, literals-append xs ys)
literals-append (AnyOctet ∷ xs) ys = literals-append xs ys
literals-append (Star ∷ xs) ys = literals-append xs ys

pub literals_most : (key : List Token) → literals key ≤ length key
literals_most [] = omega arith
literals_most (Literal octet ∷ key) = omega (arith, literals_most key)
literals_most (AnyOctet ∷ key) = omega (arith, literals_most key)
literals_most (Star ∷ key) = omega (arith, literals_most key)
