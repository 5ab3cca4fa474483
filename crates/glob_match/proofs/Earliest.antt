-- The least stretches by segments: each segment but the last one at its first place, the last one at the end.
use Rattle.std.proofs.Common.{◌≡◌, ℕ, zero, suc, ◌+◌, ◌-◌, ◌<◌, ◌≤◌, Bool, true, false, ◌&&◌, List, [], ◌∷◌, ◌++◌, length, take, drop, Option, Some, None, inl, inr, refl, sym, ap, subst, ◌∙◌, arith}
use Rattle.std.proofs.lemmas.Bool.{true≢false, false≢true, and_parts, cond_both, cond-true, cases_Bool, cases_lt}
use Rattle.std.proofs.lemmas.List.{append-nil, drop-drop, length-drop}
use Rattle.std.specs.Option.{option_map, option_or}
use Rattle.glob_match.specs.declared.comparator.Comparator.{Comparator}
use Rattle.glob_match.specs.declared.token.Token.{Token}
use Rattle.glob_match.specs.declared.token.Token.TheVariants.{Literal, AnyOctet, Star}
use Rattle.glob_match.specs.Comparison.{same_octet}
use Rattle.glob_match.specs.Containment.{begins_with, first_place}
use Rattle.glob_match.specs.Matching.{Fit, empty_fit, star_fit, lengthened, least_fit}
use Rattle.glob_match.specs.Segments.{NoStar, any_octets}
use Rattle.glob_match.proofs.Places.{IsPlace, place_of}
use Rattle.glob_match.proofs.Plain.{begins_length}

-- ---- options

map_same : (f : List (List ℕ) → List (List ℕ)) → ((ss : List (List ℕ)) → f ss ≡ ss) → (o : Option (List (List ℕ))) → o ≡ option_map f o
map_same f same None = refl
map_same f same (Some ss) = ap Some (sym (same ss))

pub map_map : (f g : List (List ℕ) → List (List ℕ)) (o : Option (List (List ℕ))) → option_map g (option_map f o) ≡ option_map (λ ss. g (f ss)) o
map_map f g None = refl
map_map f g (Some ss) = refl

map_none : (f : List (List ℕ) → List (List ℕ)) (o : Option (List (List ℕ))) → option_map f o ≡ None → o ≡ None
map_none f None e = refl
map_none f (Some ss) e = cc

or_none : (o p : Option (List (List ℕ))) → option_or o p ≡ None → (o ≡ None) × (p ≡ None)
or_none None p e = (refl, e)
or_none (Some ss) p e = cc

-- ---- tokens without stars

module _ (comparator : Comparator) (key : List Token) where
  abbrev after : List Token → List ℕ → Option (List (List ℕ))
  after segment value = option_map (λ ss. any_octets segment value ++ ss) (least_fit comparator key (drop (length segment) value))

  pub segment_fits : (segment : List Token) (value : List ℕ) → NoStar segment → begins_with comparator segment value ≡ true
      → least_fit comparator (segment ++ key) value ≡ after segment value
  segment_fits [] value none begins = map_same (λ ss. [] ++ ss) (λ ss. refl) (least_fit comparator key value)
  segment_fits (token ∷ segment) [] none begins = absurd (false≢true begins)
  segment_fits (Literal octet ∷ segment) (x ∷ xs) none begins =
      let parts = and_parts (same_octet comparator x octet) (begins_with comparator segment xs) begins in
      cond-true (same_octet comparator x octet) (least_fit comparator (segment ++ key) xs) None parts.0 ∙ segment_fits segment xs none parts.1
  segment_fits (AnyOctet ∷ segment) (x ∷ xs) none begins =
      ap (option_map (λ others. (x ∷ []) ∷ others)) (segment_fits segment xs none begins)
      ∙ map_map (λ ss. any_octets segment xs ++ ss) (λ others. (x ∷ []) ∷ others) (least_fit comparator key (drop (length segment) xs))
  segment_fits (Star ∷ segment) (x ∷ xs) none begins = absurd none

  pub segment_none : (segment : List Token) (value : List ℕ) → NoStar segment → begins_with comparator segment value ≡ false
      → least_fit comparator (segment ++ key) value ≡ None
  segment_none [] value none fails = absurd (true≢false fails)
  segment_none (Literal octet ∷ segment) [] none fails = refl
  segment_none (AnyOctet ∷ segment) [] none fails = refl
  segment_none (Star ∷ segment) value none fails = absurd none
  segment_none (Literal octet ∷ segment) (x ∷ xs) none fails =
      cond_both (same_octet comparator x octet) (least_fit comparator (segment ++ key) xs) None (λ o. o ≡ None)
      (λ same. segment_none segment xs none (sym (ap (λ b. b && begins_with comparator segment xs) same) ∙ fails))
      (λ other. refl)
  segment_none (AnyOctet ∷ segment) (x ∷ xs) none fails =
      ap (option_map (λ others. (x ∷ []) ∷ others)) (segment_none segment xs none fails)

-- ---- stars

module _ (fit : Fit) where
  -- what takes nowhere takes not behind a star
  pub star_none : (value : List ℕ) → ((j : ℕ) → j ≤ length value → fit (drop j value) ≡ None) → star_fit fit value ≡ None
  star_none [] none = ap (option_map (λ others. [] ∷ others)) (none 0 (omega arith))
  star_none (x ∷ xs) none =
      let rest = star_none xs (λ j h. none (suc j) (omega arith)) in
      ap (λ o. option_or (option_map (λ others. [] ∷ others) o) (option_map (lengthened x) (star_fit fit xs))) (none 0 (omega arith))
      ∙ ap (option_map (lengthened x)) rest

  -- the first place at which it takes
  pub star_at : (value : List ℕ) (k : ℕ) (ss : List (List ℕ)) → k ≤ length value → ((j : ℕ) → j < k → fit (drop j value) ≡ None)
      → fit (drop k value) ≡ Some ss → star_fit fit value ≡ Some (take k value ∷ ss)
  star_at [] zero ss h none some = ap (option_map (λ others. [] ∷ others)) some
  star_at [] (suc k) ss h none some = absurd (omega arith)
  star_at (x ∷ xs) zero ss h none some =
      ap (λ o. option_or (option_map (λ others. [] ∷ others) o) (option_map (lengthened x) (star_fit fit xs))) some
  star_at (x ∷ xs) (suc k) ss h none some =
      let rest = star_at xs k ss (omega arith) (λ j less. none (suc j) (omega arith)) some in
      ap (λ o. option_or (option_map (λ others. [] ∷ others) o) (option_map (lengthened x) (star_fit fit xs))) (none 0 (omega arith))
      ∙ ap (option_map (lengthened x)) rest

  -- a star that nothing follows in a value has nothing following it in the value's end
  pub star_none_after : (value : List ℕ) (n : ℕ) → star_fit fit value ≡ None → star_fit fit (drop n value) ≡ None
  star_none_after value zero none = none
  star_none_after [] (suc n) none = none
  star_none_after (x ∷ xs) (suc n) none =
      let parts = or_none (option_map (λ others. [] ∷ others) (fit (x ∷ xs))) (option_map (lengthened x) (star_fit fit xs)) none in
      star_none_after xs n (map_none (lengthened x) (star_fit fit xs) parts.1)

-- ---- segments behind a star

module _ (comparator : Comparator) (segment : List Token) (no_star : NoStar segment) where
  abbrev begins : List ℕ → Bool
  begins = begins_with comparator segment

  -- a segment that stands nowhere
  pub no_segment : (key : List Token) (value : List ℕ) → None ≡ first_place begins value → least_fit comparator (Star ∷ (segment ++ key)) value ≡ None
  no_segment key value none =
      let nowhere : IsPlace begins value None = subst (IsPlace begins value) (sym none) (place_of begins value) in
      star_none (least_fit comparator (segment ++ key)) value (λ j within. segment_none comparator key segment (drop j value) no_star (nowhere j within))

  -- a segment at its first place, with a star after it
  pub next_segment : (key : List Token) (value : List ℕ) (k : ℕ) → Some k ≡ first_place begins value
      → least_fit comparator (Star ∷ (segment ++ Star ∷ key)) value
      ≡ option_map (λ ss. take k value ∷ (any_octets segment (drop k value) ++ ss)) (least_fit comparator (Star ∷ key) (drop (k + length segment) value))
  next_segment key value k place =
      let (within, there, before) = is in
      by (least_fit comparator (Star ∷ key) (drop (k + length segment) value)) refl within there before
    where
      is : IsPlace begins value (Some k)
      is = subst (IsPlace begins value) (sym place) (place_of begins value)

      fit : Fit
      fit = least_fit comparator (segment ++ Star ∷ key)

      by : (o : Option (List (List ℕ))) → least_fit comparator (Star ∷ key) (drop (k + length segment) value) ≡ o
          → k ≤ length value → begins (drop k value) ≡ true → ((j : ℕ) → j < k → begins (drop j value) ≡ false)
          → star_fit (least_fit comparator (segment ++ Star ∷ key)) value ≡ option_map (λ ss. take k value ∷ (any_octets segment (drop k value) ++ ss)) o
      by (Some ss) e within there before =
          star_at (least_fit comparator (segment ++ Star ∷ key)) value k (any_octets segment (drop k value) ++ ss) within
          (λ j less. segment_none comparator (Star ∷ key) segment (drop j value) no_star (before j less))
          (segment_fits comparator (Star ∷ key) segment (drop k value) no_star there
          ∙ ap (option_map (λ ss. any_octets segment (drop k value) ++ ss)) (ap (least_fit comparator (Star ∷ key)) (drop-drop (length segment) k value) ∙ e))
      by None e within there before =
          star_none (least_fit comparator (segment ++ Star ∷ key)) value (λ j inside.
          elim (cases_Bool (begins (drop j value))) [
            | inl at ↦ segment_fits comparator (Star ∷ key) segment (drop j value) no_star at
                ∙ ap (option_map (λ ss. any_octets segment (drop j value) ++ ss)) (rest_none j at before e)
            | inr fails ↦ segment_none comparator (Star ∷ key) segment (drop j value) no_star fails
          ])
        where
          rest_none : (j : ℕ) → begins (drop j value) ≡ true → ((i : ℕ) → i < k → begins (drop i value) ≡ false)
              → least_fit comparator (Star ∷ key) (drop (k + length segment) value) ≡ None
              → least_fit comparator (Star ∷ key) (drop (length segment) (drop j value)) ≡ None
          rest_none j at before e =
              elim (cases_lt j k) [
                | inl less ↦ absurd (true≢false (sym at ∙ before j less))
                | inr from ↦
                    let n = j - k in
                    let sum : (k + length segment) + n ≡ j + length segment = omega arith in
                    ap (least_fit comparator (Star ∷ key)) (drop-drop (length segment) j value ∙ sym (ap (λ m. drop m value) sum) ∙ sym (drop-drop n (k + length segment) value))
                    ∙ star_none_after (least_fit comparator key) (drop (k + length segment) value) n e
              ]

  -- ---- the last segment

  empty : (xs : List ℕ) → length xs ≡ 0 → empty_fit xs ≡ Some []
  empty [] h = refl
  empty (x ∷ xs) h = absurd (omega arith)

  not_empty : (xs : List ℕ) → 0 < length xs → empty_fit xs ≡ None
  not_empty [] h = absurd (omega arith)
  not_empty (x ∷ xs) h = refl

  alone : (value : List ℕ) → least_fit comparator segment value ≡ least_fit comparator (segment ++ []) value
  alone value = ap (λ ts. least_fit comparator ts value) (sym (append-nil segment))

  -- a value that the segment alone stands for
  pub whole_found : (value : List ℕ) → begins value ≡ true → length value ≡ length segment → least_fit comparator segment value ≡ Some (any_octets segment value)
  whole_found value there long =
      alone value ∙ segment_fits comparator [] segment value no_star there
      ∙ ap (option_map (λ ss. any_octets segment value ++ ss)) (empty (drop (length segment) value) (omega (arith, length-drop (length segment) value)))
      ∙ ap Some (append-nil (any_octets segment value))

  pub whole_none : (value : List ℕ) → (begins value ≡ true → length value ≡ length segment → ⊥) → least_fit comparator segment value ≡ None
  whole_none value other =
      elim (cases_Bool (begins value)) [
        | inl there ↦
            let short = begins_length comparator segment value there in
            let rest : 0 < length (drop (length segment) value) = omega (arith, length-drop (length segment) value, other there) in
            alone value ∙ segment_fits comparator [] segment value no_star there
            ∙ ap (option_map (λ ss. any_octets segment value ++ ss)) (not_empty (drop (length segment) value) rest)
        | inr fails ↦ alone value ∙ segment_none comparator [] segment value no_star fails
      ]

  -- a segment that stands at the end
  pub last_found : (value : List ℕ) (k : ℕ) → k + length segment ≡ length value → begins (drop k value) ≡ true
      → least_fit comparator (Star ∷ segment) value ≡ Some (take k value ∷ any_octets segment (drop k value))
  last_found value k long there =
      star_at (least_fit comparator segment) value k (any_octets segment (drop k value)) (omega arith)
      (λ j less. whole_none (drop j value) (λ at e. absurd (omega (arith, length-drop j value))))
      (whole_found (drop k value) there (omega (arith, length-drop k value)))

  pub last_none : (value : List ℕ) → ((k : ℕ) → k + length segment ≡ length value → begins (drop k value) ≡ false) → least_fit comparator (Star ∷ segment) value ≡ None
  last_none value fails =
      star_none (least_fit comparator segment) value (λ j within. whole_none (drop j value)
      (λ at long. true≢false (sym at ∙ fails j (omega (arith, length-drop j value)))))
