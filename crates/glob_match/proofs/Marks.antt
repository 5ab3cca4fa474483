-- Lanes that are marked for the places from which on a test passes.
use Rattle.std.proofs.Common.{◌≡◌, ℕ, zero, suc, ◌+◌, ◌<◌, ◌≤◌, ◌==◌, eqb, Bool, true, false, ◌&&◌, ◌||◌, not, cond, inl, inr, List, [], ◌∷◌, length, map, take, drop, replicate, refl, sym, ap, ◌∙◌, arith, w8}
use Rattle.std.proofs.lemmas.Bool.{cases_Bool, cond_both, or_parts}
use Rattle.std.proofs.lemmas.List.{drop-drop}
use Rattle.std.proofs.lemmas.Simd.{tops_compared}
use Rattle.std.specs.List.{list_any, position_or_len}
use Rattle.std.specs.Simd.Lanes.{zip2, sel_l, top}
use Rattle.glob_match.specs.declared.comparator.Comparator.{Comparator}
use Rattle.glob_match.specs.declared.token.Token.{Token}
use Rattle.glob_match.specs.declared.token.Token.TheVariants.{Literal, AnyOctet, Star}
use Rattle.glob_match.specs.Comparison.{compared_octet, same_octet}
use Rattle.glob_match.specs.Containment.{begins_with}
use Rattle.glob_match.specs.Segments.{NoStar, kept_if, marked}

kept : (n m : ℕ) (xs ys : List ℕ) → length xs ≡ m → length ys ≡ m → sel_l (zip2 eqb xs (replicate m n)) ys (replicate m 0) ≡ zip2 (kept_if n) xs ys
kept n zero [] ys p q = refl
kept n zero (x ∷ xs) ys p q = absurd (omega arith)
kept n (suc m) [] ys p q = absurd (omega arith)
kept n (suc m) (x ∷ xs) [] p q = absurd (omega arith)
kept n (suc m) (x ∷ xs) (y ∷ ys) p q = ap (λ l. cond (eqb x n) y 0 ∷ l) (kept n m xs ys (omega arith) (omega arith))

-- marks, chosen over 0 where a lane is n
pub kept_equal : (n m : ℕ) (xs ys : List ℕ) → length xs ≡ m → length ys ≡ m
    → sel_l (map (top 7) (zip2 (λ a b. cond (eqb a b) 255 0) xs (replicate m n))) ys (replicate m 0) ≡ zip2 (kept_if n) xs ys
kept_equal n m xs ys p q = ap (λ l. sel_l l ys (replicate m 0)) (tops_compared w8 eqb xs (replicate m n)) ∙ kept n m xs ys p q

-- ---- marks of places

abbrev pub is_mark : ℕ → Bool
is_mark mark = mark == 255

-- nothing is marked that was not kept
pub none_marked : (test : List ℕ → Bool) (marks text : List ℕ) → list_any is_mark marks ≡ false → list_any is_mark (marked test marks text) ≡ false
none_marked test [] text none = refl
none_marked test (mark ∷ marks) text none =
    let parts = or_parts (is_mark mark) (list_any is_mark marks) none in
    let rest = none_marked test marks (drop 1 text) parts.1 in
    cond_both (test text) mark 0 (λ m. (is_mark m || list_any is_mark (marked test marks (drop 1 text))) ≡ false)
    (λ passes. ap (λ b. b || list_any is_mark (marked test marks (drop 1 text))) parts.0 ∙ rest)
    (λ fails. rest)

-- a test that always passes
pub all_marked : (marks text : List ℕ) → marked (λ _. true) marks text ≡ marks
all_marked [] text = refl
all_marked (mark ∷ marks) text = ap (λ ms. mark ∷ ms) (all_marked marks (drop 1 text))

module _ (comparator : Comparator) (key : List Token) where
  abbrev begins : List ℕ → Bool
  begins = begins_with comparator key

  -- a token that stands for any octet
  pub marked_any : (marks text : List ℕ) → length marks ≤ length text
      → marked (begins_with comparator (AnyOctet ∷ key)) marks text ≡ marked begins marks (drop 1 text)
  marked_any [] text long = refl
  marked_any (mark ∷ marks) [] long = absurd (omega arith)
  marked_any (mark ∷ marks) (x ∷ xs) long = ap (λ ms. cond (begins xs) mark 0 ∷ ms) (marked_any marks xs (omega arith))

  -- a literal
  pub marked_literal : (literal : ℕ) (marks text : List ℕ) → length marks ≤ length text
      → marked (begins_with comparator (Literal literal ∷ key)) marks text
      ≡ marked begins (zip2 (kept_if (compared_octet comparator literal)) (map (compared_octet comparator) (take (length marks) text)) marks) (drop 1 text)
  marked_literal literal [] text long = refl
  marked_literal literal (mark ∷ marks) [] long = absurd (omega arith)
  marked_literal literal (mark ∷ marks) (x ∷ xs) long =
      ap (λ m. m ∷ marked (begins_with comparator (Literal literal ∷ key)) marks xs) (by (same_octet comparator x literal) (begins xs))
      ∙ ap (λ ms. cond (begins xs) (cond (same_octet comparator x literal) mark 0) 0 ∷ ms) (marked_literal literal marks xs (omega arith))
    where
      by : (a b : Bool) → cond (a && b) mark 0 ≡ cond b (cond a mark 0) 0
      by true b = refl
      by false true = refl
      by false false = refl

-- a token that is neither a literal nor a star
pub other_token : (token : Token) → ((literal : ℕ) → token ≡ Literal literal → ⊥) → NoStar (token ∷ []) → token ≡ AnyOctet
other_token (Literal literal) not_literal none = absurd (not_literal literal refl)
other_token AnyOctet not_literal none = refl
other_token Star not_literal none = absurd none

pub no_star_rest : (token : Token) (key : List Token) → NoStar (token ∷ key) → NoStar key
no_star_rest (Literal literal) key none = none
no_star_rest AnyOctet key none = none
no_star_rest Star key none = absurd none

-- ---- the first mark

module _ (test : List ℕ → Bool) where
  -- how many of the first n places come before the first that passes
  abbrev pub first : ℕ → List ℕ → ℕ
  first n text = position_or_len is_mark (marked test (replicate n 255) text)

  first_here : (n : ℕ) (text : List ℕ) → test text ≡ true → first (suc n) text ≡ 0
  first_here n text passes =
      ap (λ b. cond (not (is_mark (cond b 255 0))) (1 + first n (drop 1 text)) 0) passes

  first_later : (n : ℕ) (text : List ℕ) → test text ≡ false → first (suc n) text ≡ 1 + first n (drop 1 text)
  first_later n text fails =
      ap (λ b. cond (not (is_mark (cond b 255 0))) (1 + first n (drop 1 text)) 0) fails

  pub first_few : (n : ℕ) (text : List ℕ) → first n text ≤ n
  first_few zero text = omega arith
  first_few (suc n) text =
      elim (cases_Bool (test text)) [
        | inl passes ↦ omega (arith, first_here n text passes)
        | inr fails ↦ omega (arith, first_later n text fails, first_few n (drop 1 text))
      ]

  later_before : (n : ℕ) (text : List ℕ) → ((j : ℕ) → j < first n (drop 1 text) → test (drop j (drop 1 text)) ≡ false)
      → (j : ℕ) → test text ≡ false → j < 1 + first n (drop 1 text) → test (drop j text) ≡ false
  later_before n text before zero fails less = fails
  later_before n text before (suc j) fails less =
      let e : 1 + j ≡ suc j = omega arith in
      ap test (sym (drop-drop j 1 text ∙ ap (λ m. drop m text) e)) ∙ before j (omega arith)

  pub first_before : (n : ℕ) (text : List ℕ) (j : ℕ) → j < first n text → test (drop j text) ≡ false
  first_before zero text j less = absurd (omega arith)
  first_before (suc n) text j less =
      elim (cases_Bool (test text)) [
        | inl passes ↦ absurd (omega (arith, first_here n text passes))
        | inr fails ↦ later_before n text (first_before n (drop 1 text)) j fails (omega (arith, first_later n text fails))
      ]

  pub first_there : (n : ℕ) (text : List ℕ) → first n text < n → test (drop (first n text) text) ≡ true
  first_there zero text less = absurd (omega arith)
  first_there (suc n) text less =
      elim (cases_Bool (test text)) [
        | inl passes ↦ ap (λ m. test (drop m text)) (first_here n text passes) ∙ passes
        | inr fails ↦
            let later = first_later n text fails in
            ap (λ m. test (drop m text)) later
            ∙ ap test (sym (drop-drop (first n (drop 1 text)) 1 text))
            ∙ first_there n (drop 1 text) (omega (arith, later))
      ]

  -- where no place passes
  pub first_none : (marks text : List ℕ) → list_any is_mark (marked test marks text) ≡ false → position_or_len is_mark (marked test marks text) ≡ length marks
  first_none [] text none = refl
  first_none (mark ∷ marks) text none =
      let parts = or_parts (is_mark (cond (test text) mark 0)) (list_any is_mark (marked test marks (drop 1 text))) none in
      let rest = first_none marks (drop 1 text) parts.1 in
      let here = ap (λ b. cond (not b) (1 + position_or_len is_mark (marked test marks (drop 1 text))) 0) parts.0 in
      omega (arith, here, rest)

-- ---- thirty-two places

-- the marks of all of them, as one term
pub every_place : List ℕ
every_place = replicate 32 255

pub every_place_is : replicate 32 255 ≡ every_place
unfolding every_place
every_place_is = refl

module _ (test : List ℕ → Bool) (text marks : List ℕ) (so_far : marked test every_place text ≡ marks) where
  found : position_or_len is_mark marks ≡ first test 32 text
  found = sym (ap (λ all. position_or_len is_mark (marked test all text)) every_place_is ∙ ap (position_or_len is_mark) so_far)

  pub places_few : position_or_len is_mark marks ≤ 32
  places_few = omega (arith, found, first_few test 32 text)

  pub places_none : position_or_len is_mark marks ≡ 32 → (j : ℕ) → j < 32 → test (drop j text) ≡ false
  places_none none j less = first_before test 32 text j (omega (arith, found, none))

  pub places_before : (j : ℕ) → j < position_or_len is_mark marks → test (drop j text) ≡ false
  places_before j less = first_before test 32 text j (omega (arith, found))

  pub places_there : position_or_len is_mark marks < 32 → test (drop (position_or_len is_mark marks) text) ≡ true
  places_there less = ap (λ n. test (drop n text)) found ∙ first_there test 32 text (omega (arith, found))
