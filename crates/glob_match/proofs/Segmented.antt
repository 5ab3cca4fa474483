-- A key up to its first star.
use Rattle.std.proofs.Common.{◌≡◌, ℕ, suc, ◌+◌, ◌<◌, ◌≤◌, ◌==◌, true, false, cond, List, [], ◌∷◌, ◌++◌, length, take, drop, get_or, refl, sym, ap, subst, ◌∙◌, add-one, arith}
use Rattle.std.proofs.lemmas.Bool.{cond_both, cond-true, cond-false, true≢false}
use Rattle.std.proofs.lemmas.List.{at_drop_more, drop-drop, take_all}
use Rattle.glob_match.specs.declared.token.Token.{Token}
use Rattle.glob_match.specs.declared.token.Token.TheVariants.{Literal, AnyOctet, Star}
use Rattle.glob_match.specs.Segments.{NoStar}
use Rattle.glob_match.specs.Tokens.{backslash, star, question_mark, token_of, tokens_of, tokens_escaped}

abbrev mutual
  -- the place of the first star; where there is none, the length or more
  pub star_place : List ℕ → ℕ
  star_place [] = 0
  star_place (x ∷ xs) = cond (x == backslash) (suc (place_escaped xs)) (cond (x == star) 0 (suc (star_place xs)))

  pub place_escaped : List ℕ → ℕ
  place_escaped [] = 1
  place_escaped (x ∷ xs) = suc (star_place xs)

-- the parts of a key at its star
pub record IsSplit (tokens : List ℕ → List Token) (key : List ℕ) (place : ℕ) : Type 0 where
  pub no_star : NoStar (tokens (take place key))
  pub parts : place < length key → tokens key ≡ tokens (take place key) ++ Star ∷ tokens_of (drop (suc place) key)

backslash_tokens : (x : ℕ) (xs : List ℕ) → (x == backslash) ≡ true → tokens_of (x ∷ xs) ≡ tokens_escaped xs
backslash_tokens x xs is = cond-true (x == backslash) (tokens_escaped xs) (token_of x ∷ tokens_of xs) is

pub other_tokens : (x : ℕ) (xs : List ℕ) → (x == backslash) ≡ false → tokens_of (x ∷ xs) ≡ token_of x ∷ tokens_of xs
other_tokens x xs other = cond-false (x == backslash) (tokens_escaped xs) (token_of x ∷ tokens_of xs) other

star_token : (x : ℕ) → (x == star) ≡ true → token_of x ≡ Star
star_token x is = cond-true (x == star) Star (cond (x == question_mark) AnyOctet (Literal x)) is

no_star_more : (x : ℕ) (key : List Token) → (x == star) ≡ false → NoStar key → NoStar (token_of x ∷ key)
no_star_more x key other none =
    cond_both (x == star) Star (cond (x == question_mark) AnyOctet (Literal x)) (λ t. NoStar (t ∷ key))
    (λ is. absurd (true≢false (sym is ∙ other)))
    (λ f. cond_both (x == question_mark) AnyOctet (Literal x) (λ t. NoStar (t ∷ key)) (λ g. none) (λ g. none))

at_backslash : (x : ℕ) (xs : List ℕ) (n : ℕ) → (x == backslash) ≡ true → IsSplit tokens_escaped xs n → IsSplit tokens_of (x ∷ xs) (suc n)
at_backslash x xs n is split = record {
  no_star = subst NoStar (sym (backslash_tokens x (take n xs) is)) split.no_star;
  parts = λ h.
      backslash_tokens x xs is ∙ split.parts (omega arith)
      ∙ ap (λ ts. ts ++ Star ∷ tokens_of (drop (suc n) xs)) (sym (backslash_tokens x (take n xs) is));
}

at_star : (x : ℕ) (xs : List ℕ) → (x == backslash) ≡ false → (x == star) ≡ true → IsSplit tokens_of (x ∷ xs) 0
at_star x xs other is = record {
  no_star = tt;
  parts = λ h. other_tokens x xs other ∙ ap (λ t. t ∷ tokens_of xs) (star_token x is);
}

at_other : (x : ℕ) (xs : List ℕ) (n : ℕ) → (x == backslash) ≡ false → (x == star) ≡ false → IsSplit tokens_of xs n → IsSplit tokens_of (x ∷ xs) (suc n)
at_other x xs n other plain split = record {
  no_star = subst NoStar (sym (other_tokens x (take n xs) other)) (no_star_more x (tokens_of (take n xs)) plain split.no_star);
  parts = λ h.
      other_tokens x xs other ∙ ap (λ ts. token_of x ∷ ts) (split.parts (omega arith))
      ∙ ap (λ ts. ts ++ Star ∷ tokens_of (drop (suc n) xs)) (sym (other_tokens x (take n xs) other));
}

mutual
  pub split_at : (key : List ℕ) → IsSplit tokens_of key (star_place key)
  split_at [] = record { no_star = tt; parts = λ h. absurd (omega arith) }
  split_at (x ∷ xs) =
      cond_both (x == backslash) (suc (place_escaped xs)) (cond (x == star) 0 (suc (star_place xs))) (λ n. IsSplit tokens_of (x ∷ xs) n)
      (λ is. at_backslash x xs (place_escaped xs) is (split_escaped xs))
      (λ other. cond_both (x == star) 0 (suc (star_place xs)) (λ n. IsSplit tokens_of (x ∷ xs) n)
      (λ is. at_star x xs other is)
      (λ plain. at_other x xs (star_place xs) other plain (split_at xs)))

  split_escaped : (key : List ℕ) → IsSplit tokens_escaped key (place_escaped key)
  split_escaped [] = record { no_star = tt; parts = λ h. absurd (omega arith) }
  split_escaped (x ∷ xs) = record {
    no_star = (split_at xs).no_star;
    parts = λ h. ap (λ ts. Literal x ∷ ts) ((split_at xs).parts (omega arith));
  }

-- what a step of the search for the star says
place_after : (xs : List ℕ) → place_escaped xs ≡ suc (star_place (drop 1 xs))
place_after [] = refl
place_after (x ∷ xs) = refl

pub step_escaped : (key : List ℕ) (i : ℕ) → i < length key → get_or key i 0 ≡ backslash → star_place (drop i key) ≡ 2 + star_place (drop (i + 2) key)
step_escaped key i h is =
    let e : star_place (drop i key) ≡ star_place (backslash ∷ drop (i + 1) key) =
    at_drop_more star_place key i 0 h ∙ ap (λ x. star_place (x ∷ drop (i + 1) key)) is in
    let f : star_place (backslash ∷ drop (i + 1) key) ≡ suc (place_escaped (drop (i + 1) key)) = refl in
    let n : (i + 1) + 1 ≡ i + 2 = omega arith in
    let g : star_place (drop 1 (drop (i + 1) key)) ≡ star_place (drop (i + 2) key) = ap star_place (drop-drop 1 (i + 1) key ∙ ap (λ k. drop k key) n) in
    omega (arith, e, f, g, place_after (drop (i + 1) key))

pub step_star : (key : List ℕ) (i : ℕ) → i < length key → get_or key i 0 ≡ star → star_place (drop i key) ≡ 0
step_star key i h is = at_drop_more star_place key i 0 h ∙ ap (λ x. star_place (x ∷ drop (i + 1) key)) is

-- where the search for the star ends
pub split_found : (key : List ℕ) (i : ℕ) → star_place key ≡ i + star_place (drop i key) → i < length key → get_or key i 0 ≡ star
    → (tokens_of key ≡ tokens_of (take i key) ++ Star ∷ tokens_of (drop (i + 1) key)) × NoStar (tokens_of (take i key))
split_found key i so_far h is =
    let at : star_place key ≡ i = omega (arith, so_far, step_star key i h is) in
    let split : IsSplit tokens_of key i = subst (IsSplit tokens_of key) at (split_at key) in
    (split.parts h ∙ ap (λ n. tokens_of (take i key) ++ Star ∷ tokens_of (drop n key)) (sym (add-one i)), split.no_star)

pub split_none : (key : List ℕ) (i : ℕ) → star_place key ≡ i + star_place (drop i key) → length key ≤ i → NoStar (tokens_of key)
split_none key i so_far h =
    let none : NoStar (tokens_of (take (star_place key) key)) = (split_at key).no_star in
    subst (λ xs. NoStar (tokens_of xs)) (take_all (star_place key) key (omega arith)) none

-- no token is more than its octets
mutual
  pub length-tokens_of : (key : List ℕ) → length (tokens_of key) ≤ length key
  length-tokens_of [] = omega arith
  length-tokens_of (x ∷ xs) =
      cond_both (x == backslash) (tokens_escaped xs) (token_of x ∷ tokens_of xs) (λ ts. length ts ≤ suc (length xs))
      (λ is. length-escaped xs)
      (λ other. omega (arith, length-tokens_of xs))

  length-escaped : (key : List ℕ) → length (tokens_escaped key) ≤ suc (length key)
  length-escaped [] = omega arith
  length-escaped (x ∷ xs) = omega (arith, length-tokens_of xs)
