-- Segments without wildcards and backslashes, and how many octets a segment needs.
use Rattle.std.proofs.Common.{◌≡◌, ℕ, ◌<◌, ◌≤◌, ◌==◌, ◌||◌, Bool, true, false, cond, List, [], ◌∷◌, map, length, drop, Some, None, refl, sym, ap, subst, ◌∙◌, arith}
use Rattle.std.proofs.lemmas.Bool.{false≢true, or_parts, and_parts, false_from_ne_true, cond-false, cond_both}
use Rattle.std.proofs.lemmas.List.{length-drop, length-map}
use Rattle.std.specs.List.{list_any}
use Rattle.glob_match.specs.declared.comparator.Comparator.{Comparator}
use Rattle.glob_match.specs.declared.token.Token.{Token}
use Rattle.glob_match.specs.declared.token.Token.TheVariants.{Literal, AnyOctet, Star}
use Rattle.glob_match.specs.Containment.{takes, begins_with, first_place}
use Rattle.glob_match.specs.Segments.{NoStar}
use Rattle.glob_match.specs.Tokens.{backslash, star, question_mark, token_of, tokens_of}
use Rattle.glob_match.proofs.Places.{place_of, place_once}
use Rattle.glob_match.proofs.Segmented.{other_tokens}

-- what doesn't stand for itself, a star excepted
abbrev pub is_special : ℕ → Bool
is_special octet = (octet == question_mark) || (octet == backslash)

no_star_token : (x : ℕ) (key : List Token) → (x == question_mark) ≡ false → NoStar (token_of x ∷ key) → (token_of x ≡ Literal x) × NoStar key
no_star_token x key plain =
    cond_both (x == star) Star (cond (x == question_mark) AnyOctet (Literal x)) (λ t. NoStar (t ∷ key) → (t ≡ Literal x) × NoStar key)
    (λ is none. absurd none)
    (λ other. subst (λ t. NoStar (t ∷ key) → (t ≡ Literal x) × NoStar key) (sym (cond-false (x == question_mark) AnyOctet (Literal x) plain)) (λ none. (refl, none)))

pub literal_tokens : (segment : List ℕ) → list_any is_special segment ≡ false → NoStar (tokens_of segment) → tokens_of segment ≡ map Literal segment
literal_tokens [] plain none = refl
literal_tokens (x ∷ xs) plain none =
    let parts = or_parts (is_special x) (list_any is_special xs) plain in
    let first = or_parts (x == question_mark) (x == backslash) parts.0 in
    let tokens = other_tokens x xs first.1 in
    let token = no_star_token x (tokens_of xs) first.0 (subst NoStar tokens none) in
    tokens ∙ ap (λ t. t ∷ tokens_of xs) token.0 ∙ ap (λ ts. Literal x ∷ ts) (literal_tokens xs parts.1 token.1)

module _ (comparator : Comparator) where
  -- an empty segment stands first
  pub empty_first : (segment value : List ℕ) → length segment ≡ 0 → Some 0 ≡ first_place (begins_with comparator (tokens_of segment)) value
  empty_first [] [] none = refl
  empty_first [] (x ∷ xs) none = refl
  empty_first (octet ∷ segment) value none = absurd (omega arith)

  -- what begins with tokens is no shorter
  pub begins_length : (key : List Token) (value : List ℕ) → begins_with comparator key value ≡ true → length key ≤ length value
  begins_length [] value h = omega arith
  begins_length (token ∷ key) [] h = absurd (false≢true h)
  begins_length (token ∷ key) (x ∷ xs) h =
      omega (arith, begins_length key xs (and_parts (takes comparator token x) (begins_with comparator key xs) h).1)

  pub too_short : (key : List Token) (value : List ℕ) → length value < length key → None ≡ first_place (begins_with comparator key) value
  too_short key value less =
      place_once (begins_with comparator key) value None _
      (λ j within. false_from_ne_true (begins_with comparator key (drop j value))
      (λ begins. absurd (omega (arith, begins_length key (drop j value) begins, length-drop j value))))
      (place_of (begins_with comparator key) value)

  pub text_too_short : (text value : List ℕ) → length value < length text → None ≡ first_place (begins_with comparator (map Literal text)) value
  text_too_short text value less = too_short (map Literal text) value (omega (arith, length-map text Literal))
