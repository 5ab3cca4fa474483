-- Keys with wildcards that a text can't fit, because a bigram of their literal octets isn't among its bigrams.
use Rattle.std.proofs.Common.{◌≡◌, ◌≢◌, ℕ, zero, suc, ◌+◌, ◌<◌, ◌==◌, ◌||◌, Bool, true, false, List, [], ◌∷◌, ◌++◌, length, get_or, Option, None, Some, option_map, refl, sym, ◌∙◌, ap, subst, arith, inl, inr, if◌then◌else◌}
use Rattle.std.specs.Option.{option_or}
use Rattle.std.proofs.lemmas.Bool.{cases_Bool, or_parts}
use Rattle.glob_match.specs.declared.comparator.Comparator.{Comparator}
use Rattle.glob_match.specs.declared.token.Token.{Token}
use Rattle.glob_match.specs.declared.token.Token.TheVariants.{Literal, AnyOctet, Star}
use Rattle.glob_match.specs.Comparison.{same_octet}
use Rattle.glob_match.specs.Matching.{Fit, captures_of, least_fit, literal_fit, match_of, star_fit}
use Rattle.glob_match.specs.Tokens.{backslash, question_mark, star, token_of, tokens_escaped, tokens_of}
use Rattle.mail_matching.specs.Bigrams.{Covers, bit_of, is_special}
use Rattle.mail_matching.proofs.NotContained.{rest_covered, same_bit}

-- ---- two literals side by side

-- tokens among which two octets are literal, side by side
abbrev pub HasPair : ℕ → ℕ → List Token → Type 0
HasPair a b tokens = (before after : List Token) × (tokens ≡ before ++ (Literal a ∷ (Literal b ∷ after)))

else_this : {A : Type 0} (test : Bool) (x y : A) → test ≡ false → (if test then x else y) ≡ y
else_this true x y fails = cc
else_this false x y fails = refl

then_this : {A : Type 0} (test : Bool) (x y : A) → test ≡ true → (if test then x else y) ≡ x
then_this true x y holds = refl
then_this false x y holds = cc

plain_token : (octet : ℕ) → is_special octet ≡ false → token_of octet ≡ Literal octet
plain_token octet plain =
    let parts = or_parts ((octet == star) || (octet == question_mark)) (octet == backslash) plain in
    let wild = or_parts (octet == star) (octet == question_mark) parts.0 in
    else_this (octet == star) Star (if octet == question_mark then AnyOctet else Literal octet) wild.0
    ∙ else_this (octet == question_mark) AnyOctet (Literal octet) wild.1

other_tokens : (octet : ℕ) (key : List ℕ) → (octet == backslash) ≡ false → tokens_of (octet ∷ key) ≡ token_of octet ∷ tokens_of key
other_tokens octet key other = else_this (octet == backslash) (tokens_escaped key) (token_of octet ∷ tokens_of key) other

plain_tokens : (octet : ℕ) (key : List ℕ) → is_special octet ≡ false → tokens_of (octet ∷ key) ≡ Literal octet ∷ tokens_of key
plain_tokens octet key plain =
    other_tokens octet key (or_parts ((octet == star) || (octet == question_mark)) (octet == backslash) plain).1
    ∙ ap (λ token. token ∷ tokens_of key) (plain_token octet plain)

with_token : (a b : ℕ) (token : Token) (tokens : List Token) → HasPair a b tokens → HasPair a b (token ∷ tokens)
with_token a b token tokens (before, after, is) = (token ∷ before, after, ap (λ ts. token ∷ ts) is)

mutual
  pub literal_pair : (key : List ℕ) (first second : ℕ) → first + 1 ≡ second → second < length key
      → is_special (get_or key first 0) ≡ false → is_special (get_or key second 0) ≡ false
      → HasPair (get_or key first 0) (get_or key second 0) (tokens_of key)
  literal_pair [] first second next within plain plain_too = absurd (omega arith)
  literal_pair (x ∷ []) first second next within plain plain_too = absurd (omega arith)
  literal_pair (x ∷ (y ∷ key)) zero zero next within plain plain_too = absurd (omega arith)
  literal_pair (x ∷ (y ∷ key)) zero (suc zero) next within plain plain_too =
      ([], tokens_of key, plain_tokens x (y ∷ key) plain ∙ ap (λ ts. Literal x ∷ ts) (plain_tokens y key plain_too))
  literal_pair (x ∷ (y ∷ key)) zero (suc (suc more)) next within plain plain_too = absurd (omega arith)
  literal_pair (x ∷ (y ∷ key)) (suc first) zero next within plain plain_too = absurd (omega arith)
  literal_pair (x ∷ (y ∷ key)) (suc first) (suc second) next within plain plain_too =
      let a = get_or (y ∷ key) first 0 in
      let b = get_or (y ∷ key) second 0 in
      elim (cases_Bool (x == backslash)) [
        | inl is ↦
            subst (HasPair a b) (sym (then_this (x == backslash) (Literal y ∷ tokens_of key) (token_of x ∷ tokens_of (y ∷ key)) is))
            (after_escape y key first second (omega arith) (omega arith) plain plain_too)
        | inr other ↦
            subst (HasPair a b) (sym (other_tokens x (y ∷ key) other))
            (with_token a b (token_of x) (tokens_of (y ∷ key)) (literal_pair (y ∷ key) first second (omega arith) (omega arith) plain plain_too))
      ]

  after_escape : (y : ℕ) (key : List ℕ) (first second : ℕ) → first + 1 ≡ second → second < length (y ∷ key)
      → is_special (get_or (y ∷ key) first 0) ≡ false → is_special (get_or (y ∷ key) second 0) ≡ false
      → HasPair (get_or (y ∷ key) first 0) (get_or (y ∷ key) second 0) (Literal y ∷ tokens_of key)
  after_escape y [] first second next within plain plain_too = absurd (omega arith)
  after_escape y (z ∷ key) zero zero next within plain plain_too = absurd (omega arith)
  after_escape y (z ∷ key) zero (suc zero) next within plain plain_too = ([], tokens_of key, ap (λ ts. Literal y ∷ ts) (plain_tokens z key plain_too))
  after_escape y (z ∷ key) zero (suc (suc more)) next within plain plain_too = absurd (omega arith)
  after_escape y (z ∷ key) (suc first) zero next within plain plain_too = absurd (omega arith)
  after_escape y (z ∷ key) (suc first) (suc second) next within plain plain_too =
      with_token (get_or (z ∷ key) first 0) (get_or (z ∷ key) second 0) (Literal y) (tokens_of (z ∷ key))
      (literal_pair (z ∷ key) first second (omega arith) (omega arith) plain plain_too)

-- ---- a pair that isn't set

none_map : {A B : Type 0} (f : A → B) (o : Option A) → o ≡ None → option_map f o ≡ None
none_map f None none = refl
none_map f (Some x) none = cc

none_either : {A : Type 0} (a b : Option A) → a ≡ None → b ≡ None → option_or a b ≡ None
none_either None b first second = second
none_either (Some x) b first second = cc

none_if : {A : Type 0} (test : Bool) (o : Option A) → (test ≡ true → o ≡ None) → (if test then o else None) ≡ None
none_if true o none = none refl
none_if false o none = refl

module _ (comparator : Comparator) (rows : List ℕ) where
  -- no text with these bigrams fits
  abbrev FitsNone : Fit → Type 0
  FitsNone fit = (text : List ℕ) → Covers rows text → fit text ≡ None

  star_none : (fit : Fit) → FitsNone fit → FitsNone (star_fit fit)
  star_none fit none [] covers = none_map _ (fit []) (none [] covers)
  star_none fit none (x ∷ xs) covers =
      none_either _ _ (none_map _ (fit (x ∷ xs)) (none (x ∷ xs) covers)) (none_map _ (star_fit fit xs) (star_none fit none xs (rest_covered comparator rows x xs covers)))

  literal_none : (octet : ℕ) (fit : Fit) → FitsNone fit → FitsNone (literal_fit comparator octet fit)
  literal_none octet fit none [] covers = refl
  literal_none octet fit none (x ∷ xs) covers = none_if (same_octet comparator x octet) (fit xs) (λ same. none xs (rest_covered comparator rows x xs covers))

  module _ (a b : ℕ) (unset : bit_of rows a b ≢ 1) where
    pair_none : (fit : Fit) → FitsNone (literal_fit comparator a (literal_fit comparator b fit))
    pair_none fit [] covers = refl
    pair_none fit (x ∷ []) covers = none_if (same_octet comparator x a) (literal_fit comparator b fit []) (λ same. refl)
    pair_none fit (x ∷ (y ∷ more)) covers =
        none_if (same_octet comparator x a) (literal_fit comparator b fit (y ∷ more)) (λ first.
        none_if (same_octet comparator y b) (fit more) (λ second.
        absurd (unset (sym (same_bit comparator rows x y a b first second) ∙ covers.sets 0 (omega arith)))))

    pair_fits_none : (before after : List Token) → FitsNone (least_fit comparator (before ++ (Literal a ∷ (Literal b ∷ after))))
    pair_fits_none [] after text covers = pair_none (least_fit comparator after) text covers
    pair_fits_none (Literal octet ∷ before) after text covers = literal_none octet _ (pair_fits_none before after) text covers
    pair_fits_none (AnyOctet ∷ before) after [] covers = refl
    pair_fits_none (AnyOctet ∷ before) after (x ∷ xs) covers = none_map _ _ (pair_fits_none before after xs (rest_covered comparator rows x xs covers))
    pair_fits_none (Star ∷ before) after text covers = star_none _ (pair_fits_none before after) text covers

-- a key with a bigram of plain octets that isn't set
pub not_fitting : (rows key : List ℕ) (first second : ℕ) → first + 1 ≡ second → second < length key
    → is_special (get_or key first 0) ≡ false → is_special (get_or key second 0) ≡ false → bit_of rows (get_or key first 0) (get_or key second 0) ≢ 1
    → (comparator : Comparator) (text : List ℕ) → Covers rows text → match_of comparator text key ≡ None
not_fitting rows key first second next within plain plain_too unset comparator text covers =
    let (before, after, is) = literal_pair key first second next within plain plain_too in
    none_map (captures_of text) (least_fit comparator (tokens_of key) text)
    (ap (λ tokens. least_fit comparator tokens text) is
    ∙ pair_fits_none comparator rows (get_or key first 0) (get_or key second 0) unset before after text covers)
