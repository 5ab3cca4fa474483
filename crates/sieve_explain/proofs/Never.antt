-- What a note says can never be: no header has a field of such a name, no part such a digest, no value such a key, no message such a size.
use Rattle.std.proofs.Common.{◌≡◌, ◌∙◌, ℕ, zero, suc, ◌+◌, ◌-◌, ◌/◌, ◌%◌, ◌<◌, ◌≤◌, Bool, true, false, Option, Some, None, List, [], ◌∷◌, length, drop, ap, sym, refl, arith, inl, inr}
use Rattle.std.specs.Prelude.{◌&&◌, ◌||◌, ◌==◌, not, if◌then◌else◌, nat_lt, map, is_some, slice_index, codes}
use Rattle.std.specs.Char.{is_ascii_uppercase, to_ascii_lowercase}
use Rattle.std.specs.Int.{byte_at, bytes_high_first}
use Rattle.std.specs.List.{list_all, list_any}
use Rattle.std.specs.Option.{option_map}
use Rattle.std.proofs.lemmas.Bool.{agree_below_at, lt-ltb, or_cases, or_right}
use Rattle.std.proofs.lemmas.Bool.Decides.{Decides-eqb, nat_tests}
use Rattle.std.proofs.lemmas.List.Folds.{list_all-append}
use Rattle.std.proofs.lemmas.List.Sums.{take_while-cons}
use Rattle.std.proofs.lemmas.Slice.Eq.{bytes_eq-Decides}
use Rattle.glob_match.specs.Comparison.{is_match, same_octet}
use Rattle.glob_match.specs.Containment.{begins_with, contains_match, first_place}
use Rattle.glob_match.specs.declared.comparator.Comparator.{Comparator}
use Rattle.glob_match.specs.declared.comparator.Comparator.TheVariants.{Octet}
use Rattle.glob_match.specs.declared.token.Token.TheVariants.{Literal}
use Rattle.header_fields.specs.Fields.{Field, first_value}
use Rattle.header_fields.specs.Header.{field_of, fields_in, fields_of, header_lines, is_field_line, is_name_octet, name_of}
use Rattle.hex.specs.Hex.{encode_with, lower_digits}
use Rattle.mime_decode.specs.Content.{digest_of}
use Rattle.octets.specs.Ascii.{is_word, lowercase_of}
use Rattle.octets.specs.Limits.{max_message, max_value}
use Rattle.sha2.specs.Sha256.{digest_bytes, final_hash, initial_hash_256, sha256}
use Rattle.text_lines.specs.Lines.{TextLine, lines_of}
use Rattle.sieve_explain.specs.Notes.{ends_with_colon, is_blank, is_capital, is_digest, is_digit, is_large, is_long, is_unclear}

both : (a b : Bool) → (a && b) ≡ true → (a ≡ true) × (b ≡ true)
both true b e = (refl, e)
both false b e = absurd (cc)

none_of : (a b : Bool) → (a || b) ≡ false → (a ≡ false) × (b ≡ false)
none_of true b e = absurd (cc)
none_of false b e = (refl, e)

-- ---- names of fields

-- an octet of no name: a colon, or a blank
abbrev is_nameless : ℕ → Bool
is_nameless octet = octet == 58 || is_blank octet

same_nameless : (c : ℕ) → is_nameless (to_ascii_lowercase c) ≡ is_nameless c
same_nameless c = grind arith

nameless_lower : (text : List ℕ) → list_any is_nameless (lowercase_of text) ≡ list_any is_nameless text
nameless_lower [] = refl
nameless_lower (c ∷ text) = λ i. same_nameless c i || nameless_lower text i

of_name : (c : ℕ) → is_name_octet c ≡ true → is_nameless c ≡ false
of_name c e = grind (arith, nat_tests)

with_octet : (b : Bool) (c : ℕ) (name : List ℕ) → (b ≡ true → is_nameless c ≡ false) → list_any is_nameless name ≡ false
    → list_any is_nameless (if b then c ∷ name else []) ≡ false
with_octet true c name first rest = λ i. first refl i || rest i
with_octet false c name first rest = refl

of_names : (line : List ℕ) → list_any is_nameless (name_of line) ≡ false
of_names [] = refl
of_names (c ∷ line) =
    ap (list_any is_nameless) (take_while-cons is_name_octet c line) ∙ with_octet (is_name_octet c) c (name_of line) (of_name c) (of_names line)

any_behind : (n : ℕ) (text : List ℕ) → list_any is_nameless (drop n text) ≡ true → list_any is_nameless text ≡ true
any_behind zero text e = e
any_behind (suc n) [] e = e
any_behind (suc n) (c ∷ text) e = or_right (is_nameless c) (list_any is_nameless text) (any_behind n text e)

any_blank : (text : List ℕ) → list_any is_blank text ≡ true → list_any is_nameless text ≡ true
any_blank [] e = e
any_blank (c ∷ text) e = elim (or_cases (is_blank c) (list_any is_blank text) e) [
  | inl is ↦ ap (λ (b : Bool). b || list_any is_nameless text) (or_right (c == 58) (is_blank c) is)
  | inr is ↦ or_right (is_nameless c) (list_any is_nameless text) (any_blank text is)
]

colon_nameless : (name : List ℕ) → ends_with_colon name ≡ true → list_any is_nameless name ≡ true
colon_nameless name e =
    any_behind (length name - 1) name (ap (list_any is_nameless) ((bytes_eq-Decides (drop (length name - 1) name) (codes ":")).0 e))

other_name : (line name : List ℕ) → list_any is_nameless name ≡ true → is_word (name_of line) name ≡ false
other_name line name e = step (is_word (name_of line) name) refl where
  step : (b : Bool) → is_word (name_of line) name ≡ b → b ≡ false
  step false is = refl
  step true is =
      let same : lowercase_of (name_of line) ≡ lowercase_of name = (bytes_eq-Decides (lowercase_of (name_of line)) (lowercase_of name)).0 is in
      sym e ∙ sym (nameless_lower name) ∙ sym (ap (list_any is_nameless) same) ∙ nameless_lower (name_of line) ∙ of_names line

with_field : (b : Bool) (name : List ℕ) (field : Field) (fields : List Field) → is_word field.name name ≡ false → first_value name fields ≡ None
    → first_value name (if b then field ∷ fields else fields) ≡ None
with_field true name field fields differs rest =
    ap (λ (b : Bool). if b then Some field.value else first_value name fields) differs ∙ rest
with_field false name field fields differs rest = rest

no_field : (name : List ℕ) → list_any is_nameless name ≡ true → (lines : List TextLine) → first_value name (fields_in lines) ≡ None
no_field name e [] = refl
no_field name e (line ∷ lines) =
    with_field (is_field_line line.content) name (field_of line.content lines) (fields_in lines) (other_name line.content name e) (no_field name e lines)

pub no_field_with_colon : (text name : List ℕ) → ends_with_colon name ≡ true → first_value name (fields_of text) ≡ None
no_field_with_colon text name e = no_field name (colon_nameless name e) (header_lines (lines_of text))

pub no_field_with_blank : (text name : List ℕ) → list_any is_blank name ≡ true → first_value name (fields_of text) ≡ None
no_field_with_blank text name e = no_field name (any_blank name e) (header_lines (lines_of text))

-- ---- digests

digit_at : (n : ℕ) → n < 16 → is_digit (slice_index lower_digits n) ≡ true
digit_at n h = agree_below_at (λ n. is_digit (slice_index lower_digits n)) (λ _. true) 16 n refl h

abbrev is_octet : ℕ → Bool
is_octet n = nat_lt n 256

octet_at : (n : ℕ) → n < 256 → is_octet n ≡ true
octet_at n h = lt-ltb n 256 h

byte_below : (k n : ℕ) → byte_at k n < 256
byte_below zero n = omega arith
byte_below (suc k) n = omega arith

octets_high_first : (k n : ℕ) → list_all is_octet (bytes_high_first k n) ≡ true
octets_high_first zero n = refl
octets_high_first (suc k) n = ap (λ (b : Bool). b && list_all is_octet (bytes_high_first k n)) (octet_at (byte_at k n) (byte_below k n)) ∙ octets_high_first k n

octets_of : (h : List ℕ) (n : ℕ) → list_all is_octet (digest_bytes h n) ≡ true
unfolding digest_bytes
octets_of h zero = refl
octets_of h (suc n) =
    list_all-append is_octet (digest_bytes h n) (bytes_high_first 4 (slice_index h n))
    ∙ ap (λ (b : Bool). b && list_all is_octet (bytes_high_first 4 (slice_index h n))) (octets_of h n) ∙ octets_high_first 4 (slice_index h n)

digits_of : (octets : List ℕ) → list_all is_octet octets ≡ true → list_all is_digit (encode_with lower_digits octets) ≡ true
unfolding encode_with
digits_of [] e = refl
digits_of (octet ∷ octets) e =
    let p = both (is_octet octet) (list_all is_octet octets) e in
    let rest = list_all is_digit (encode_with lower_digits octets) in
    let low : octet < 256 = grind (arith, nat_tests, p.0) in
    ap (λ (b : Bool). b && (is_digit (slice_index lower_digits (octet % 16)) && rest)) (digit_at (octet / 16) (omega arith))
    ∙ ap (λ (b : Bool). b && rest) (digit_at (octet % 16) (omega arith)) ∙ digits_of octets p.1

long_digest : (octets : List ℕ) → (length (digest_of octets) == 64) ≡ true
unfolding sha256 digest_bytes encode_with
long_digest octets = refl

pub always_digest : (octets : List ℕ) → is_digest (digest_of octets) ≡ true
unfolding sha256
always_digest octets =
    ap (λ (b : Bool). b && list_all is_digit (digest_of octets)) (long_digest octets)
    ∙ digits_of (sha256 octets) (octets_of (final_hash initial_hash_256 octets) 8)

other_key : (digest key : List ℕ) → is_digest digest ≡ true → not (is_digest key || list_any is_unclear key) ≡ true
    → is_match Octet digest key ≡ false
other_key digest key digits e = step (is_match Octet digest key) refl where
  step : (b : Bool) → is_match Octet digest key ≡ b → b ≡ false
  step false is = refl
  step true is =
      let same : digest ≡ key = (bytes_eq-Decides digest key).0 is in
      sym e ∙ ap (λ (b : Bool). not (b || list_any is_unclear key)) (ap is_digest (sym same) ∙ digits)

pub other_digest : (octets key : List ℕ) → not (is_digest key || list_any is_unclear key) ≡ true → is_match Octet (digest_of octets) key ≡ false
other_digest octets key e = other_key (digest_of octets) key (always_digest octets) e

-- ---- keys

at_none : (b : Bool) → b ≡ false → is_some (if b then Some zero else None) ≡ false
at_none true e = e
at_none false e = refl

elsewhere : (b : Bool) (o : Option ℕ) → b ≡ false → is_some (if b then Some zero else option_map (λ place. place + 1) o) ≡ is_some o
elsewhere true o e = absurd (cc)
elsewhere false None e = refl
elsewhere false (Some place) e = refl

-- no place of a value passes a test that fails for each value like it
no_place : (P : List ℕ → Type 0) (test : List ℕ → Bool) → ((value : List ℕ) → P value → test value ≡ false)
    → ((c : ℕ) (value : List ℕ) → P (c ∷ value) → P value) → (value : List ℕ) → P value → is_some (first_place test value) ≡ false
no_place P test fails shorter [] p = at_none (test []) (fails [] p)
no_place P test fails shorter (c ∷ value) p =
    elsewhere (test (c ∷ value)) (first_place test value) (fails (c ∷ value) p) ∙ no_place P test fails shorter value (shorter c value p)

and_false : (a b : Bool) → b ≡ false → (a && b) ≡ false
and_false true b e = e
and_false false b e = refl

-- the value has fewer octets than the key
fewer_unmatched : (comparator : Comparator) (value key : List ℕ) → length value < length key → is_match comparator value key ≡ false
fewer_unmatched comparator [] [] few = absurd (omega arith)
fewer_unmatched comparator [] (k ∷ key) few = refl
fewer_unmatched comparator (c ∷ value) [] few = refl
fewer_unmatched comparator (c ∷ value) (k ∷ key) few =
    and_false (same_octet comparator c k) (is_match comparator value key) (fewer_unmatched comparator value key (omega arith))

fewer_begin : (comparator : Comparator) (key value : List ℕ) → length value < length key → begins_with comparator (map Literal key) value ≡ false
fewer_begin comparator [] value few = absurd (omega arith)
fewer_begin comparator (k ∷ key) [] few = refl
fewer_begin comparator (k ∷ key) (c ∷ value) few =
    and_false (same_octet comparator c k) (begins_with comparator (map Literal key) value) (fewer_begin comparator key value (omega arith))

long : (value key : List ℕ) → length value ≤ max_value → is_long key ≡ true → length value < length key
long value key few e = let p = both (nat_lt max_value (length key)) _ e in grind (arith, nat_tests, p.0, few)

pub long_unmatched : (comparator : Comparator) (value key : List ℕ) → length value ≤ max_value → is_long key ≡ true → is_match comparator value key ≡ false
long_unmatched comparator value key few e = fewer_unmatched comparator value key (long value key few e)

pub long_not_contained : (comparator : Comparator) (value key : List ℕ) → length value ≤ max_value → is_long key ≡ true → contains_match comparator value key ≡ false
long_not_contained comparator value key few e =
    no_place (λ (v : List ℕ). length v < length key) (begins_with comparator (map Literal key)) (λ v h. fewer_begin comparator key v h)
    (λ c v h. omega arith) value (long value key few e)

-- the key has a capital letter, and the value has none
abbrev Low : List ℕ → Type 0
Low value = list_any is_ascii_uppercase value ≡ false

low_rest : (c : ℕ) (value : List ℕ) → Low (c ∷ value) → Low value
low_rest c value e = (none_of (is_ascii_uppercase c) (list_any is_ascii_uppercase value) e).1

-- an octet of the value and one of the key: they differ, or the key has a capital letter behind it
low_step : (c k : ℕ) (value key : List ℕ) (rest : Bool) → Low (c ∷ value) → list_any is_ascii_uppercase (k ∷ key) ≡ true
    → (list_any is_ascii_uppercase key ≡ true → rest ≡ false) → (same_octet Octet c k && rest) ≡ false
low_step c k value key rest low e behind = step (c == k) refl where
  step : (b : Bool) → (c == k) ≡ b → (b && rest) ≡ false
  step false is = refl
  step true is =
      let same : c ≡ k = (Decides-eqb c k).0 is in
      let none : is_ascii_uppercase k ≡ false = ap is_ascii_uppercase (sym same) ∙ (none_of (is_ascii_uppercase c) (list_any is_ascii_uppercase value) low).0 in
      behind (sym (ap (λ (b : Bool). b || list_any is_ascii_uppercase key) none) ∙ e)

low_unmatched : (value key : List ℕ) → Low value → list_any is_ascii_uppercase key ≡ true → is_match Octet value key ≡ false
low_unmatched [] [] low e = sym e
low_unmatched [] (k ∷ key) low e = refl
low_unmatched (c ∷ value) [] low e = refl
low_unmatched (c ∷ value) (k ∷ key) low e =
    low_step c k value key (is_match Octet value key) low e (λ more. low_unmatched value key (low_rest c value low) more)

low_begin : (key value : List ℕ) → Low value → list_any is_ascii_uppercase key ≡ true → begins_with Octet (map Literal key) value ≡ false
low_begin [] value low e = sym e
low_begin (k ∷ key) [] low e = refl
low_begin (k ∷ key) (c ∷ value) low e =
    low_step c k value key (begins_with Octet (map Literal key) value) low e (λ more. low_begin key value (low_rest c value low) more)

capital : (key : List ℕ) → is_capital key ≡ true → list_any is_ascii_uppercase key ≡ true
capital key e = (both (list_any is_ascii_uppercase key) _ e).0

pub capital_unmatched : (value key : List ℕ) → Low value → is_capital key ≡ true → is_match Octet value key ≡ false
capital_unmatched value key low e = low_unmatched value key low (capital key e)

pub capital_not_contained : (value key : List ℕ) → Low value → is_capital key ≡ true → contains_match Octet value key ≡ false
capital_not_contained value key low e =
    no_place Low (begins_with Octet (map Literal key)) (λ v h. low_begin key v h (capital key e)) low_rest value low

-- no letter stays upper-case
lowered : (c : ℕ) → is_ascii_uppercase (to_ascii_lowercase c) ≡ false
lowered c = grind arith

pub lower_without : (text : List ℕ) → Low (lowercase_of text)
lower_without [] = refl
lower_without (c ∷ text) = λ i. lowered c i || lower_without text i

-- ---- sizes

pub large_never : (message : List ℕ) (number : ℕ) → length message ≤ max_message → is_large (Some number) ≡ true → nat_lt number (length message) ≡ false
large_never message number few e = grind (arith, nat_tests)
