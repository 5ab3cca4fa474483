-- Hexadecimal texts: `hex` decodes just those that are, in upper case, the text of octets.
use Rattle.std.proofs.Common.{◌≡◌, ℕ, ◌+◌, ◌*◌, ◌/◌, ◌%◌, ◌<◌, Bool, true, T, eqb, ltb, ◌&&◌, List, [], ◌∷◌, length, slice_index, Option, Some, None, is_some, Result, Ok, refl, sym, ap, subst, ◌∙◌, arith, eqb→eq, ltb→lt}
use Rattle.std.specs.Char.{to_ascii_uppercase}
use Rattle.std.specs.List.{AllPass}
use Rattle.std.specs.Result.{result_unwrap_or}
use Rattle.std.proofs.lemmas.List.{length-map}
use Rattle.std.proofs.lemmas.List.Elements.{All-cons, All-head, All-nil, All-tail}
use Rattle.hex.specs.Hex.{IsBytes, decode_of, decode_pairs, encode_upper, encode_with, hex_digit_value, is_hex_digit, pair_value, upper_digits}
use Rattle.hex.specs.declared.error.FromHexError.{FromHexError}
use Rattle.hex.proofs.HexLemmas.{decode_of-digits, decode_of-encode_upper, decode_of-even, decode_of-ok}
use Rattle.hex.proofs.Pairs.{cons_byte, decode_pairs-ok_pair}
use lib.Ieee.Fits.{and_l, and_r}
use Rattle.octet_lanes.proofs.Symbols.{every_below}
use Rattle.octets.specs.Ascii.{uppercase_of}

-- ---- digits

-- a digit of this value is written so in upper case
abbrev is_written : Option ℕ → ℕ → Bool
is_written None upper = true
is_written (Some value) upper = eqb upper (slice_index upper_digits value) && ltb value 16

digit_written : (digit value : ℕ) → hex_digit_value digit ≡ Some value → T (is_written (Some value) (to_ascii_uppercase digit))
digit_written digit value h =
    let low : digit < 103 = grind (arith) in
    subst (λ v. T (is_written v (to_ascii_uppercase digit))) h (every_below (λ d. is_written (hex_digit_value d) (to_ascii_uppercase d)) 103 tt digit low)

-- what is a digit in upper case is a digit
digit_in_either_case : (digit : ℕ) → is_hex_digit (to_ascii_uppercase digit) ≡ true → is_hex_digit digit ≡ true
digit_in_either_case digit h = grind (arith)

value_of_digit : (o : Option ℕ) → is_some o ≡ true → (value : ℕ) × (o ≡ Some value)
value_of_digit (Some value) h = (value, refl)
value_of_digit None h = cc h

abbrev IsDigit : ℕ → Type 0
IsDigit digit = is_hex_digit digit ≡ true

digits_in_either_case : (text : List ℕ) → AllPass is_hex_digit (uppercase_of text) → AllPass is_hex_digit text
digits_in_either_case [] h = All-nil IsDigit
digits_in_either_case (digit ∷ text) h =
    All-cons IsDigit digit text (digit_in_either_case digit (All-head IsDigit (to_ascii_uppercase digit) (uppercase_of text) h))
    (digits_in_either_case text (All-tail IsDigit (to_ascii_uppercase digit) (uppercase_of text) h))

-- ---- texts

-- two digits that read as an octet are its text in upper case
pair_written : (high low v w : ℕ) → T (is_written (Some v) (to_ascii_uppercase high)) → T (is_written (Some w) (to_ascii_uppercase low))
    → (rest bytes : List ℕ) → uppercase_of rest ≡ encode_upper bytes → uppercase_of (high ∷ low ∷ rest) ≡ encode_upper ((v * 16 + w) ∷ bytes)
unfolding encode_with
pair_written high low v w hv hw rest bytes h =
    let small : w < 16 = ltb→lt _ _ (and_r (eqb (to_ascii_uppercase low) (slice_index upper_digits w)) _ hw) in
    let is_high : (v * 16 + w) / 16 ≡ v = omega arith in
    let is_low : (v * 16 + w) % 16 ≡ w = omega arith in
    let a : to_ascii_uppercase high ≡ slice_index upper_digits v = eqb→eq _ _ (and_l _ _ hv) in
    let b : to_ascii_uppercase low ≡ slice_index upper_digits w = eqb→eq _ _ (and_l _ _ hw) in
    rw (is_high, is_low, a, b, h) refl

pair_reads : (high low v w i : ℕ) → hex_digit_value high ≡ Some v → hex_digit_value low ≡ Some w → pair_value high low i ≡ Ok (v * 16 + w)
pair_reads high low v w i hv hw = rw (hv, hw) refl

-- an even number of digits decodes to octets whose text it is in upper case
digits_written : (i : ℕ) (text : List ℕ) → length text % 2 ≡ 0 → AllPass is_hex_digit text
    → (bytes : List ℕ) × (decode_pairs i text ≡ Ok bytes) × (uppercase_of text ≡ encode_upper bytes)
unfolding decode_pairs encode_with
digits_written i [] even h = ([], refl, refl)
digits_written i (a ∷ []) even h = absurd (omega arith)
digits_written i (a ∷ b ∷ rest) even h =
    let tail = All-tail IsDigit a (b ∷ rest) h in
    let v = value_of_digit (hex_digit_value a) (All-head IsDigit a (b ∷ rest) h) in
    let w = value_of_digit (hex_digit_value b) (All-head IsDigit b rest tail) in
    let more = digits_written (i + 2) rest (omega arith) (All-tail IsDigit b rest tail) in
    let pair = pair_reads a b v.0 w.0 i v.1 w.1 in (
      (v.0 * 16 + w.0) ∷ more.0,
      decode_pairs-ok_pair i a b _ rest pair ∙ ap (cons_byte (v.0 * 16 + w.0)) more.1,
      pair_written a b v.0 w.0 (digit_written a v.0 v.1) (digit_written b w.0 w.1) rest more.0 more.2,
    )

-- what decodes to octets is their text in upper case
pub decoded_is_written : (text bytes : List ℕ) → decode_of text ≡ Ok bytes → uppercase_of text ≡ encode_upper bytes
decoded_is_written text bytes h =
    let ok = decode_of-ok text bytes h in
    let found = digits_written 0 text ok.0 ok.1 in
    let e : bytes ≡ found.0 = ap (λ (r : Result (List ℕ) FromHexError). result_unwrap_or r []) (sym h ∙ decode_of-even text ok.0 ∙ found.1) in
    rw e found.2

-- what is the text of octets in upper case decodes
pub written_decodes : (text bytes : List ℕ) → IsBytes bytes → uppercase_of text ≡ encode_upper bytes → (found : List ℕ) × (decode_of text ≡ Ok found)
written_decodes text bytes small h =
    let ok = decode_of-ok (encode_upper bytes) bytes (decode_of-encode_upper bytes small) in
    let digits : AllPass is_hex_digit (uppercase_of text) = rw h ok.1 in
    let same : length text ≡ length (uppercase_of text) = sym (length-map text to_ascii_uppercase) in
    let even : length text % 2 ≡ 0 = rw (same, h) ok.0 in
    decode_of-digits text even (digits_in_either_case text digits)
