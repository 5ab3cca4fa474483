-- How long texts are, and what they stand for.
use Rattle.std.proofs.Common.{◌≡◌, ℕ, zero, suc, ◌+◌, ◌*◌, ◌/◌, ◌<◌, ◌≤◌, List, ◌++◌, length, map, take, drop, min, refl, inl, inr, ap, ◌∙◌, arith}
use Rattle.std.specs.Prelude.{◌==◌, not}
use Rattle.std.specs.List.{position_or_len}
use Rattle.std.proofs.lemmas.Bool.{cases_lt}
use Rattle.std.proofs.lemmas.List.{length-append, length-drop, length-map, length-take, length-take-le, nil_from_length}
use Rattle.std.proofs.lemmas.List.Sums.{length-filter, count_by-le-length}
use Rattle.octet_lanes.specs.Encoding.{all_bits, before_padding, class_of, cut, decoding_of, encoding_of, first_pieces, number_of, octets_of, padding, stray, values_of, whole}
use Rattle.octet_lanes.specs.declared.alphabet.Alphabet.TheVariants.{Base64}
use Rattle.octet_lanes.proofs.Bits.{length-all_bits}
use Rattle.octet_lanes.proofs.Texts.{length-encoding_of}
use Rattle.lanes_base64_mime.specs.MimeBase64.{line_break, mime_decoding_of, mime_encoding_of}
use Rattle.lanes_base64_mime.proofs.Lines.{mime_encoding_of-none, next_line}

-- ---- read

length-first_pieces : (k n : ℕ) (xs : List ℕ) → length (first_pieces k n xs) ≡ n
length-first_pieces k zero xs = refl
length-first_pieces k (suc n) xs = ap suc (length-first_pieces k n (drop k xs))

-- bits write no more whole octets than an eighth of their number
octets_few : (bits : List ℕ) → length (octets_of bits) ≤ length bits / 8
octets_few bits =
    let kept = length-take (length bits / 8 * 8) bits in
    let pieces = length-first_pieces 8 ((length (whole 8 bits) + 7) / 8) (whole 8 bits) in
    let numbers = length-map (cut 8 (whole 8 bits)) number_of in
    omega (arith, kept, pieces, numbers)

values_few : (text : List ℕ) → length (values_of Base64 (before_padding text)) ≤ length text
values_few text =
    let classes = map (class_of Base64) (before_padding text) in
    let kept = length-filter (λ class. not (class == stray)) classes in
    let few = count_by-le-length (λ class. not (class == stray)) classes in
    let number = length-map (before_padding text) (class_of Base64) in
    let before = length-take (position_or_len (λ octet. octet == padding) text) text in
    omega (arith, kept, few, number, before)

-- a text stands for six bits at most for each of its octets
pub decoding_fits : (text : List ℕ) → length (mime_decoding_of text) ≤ 6 * length text / 8
unfolding decoding_of
decoding_fits text =
    let values = values_few text in
    let bits = length-all_bits 6 (values_of Base64 (before_padding text)) in
    let few = octets_few (all_bits 6 (values_of Base64 (before_padding text))) in
    omega (arith, values, bits, few)

-- ---- written

-- a line has 78 octets at most
line_fits : (line : List ℕ) → length line ≤ 57 → length (encoding_of Base64 line ++ line_break) ≤ 78
line_fits line few = let count = length-encoding_of Base64 line in omega (arith, count, length-append (encoding_of Base64 line) line_break)

-- no octets are no line
none_fits : (octets : List ℕ) → length octets ≡ 0 → length (mime_encoding_of octets) ≡ 0
none_fits octets none = ap (λ l. length (mime_encoding_of l)) (nil_from_length octets none) ∙ ap length mime_encoding_of-none

-- a line, and what is left after it
line_and_rest : (octets : List ℕ) → 0 < length octets
    → length (mime_encoding_of octets) ≤ 78 + length (mime_encoding_of (drop (min (length octets) 57) octets))
line_and_rest octets some =
    let m = min (length octets) 57 in
    let first = line_fits (take m octets) (omega (arith, length-take-le m octets (omega arith))) in
    let both = ap length (next_line octets some) in
    omega (arith, first, both, length-append (encoding_of Base64 (take m octets) ++ line_break) (mime_encoding_of (drop m octets)))

-- where so many lines are enough
lines_fit : (n : ℕ) (octets : List ℕ) → length octets ≤ n * 57 → length (mime_encoding_of octets) ≤ n * 78
lines_fit zero octets few = let none = none_fits octets (omega arith) in omega (arith, none)
lines_fit (suc n) octets few =
    elim (cases_lt 0 (length octets)) [
      | inl some ↦
          let rest = lines_fit n (drop (min (length octets) 57) octets) (omega (arith, length-drop (min (length octets) 57) octets)) in
          omega (arith, rest, line_and_rest octets some)
      | inr none ↦ let nothing = none_fits octets (omega arith) in omega (arith, nothing)
    ]

-- octets are written in a line for each 57 of them, and one more
pub encoding_fits : (octets : List ℕ) → length (mime_encoding_of octets) ≤ (length octets / 57 + 1) * 78
encoding_fits octets = lines_fit (length octets / 57 + 1) octets (omega arith)
