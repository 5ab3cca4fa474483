-- Texts in pieces.
use Rattle.std.proofs.Common.{◌≡◌, ◌≢◌, ℕ, zero, suc, ◌*◌, ◌/◌, ◌%◌, List, [], ◌∷◌, ◌++◌, length, take, drop, min, replicate, refl, sym, ap, ◌∙◌, inl, inr, arith}
use Rattle.std.specs.List.{flat_map}
use Rattle.std.proofs.lemmas.Bool.{cases_lt}
use Rattle.std.proofs.lemmas.List.{append_assoc, append-nil, drop_all, length-append, length-drop, length-take-le, nil_from_length, take-append-drop, take_all}
use Rattle.base64.specs.Engines.{standard}
use Rattle.base64.specs.Rfc4648.{encode_symbols, padding_len}
use Rattle.base64.proofs.Canonical.{encode_symbols-append}
use Rattle.hex.specs.Hex.{encode_with}
use Rattle.lanes_base64_mime.specs.MimeBase64.{in_lines, line_break, mime_encoding_of}
use Rattle.lanes_base64_mime.proofs.Lines.{mime_encoding_of-none}
use Rattle.octet_lanes.specs.Encoding.{encoding_of}
use Rattle.octet_lanes.specs.declared.alphabet.Alphabet.TheVariants as alphabet
use Rattle.octet_lanes.proofs.Pieces.{cut-append, cut-nil}
use Rattle.octet_lanes.proofs.Texts.{encoding_of-none, encoding_whole_quanta}
use Rattle.quoted_printable.proofs.Encoded.{encoding_of-none as qp_of_none}
use Rattle.encodings.specs.Texts.{IsPiece, text_of}
use Rattle.encodings.specs.declared.encoding.Encoding.{Encoding}
use Rattle.encodings.specs.declared.encoding.Encoding.TheVariants.{Raw, Base64, Base64Mime, Base32, Base32Hex, Base16, Qp}

-- ---- whatever follows a piece

digits_in_two : (t xs ys : List ℕ) → encode_with t (xs ++ ys) ≡ encode_with t xs ++ encode_with t ys
unfolding encode_with
digits_in_two t [] ys = refl
digits_in_two t (x ∷ xs) ys = rw (digits_in_two t xs ys) refl

-- whole lines before others
lines_in_two : (n : ℕ) (xs ys : List ℕ) → length xs ≡ n * 76 → in_lines (xs ++ ys) ≡ in_lines xs ++ in_lines ys
lines_in_two zero xs ys long =
    let none : xs ≡ [] = nil_from_length xs (omega arith) in
    let nothing : in_lines [] ≡ [] = ap (flat_map (λ line. line ++ line_break)) (cut-nil 76 (omega arith)) in
    ap (λ l. in_lines (l ++ ys)) none ∙ ap (λ l. l ++ in_lines ys) (sym (ap in_lines none ∙ nothing))
lines_in_two (suc n) xs ys long =
    let line = take 76 xs in
    let rest = drop 76 xs in
    let enough : length line ≡ 76 = length-take-le 76 xs (omega arith) in
    let split : xs ≡ line ++ rest = sym (take-append-drop 76 xs) in
    let alone : in_lines xs ≡ (line ++ line_break) ++ in_lines rest = ap in_lines split ∙ ap (flat_map (λ l. l ++ line_break)) (cut-append 76 line rest (omega arith) enough) in
    ap (λ l. in_lines (l ++ ys)) split
    ∙ ap in_lines (append_assoc line rest ys)
    ∙ ap (flat_map (λ l. l ++ line_break)) (cut-append 76 line (rest ++ ys) (omega arith) enough)
    ∙ ap (λ l. (line ++ line_break) ++ l) (lines_in_two n rest ys (omega (arith, length-drop 76 xs)))
    ∙ sym (append_assoc (line ++ line_break) (in_lines rest) (in_lines ys))
    ∙ ap (λ l. l ++ in_lines ys) (sym alone)

mime_in_two : (xs ys : List ℕ) → length xs % 57 ≡ 0 → mime_encoding_of (xs ++ ys) ≡ mime_encoding_of xs ++ mime_encoding_of ys
unfolding mime_encoding_of
mime_in_two xs ys whole =
    let n : ℕ = length xs / 57 in
    let two = encoding_whole_quanta alphabet.Base64 xs ys (n * 19) (omega arith) in
    ap in_lines two.0 ∙ lines_in_two n (encoding_of alphabet.Base64 xs) (encoding_of alphabet.Base64 ys) (omega (arith, two.1))

base64_in_two : (xs ys : List ℕ) → length xs % 3 ≡ 0 → text_of Base64 (xs ++ ys) ≡ text_of Base64 xs ++ text_of Base64 ys
base64_in_two xs ys whole =
    let t = standard.encode_table in
    let pad = standard.padding.value in
    let none : padding_len (length xs) ≡ 0 = omega arith in
    let same : padding_len (length (xs ++ ys)) ≡ padding_len (length ys) = omega (arith, length-append xs ys) in
    let alone : text_of Base64 xs ≡ encode_symbols t xs = ap (λ n. encode_symbols t xs ++ replicate n pad) none ∙ append-nil (encode_symbols t xs) in
    (λ i. encode_symbols-append t xs ys whole i ++ replicate (same i) pad)
    ∙ append_assoc (encode_symbols t xs) (encode_symbols t ys) (replicate (padding_len (length ys)) pad)
    ∙ ap (λ l. l ++ text_of Base64 ys) (sym alone)

pub in_two : (encoding : Encoding) (piece rest : List ℕ) → IsPiece encoding piece → text_of encoding (piece ++ rest) ≡ text_of encoding piece ++ text_of encoding rest
in_two Raw xs ys is = refl
in_two Base64 xs ys is = base64_in_two xs ys is
in_two Base64Mime xs ys is = mime_in_two xs ys is
in_two Base32 xs ys is = (encoding_whole_quanta alphabet.Base32 xs ys (length xs / 5) (omega arith)).0
in_two Base32Hex xs ys is = (encoding_whole_quanta alphabet.Base32Hex xs ys (length xs / 5) (omega arith)).0
in_two Base16 xs ys is = digits_in_two _ xs ys
in_two Qp xs ys is = absurd is

-- ---- the first piece

pub text_of-none : (encoding : Encoding) → text_of encoding [] ≡ []
unfolding encode_symbols encode_with
text_of-none Base64Mime = mime_encoding_of-none
text_of-none Base32 = encoding_of-none alphabet.Base32
text_of-none Base32Hex = encoding_of-none alphabet.Base32Hex
text_of-none Qp = qp_of_none
text_of-none _ = refl

-- a multiple of the octets of each encoding's pieces
is_piece : (encoding : Encoding) (xs : List ℕ) → encoding ≢ Qp → length xs ≡ 4560 → IsPiece encoding xs
is_piece Raw xs other long = tt
is_piece Base16 xs other long = tt
is_piece Qp xs other long = other refl
is_piece _ xs other long = omega arith

pub first_and_rest : (encoding : Encoding) (octets : List ℕ) → encoding ≢ Qp
    → text_of encoding octets ≡ text_of encoding (take (min (length octets) 4560) octets) ++ text_of encoding (drop (min (length octets) 4560) octets)
first_and_rest encoding octets other =
    elim (cases_lt (length octets) 4560) [
      | inl few ↦
          let all : min (length octets) 4560 ≡ length octets = omega arith in
          let whole : take (min (length octets) 4560) octets ≡ octets = take_all (min (length octets) 4560) octets (omega arith) in
          let none : drop (min (length octets) 4560) octets ≡ [] = drop_all (min (length octets) 4560) octets (omega arith) in
          sym ((λ i. text_of encoding (whole i) ++ (ap (text_of encoding) none ∙ text_of-none encoding) i) ∙ append-nil (text_of encoding octets))
      | inr many ↦
          let piece = take (min (length octets) 4560) octets in
          let long : length piece ≡ 4560 = length-take-le (min (length octets) 4560) octets (omega arith) ∙ omega arith in
          ap (text_of encoding) (sym (take-append-drop (min (length octets) 4560) octets))
          ∙ in_two encoding piece (drop (min (length octets) 4560) octets) (is_piece encoding piece other long)
    ]
