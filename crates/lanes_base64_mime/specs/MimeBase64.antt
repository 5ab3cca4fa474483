-- MIME base64 (RFC 2045, section 6.8).
use Rattle.std.specs.Prelude.{ℕ, List, [], ◌∷◌, ◌++◌, ◌%◌, length}
use Rattle.std.specs.List.{flat_map}
use Rattle.octet_lanes.specs.declared.alphabet.Alphabet.TheVariants.{Base64}
use Rattle.octet_lanes.specs.Encoding.{all_bits, before_padding, cut, decoding_of, encoding_of, values_of}

-- CR LF
abbrev pub line_break : List ℕ
line_break = 13 ∷ 10 ∷ []

-- a text in lines of 76 characters, the last one perhaps shorter, each with its line break
abbrev pub in_lines : List ℕ → List ℕ
in_lines text = flat_map (λ line. line ++ line_break) (cut 76 text)

-- the MIME base64 text of octets
unfoldable pub mime_encoding_of : List ℕ → List ℕ
mime_encoding_of octets = in_lines (encoding_of Base64 octets)

-- the octets of a text: the bits of its symbols before the first `=`, as whole octets
abbrev pub mime_decoding_of : List ℕ → List ℕ
mime_decoding_of = decoding_of Base64

-- how many bits the whole octets of a text leave over
abbrev pub bits_left : List ℕ → ℕ
bits_left text = length (all_bits 6 (values_of Base64 (before_padding text))) % 8
