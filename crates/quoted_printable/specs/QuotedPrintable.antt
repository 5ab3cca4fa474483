-- Quoted-printable (RFC 2045, section 6.7).
use Rattle.std.specs.Prelude.{ℕ, zero, suc, ◌+◌, ◌-◌, ◌*◌, ◌/◌, ◌%◌, ◌==◌, ◌&&◌, ◌||◌, nat_le, Bool, true, false, not, if◌then◌else◌, List, [], ◌∷◌, ◌++◌, length, take, drop, slice_index, codes}
use Rattle.std.specs.Char.{digit_value}
use Rattle.std.specs.List.{flat_map}
use Rattle.octets.specs.Blank.{is_blank, without_trailing_blanks}
use Rattle.octets.specs.Escapes.{is_hex}
use Rattle.text_lines.specs.Lines.{TextLine, lines_of}

-- `=`
abbrev pub equals : ℕ
equals = 61

-- ---- decoding

-- `=` and two hexadecimal digits
abbrev pub is_escape : ℕ → ℕ → ℕ → Bool
is_escape octet high low = (octet == equals) && (is_hex high && is_hex low)

-- each `=` with two hexadecimal digits after it as the octet with that value, and every other octet as it is
abbrev pub unescaped : List ℕ → List ℕ
unescaped [] = []
unescaped (octet ∷ []) = octet ∷ []
unescaped (octet ∷ following ∷ []) = octet ∷ following ∷ []
unescaped (octet ∷ high ∷ low ∷ rest) =
    if is_escape octet high low then (16 * digit_value high + digit_value low) ∷ unescaped rest else octet ∷ unescaped (high ∷ low ∷ rest)

-- whether the last octet is `=`
abbrev pub ends_in_equals : List ℕ → Bool
ends_in_equals [] = false
ends_in_equals (octet ∷ []) = octet == equals
ends_in_equals (octet ∷ following ∷ rest) = ends_in_equals (following ∷ rest)

-- the octets but the last
abbrev pub without_last : List ℕ → List ℕ
without_last octets = take (length octets - 1) octets

-- What a line stands for: SP and TAB at its end are deleted. A `=` that is its last octet then is a soft break, which goes together
-- with the line's break; otherwise the break stays as it stood.
abbrev pub decoded_line : TextLine → List ℕ
decoded_line line =
    let content = without_trailing_blanks line.content in
    if ends_in_equals content then unescaped (without_last content) else unescaped content ++ line.break

-- the octets of a text: its lines, decoded one by one
unfoldable pub decoding_of : List ℕ → List ℕ
decoding_of text = flat_map decoded_line (lines_of text)

-- ---- encoding

-- the upper-case hexadecimal digit of a value below 16
abbrev pub hex_of : ℕ → ℕ
hex_of value = slice_index (codes "0123456789ABCDEF") value

-- octets that may stand as they are anywhere: 33 to 126 but `=`
abbrev pub is_literal : ℕ → Bool
is_literal octet = (nat_le 33 octet && nat_le octet 126) && not (octet == equals)

-- whether an octet stands as it is: SP and TAB do, but not as the last octet of the data
abbrev pub stands : ℕ → Bool → Bool
stands octet is_last = is_literal octet || (is_blank octet && not is_last)

-- `=` and the two digits of an octet
abbrev pub escape_of : ℕ → List ℕ
escape_of octet = equals ∷ hex_of (octet / 16) ∷ hex_of (octet % 16) ∷ []

-- an octet as it is, or with digits
abbrev pub token_of : ℕ → Bool → List ℕ
token_of octet is_last = if stands octet is_last then octet ∷ [] else escape_of octet

abbrev pub is_none : List ℕ → Bool
is_none [] = true
is_none (octet ∷ rest) = false

-- the tokens of octets, one for each
abbrev pub tokens_of : List ℕ → List (List ℕ)
tokens_of [] = []
tokens_of (octet ∷ rest) = token_of octet (is_none rest) ∷ tokens_of rest

-- the tokens put together
abbrev pub joined : List (List ℕ) → List ℕ
joined tokens = flat_map (λ token. token) tokens

-- how many tokens the longest run from the first on has that takes no more than so many octets
abbrev pub run_of : ℕ → List (List ℕ) → ℕ
run_of room [] = 0
run_of room (token ∷ rest) = if nat_le (length token) room then suc (run_of (room - length token) rest) else 0

-- octets of a line without its break; where a soft break follows, its `=` is one of them
abbrev pub line_octets : ℕ
line_octets = 76

-- `=` CR LF
abbrev pub soft_break : List ℕ
soft_break = equals ∷ 13 ∷ 10 ∷ []

-- whether tokens are so few that they make the last line
abbrev pub is_last_line : List (List ℕ) → Bool
is_last_line tokens = nat_le (length (joined tokens)) line_octets

-- how many tokens the first line takes
abbrev pub tokens_of_line : List (List ℕ) → ℕ
tokens_of_line tokens = if is_last_line tokens then length tokens else run_of (line_octets - 1) tokens

-- the first line of tokens: all of them where that is the last line, otherwise as many as leave room for the `=` of its soft break
abbrev pub first_line : List (List ℕ) → List ℕ
first_line tokens =
    joined (take (tokens_of_line tokens) tokens) ++ (if is_last_line tokens then [] else soft_break)

-- tokens in lines, of which there are at most n
abbrev pub in_lines : ℕ → List (List ℕ) → List ℕ
in_lines zero tokens = []
in_lines (suc n) tokens = first_line tokens ++ in_lines n (drop (tokens_of_line tokens) tokens)

-- the quoted-printable text of octets: their tokens in lines, of which there are no more than octets
unfoldable pub encoding_of : List ℕ → List ℕ
encoding_of octets = in_lines (length octets) (tokens_of octets)
