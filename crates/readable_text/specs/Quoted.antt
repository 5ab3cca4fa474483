-- Octets between quotes.
use Rattle.std.specs.Prelude.{ℕ, ◌/◌, ◌%◌, ◌==◌, ◌&&◌, ◌||◌, nat_le, not, Bool, false, List, [], ◌∷◌, ◌++◌, length, take, if◌then◌else◌, codes}
use Rattle.std.specs.List.{flat_map}
use Rattle.std.specs.Fmt.{digit_glyph}

-- an octet as two lower-case hexadecimal digits
abbrev pub two_digits : ℕ → List ℕ
two_digits octet = digit_glyph false (octet / 16) ∷ digit_glyph false (octet % 16) ∷ []

-- a backslash and the octet's two digits
abbrev pub escape : ℕ → List ℕ
escape octet = 92 ∷ two_digits octet

-- an octet that stands for itself between quotes: 32 to 126 without the quote and the backslash
abbrev pub is_plain : ℕ → Bool
is_plain octet = (nat_le 32 octet && nat_le octet 126) && not (octet == 34 || octet == 92)

-- an octet between quotes: itself, or a backslash and its two digits
abbrev pub escaped_octet : ℕ → List ℕ
escaped_octet octet = if is_plain octet then octet ∷ [] else escape octet

-- octets between quotes
abbrev pub quoted : List ℕ → List ℕ
quoted octets = 34 ∷ (flat_map escaped_octet octets ++ 34 ∷ [])

-- a text between quotes; of one with more octets than that the first ones, and a mark
abbrev pub cut : ℕ → List ℕ → List ℕ → List ℕ
cut most mark text = if nat_le (length text) most then quoted text else quoted (take most text) ++ mark

-- how many octets of a text its start has
abbrev pub max_start : ℕ
max_start = 80

-- a text between quotes; of a longer one the first octets, and two dots
unfoldable pub quoted_start : List ℕ → List ℕ
quoted_start text = cut max_start (codes "..") text
