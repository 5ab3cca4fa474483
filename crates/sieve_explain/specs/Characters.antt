-- A text as its characters, which of them can be seen, and how many columns they take.
use Rattle.std.specs.Prelude.{ℕ, zero, suc, ◌-◌, nat_le, nat_lt, not, ◌&&◌, ◌||◌, if◌then◌else◌, Bool, List, [], ◌∷◌, take, Option, Some, None, false}
use Rattle.bstr.specs.Utf8.{decoded}
use Rattle.ucd_category.specs.GeneralCategory.{general_category}
use Rattle.ucd_category.specs.GeneralCategoryGroup.{in_group}
use Rattle.ucd_category.specs.declared.GeneralCategoryGroup.TheVariants.{Other, Separator}
use Rattle.unicode_width.specs.Width.{char_width}

-- ---- the pieces of a text

-- a piece of a text: a character of UTF-8 with its octets, or one octet that begins none
pub record Piece : Type 0 where
  pub char : Option ℕ
  pub octets : List ℕ

-- how many octets come after the first one of a character that has that many; none, where there is no character
abbrev pub octets_after_first : Option ℕ → ℕ → ℕ
octets_after_first None size = 0
octets_after_first (Some c) size = size - 1

unfoldable pub more_octets : List ℕ → ℕ
more_octets text = let first = decoded text in octets_after_first first.char first.size

abbrev pub first_piece : List ℕ → Piece
first_piece text = record { char = (decoded text).char; octets = take (suc (more_octets text)) text }

-- the pieces of a text whose first octets, by their number, belong to a piece before it
abbrev pub pieces_after : ℕ → List ℕ → List Piece
pieces_after more [] = []
pieces_after zero (octet ∷ rest) = first_piece (octet ∷ rest) ∷ pieces_after (more_octets (octet ∷ rest)) rest
pieces_after (suc more) (octet ∷ rest) = pieces_after more rest

unfoldable pub pieces : List ℕ → List Piece
pieces text = pieces_after 0 text

-- ---- characters

-- a printable character of ASCII
abbrev pub is_graphic : ℕ → Bool
is_graphic octet = nat_le 32 octet && nat_le octet 126

-- a character outside of ASCII that can be seen and stays in its place: no control (Cc) and no format character (Cf), like
-- those that turn the direction of writing, no blank or line break (Z), and none that Unicode hasn't assigned (Cn, Co, Cs)
unfoldable pub is_sign : ℕ → Bool
is_sign c = not (in_group Other (general_category c) || in_group Separator (general_category c))

-- a character that can be printed as it is
abbrev pub is_visible : ℕ → Bool
is_visible c = if nat_lt c 128 then is_graphic c else is_sign c

abbrev pub or_none : Option ℕ → ℕ
or_none None = 0
or_none (Some width) = width

-- how many columns of a terminal a character takes
unfoldable pub columns : ℕ → ℕ
columns c = or_none (char_width false c)
