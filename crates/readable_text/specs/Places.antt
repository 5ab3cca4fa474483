-- The line and the column of a place in a text, and what stands on its line. LF ends a line; the end of the text is a
-- place, too.
use Rattle.std.specs.Prelude.{ℕ, ◌+◌, ◌-◌, Bool, not, ◌==◌, if◌then◌else◌, List, length, reverse, take, drop, slice_index, slice_range, count_by, take_while}

abbrev pub is_line_feed : ℕ → Bool
is_line_feed octet = octet == 10

abbrev pub is_in_line : ℕ → Bool
is_in_line octet = not (is_line_feed octet)

-- the octets of the place's line that stand before the place, by their number
unfoldable pub octets_before : List ℕ → ℕ → ℕ
octets_before text place = length (take_while is_in_line (reverse (take place text)))

-- those from the place on
unfoldable pub octets_after : List ℕ → ℕ → ℕ
octets_after text place = length (take_while is_in_line (drop place text))

-- the line's number, the first being 1
unfoldable pub line_number : List ℕ → ℕ → ℕ
line_number text place = count_by is_line_feed (take place text) + 1

-- the column, in octets, the first being 1
abbrev pub column : List ℕ → ℕ → ℕ
column text place = octets_before text place + 1

-- the text, without the CR that it may end with
unfoldable pub without_return : List ℕ → List ℕ
without_return text = if slice_index text (length text - 1) == 13 then take (length text - 1) text else text

-- the line of the place, without its break
abbrev pub line_at : List ℕ → ℕ → List ℕ
line_at text place = without_return
    (slice_range text (place - octets_before text place) (place + octets_after text place))
