-- How texts are printed: escaped, and cut where they are long.
use Rattle.std.specs.Prelude.{ℕ, ◌-◌, ◌/◌, ◌%◌, false, nat_le, nat_lt, not, ◌&&◌, ◌||◌, ◌==◌, if◌then◌else◌, Bool, List, [], ◌∷◌, ◌++◌, length, take, drop, replicate, flat_map, codes, Option, Some, None}
use Rattle.std.specs.Fmt.{digit_glyph}
use Rattle.readable_text.specs.Places.{line_at, octets_before}
use Rattle.sieve_explain.specs.Characters.{Piece, pieces, is_visible, columns}
use Rattle.sieve_explain.specs.declared.shown.Style.{Style}
use Rattle.sieve_explain.specs.declared.shown.Style.TheVariants.{Line, Under, Between}

-- how many characters are printed of a name or a string, and of a line on either side of a place
abbrev pub max_shown : ℕ
max_shown = 60

-- a backslash and the octet's two hexadecimal digits
abbrev pub escaped : ℕ → List ℕ
escaped octet = 92 ∷ digit_glyph false (octet / 16 % 16) ∷ digit_glyph false (octet % 16) ∷ []

-- ---- a piece of a text

-- a visible character is printed as it is, and the end of a line. Between two marks the end of a line, the second mark and the
-- backslash aren't: what stands there can't end before it does
abbrev pub is_plain : Style → ℕ → Bool
is_plain (Between mark) c = is_visible c && not (c == mark) && not (c == 92)
is_plain _ c = is_visible c || c == 10

-- the character is printed as a space: TAB in a line of a script
abbrev pub is_blank : Style → ℕ → Bool
is_blank (Between mark) c = false
is_blank _ c = c == 9

-- a character that is printed as it is; under it as many spaces as it has columns
abbrev pub kept : Style → ℕ → List ℕ → List ℕ
kept Under c octets = replicate (columns c) 32
kept _ c octets = octets

-- an octet that isn't; under it three spaces
abbrev pub escaped_in : Style → ℕ → List ℕ
escaped_in Under octet = codes "   "
escaped_in _ octet = escaped octet

unfoldable pub shown_character : Style → ℕ → List ℕ → List ℕ
shown_character style c octets =
    if is_plain style c then kept style c octets else
    if is_blank style c then 32 ∷ [] else
    flat_map (escaped_in style) octets

-- a character as it is printed, or an octet that begins none
abbrev pub shown_octets : Style → Option ℕ → List ℕ → List ℕ
shown_octets style None octets = flat_map (escaped_in style) octets
shown_octets style (Some c) octets = shown_character style c octets

abbrev pub shown_piece : Style → Piece → List ℕ
shown_piece style piece = shown_octets style piece.char piece.octets

abbrev pub shown : Style → List Piece → List ℕ
shown style = flat_map (shown_piece style)

-- ---- a text, cut where it is long

-- what says that something was cut off, and what stands under it
abbrev pub cut_mark : Style → List ℕ
cut_mark Under = codes "   "
cut_mark _ = codes "..."

abbrev pub if_cut : Style → List Piece → List ℕ
if_cut style all = if nat_lt max_shown (length all) then cut_mark style else []

-- a text, cut after its first characters
unfoldable pub shown_start : Style → List ℕ → List ℕ
shown_start style text = let all = pieces text in shown style (take max_shown all) ++ if_cut style all

-- the start of a line's text before a place, cut before its last characters
unfoldable pub shown_end : Style → List ℕ → List ℕ
shown_end style text = let all = pieces text in if_cut style all ++ shown style (drop (length all - max_shown) all)

-- a text, cut after its first characters, between what opens it and the mark that closes it
abbrev pub between : List ℕ → List ℕ → ℕ → List ℕ
between opening text mark = opening ++ shown_start (Between mark) text ++ mark ∷ []

-- a name, between backquotes
abbrev pub named : List ℕ → List ℕ
named name = between (codes "`") name 96

-- a tag, between backquotes
abbrev pub tagged : List ℕ → List ℕ
tagged tag = between (codes "`:") tag 96

-- a string, between quotes
abbrev pub quoted : List ℕ → List ℕ
quoted text = between (codes "\"") text 34

-- ---- a line of a script

-- the text and the end of its line
abbrev pub line : List ℕ → List ℕ
line text = text ++ 10 ∷ []

-- before each line of a script, so that no such line begins as a remark does
abbrev pub margin : List ℕ
margin = codes "  "

-- a line of a script, cut around the place before which that many of its octets stand, and under it a mark at that place: after as
-- many columns as what is printed before the place takes
unfoldable pub marked : List ℕ → ℕ → List ℕ
marked text place =
    let before = take place text in
    line (margin ++ shown_end Line before ++ shown_start Line (drop place text))
    ++ line (margin ++ shown_end Under before ++ codes "^")

-- the line of a place of the script, with its mark
unfoldable pub excerpt : List ℕ → ℕ → List ℕ
excerpt script place = marked (line_at script place) (octets_before script place)

-- ---- the name of a file

-- all but the control characters of ASCII are printed as they are, so that other letters can be read
abbrev pub is_name_octet : ℕ → Bool
is_name_octet octet = nat_le 32 octet && not (octet == 127)

unfoldable pub name_octet : ℕ → List ℕ
name_octet octet = if is_name_octet octet then octet ∷ [] else escaped octet

abbrev pub shown_name : List ℕ → List ℕ
shown_name name = flat_map name_octet name
