-- The header of a part: its lines, its fields, and where it ends (RFC 5322, section 2.2).
use Rattle.std.specs.Prelude.{ℕ, ◌+◌, Bool, false, not, ◌==◌, ◌&&◌, nat_lt, if◌then◌else◌, List, [], ◌∷◌, ◌++◌, length, drop, flat_map, take}
use Rattle.std.specs.List.{list_any, prefix_len, take_while}
use Rattle.std.specs.Char.{is_ascii_graphic}
use Rattle.octets.specs.Blank.{is_blank, without_leading_blanks, without_outer_blanks, without_trailing_blanks}
use Rattle.text_lines.specs.Lines.{TextLine, lines_of}
use Rattle.header_fields.specs.Fields.{Field}

-- an empty line: no octet stands before its break
abbrev pub is_empty : TextLine → Bool
is_empty line = length line.content == 0

-- how many octets a line has, its break counted
abbrev pub line_length : TextLine → ℕ
line_length line = length line.content + length line.break

-- a line that begins with SP or TAB, and so continues the line before it
abbrev pub begins_blank : List ℕ → Bool
begins_blank [] = false
begins_blank (octet ∷ rest) = is_blank octet

-- an octet of a field's name: 33 to 126, but no colon
abbrev pub is_name_octet : ℕ → Bool
is_name_octet octet = is_ascii_graphic octet && not (octet == 58)

-- the octets of a name that a line begins with
abbrev pub name_of : List ℕ → List ℕ
name_of line = take_while is_name_octet line

-- what follows them, without the blanks that may stand before the colon
abbrev pub after_name : List ℕ → List ℕ
after_name line = without_leading_blanks (drop (prefix_len is_name_octet line) line)

-- a text that begins with a colon
abbrev pub begins_with_colon : List ℕ → Bool
begins_with_colon [] = false
begins_with_colon (octet ∷ rest) = octet == 58

-- a field line: a name of one octet or more, perhaps blanks, and a colon
abbrev pub is_field_line : List ℕ → Bool
is_field_line line = nat_lt 0 (length (name_of line)) && begins_with_colon (after_name line)

-- what follows the colon of a field line
abbrev pub after_colon : List ℕ → List ℕ
after_colon line = drop 1 (after_name line)

-- the lines that continue the line before them, joined without their breaks
abbrev pub continuation : List TextLine → List ℕ
continuation [] = []
continuation (line ∷ lines) = if begins_blank line.content then line.content ++ continuation lines else []

-- whether the first of the lines continues the line before them
abbrev pub is_continued : List TextLine → Bool
is_continued [] = false
is_continued (line ∷ lines) = begins_blank line.content

-- the field of a field line, and of the lines after it that continue it
abbrev pub field_of : List ℕ → List TextLine → Field
field_of line lines =
    record {
      name = name_of line;
      value = without_outer_blanks (after_colon line ++ continuation lines);
      folded = is_continued lines;
    }

-- the fields that lines hold: what is no field line begins no field, so it is skipped with the lines that continue it
abbrev pub fields_in : List TextLine → List Field
fields_in [] = []
fields_in (line ∷ lines) = if is_field_line line.content then field_of line.content lines ∷ fields_in lines else fields_in lines

-- the header's lines: those before the first empty one, or all where there is none
abbrev pub header_lines : List TextLine → List TextLine
header_lines [] = []
header_lines (line ∷ lines) = if is_empty line then [] else line ∷ header_lines lines

-- how many octets they have, the empty line that ends them counted
abbrev pub header_length : List TextLine → ℕ
header_length [] = 0
header_length (line ∷ lines) = if is_empty line then line_length line else line_length line + header_length lines

-- the fields of a text's header
abbrev pub fields_of : List ℕ → List Field
fields_of text = fields_in (header_lines (lines_of text))

-- where the body begins: after the empty line, or at the text's end
abbrev pub body_start_of : List ℕ → ℕ
body_start_of text = header_length (lines_of text)

-- a header: its fields in order, and where the body begins
pub record Header : Type 0 where
  pub fields : List Field
  pub body_start : ℕ

-- the header of a text
abbrev pub header_of : List ℕ → Header
header_of text = record { fields = fields_of text; body_start = body_start_of text }

-- whether a text has a line feed
abbrev pub has_feed : List ℕ → Bool
has_feed text = list_any (λ octet. octet == 10) text

-- what lines hold without their breaks, joined
abbrev pub contents : List TextLine → List ℕ
contents lines = flat_map (λ line. line.content) lines

-- a text without its line breaks
abbrev pub without_breaks : List ℕ → List ℕ
without_breaks text = contents (lines_of text)

-- the first octets of a text, at most so many, without the blanks that they end with
abbrev pub beginning_of : ℕ → List ℕ → List ℕ
beginning_of most text = without_trailing_blanks (take most text)

-- the field that lines hold, which have their breaks but the last
abbrev pub field_written : List ℕ → Field
field_written lines =
    let text = after_colon lines in
    record { name = name_of lines; value = without_outer_blanks (without_breaks text); folded = has_feed text }
