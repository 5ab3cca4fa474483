-- How long fields and their lines are.
use Rattle.std.specs.Prelude.{ℕ, ◌+◌, ◌≤◌, List, [], ◌∷◌, length, sum_by, if◌then◌else◌}
use Rattle.text_lines.specs.Lines.{TextLine, lines_of}
use Rattle.header_fields.specs.Fields.{Field}
use Rattle.header_fields.specs.Header.{Header, line_length, begins_blank, is_field_line, header_lines}

-- how many octets fields take at least: each its value, a colon, and one more for its name
abbrev pub fields_extent : List Field → ℕ
fields_extent fields = sum_by (λ field. length field.value + 2) fields

-- the fields of a header take no more octets than stand before the body
abbrev pub IsHeader : Header → Type 0
IsHeader header = fields_extent header.fields ≤ header.body_start

-- the places from which and up to which the lines of a field stand, with the break of the last
pub record FieldLines : Type 0 where
  pub start : ℕ
  pub stop : ℕ

-- how many octets the lines have that continue the line before them
abbrev pub continuation_length : List TextLine → ℕ
continuation_length [] = 0
continuation_length (line ∷ lines) = if begins_blank line.content then line_length line + continuation_length lines else 0

-- where the lines of each field stand, of lines that begin at a place
abbrev pub field_lines_from : ℕ → List TextLine → List FieldLines
field_lines_from place [] = []
field_lines_from place (line ∷ lines) =
    let after = place + line_length line in
    if is_field_line line.content then record { start = place; stop = after + continuation_length lines } ∷ field_lines_from after lines
    else field_lines_from after lines

-- where the lines of each field of a text's header stand
abbrev pub field_lines_of : List ℕ → List FieldLines
field_lines_of text = field_lines_from 0 (header_lines (lines_of text))

-- the lines of each field come after those of the fields before it, between these places
abbrev pub AreApart : ℕ → ℕ → List FieldLines → Type 0
AreApart from to [] = from ≤ to
AreApart from to (lines ∷ others) = (from ≤ lines.start) × (lines.start ≤ lines.stop) × AreApart lines.stop to others

-- the value is at least two octets shorter than the lines
abbrev pub IsShorter : Field → FieldLines → Type 0
IsShorter field lines = lines.start + length field.value + 2 ≤ lines.stop
