-- How long the fields of a header are beside their lines.
use Rattle.std.proofs.Common.{ℕ, ◌+◌, ◌≤◌, List, [], ◌∷◌, ◌++◌, ap, arith, length, inl, inr}
use Rattle.std.specs.List.{AllZip}
use Rattle.std.specs.Prelude.{reverse}
use Rattle.std.proofs.lemmas.Bool.{cases_Bool}
use Rattle.std.proofs.lemmas.List.{length-append, length-reverse}
use Rattle.std.proofs.lemmas.List.Sums.{sum_by-cons}
use Rattle.octets.specs.Blank.{without_leading_blanks, without_outer_blanks}
use Rattle.text_lines.specs.Lines.{TextLine, lines_of, line_octets, octets_of}
use Rattle.text_lines.proofs.Broken.{octets_of-lines_of}
use Rattle.header_fields.specs.Fields.{Field}
use Rattle.header_fields.specs.Header.{is_empty, line_length, begins_blank, is_field_line, after_colon, continuation, fields_in, header_lines, header_length, fields_of, body_start_of}
use Rattle.header_fields.specs.Extent.{fields_extent, FieldLines, continuation_length, field_lines_from, field_lines_of, AreApart, IsShorter}
use Rattle.header_fields.proofs.Continuations.{not_field}
use Rattle.header_fields.proofs.FieldLines.{field_line_longer}
use Rattle.header_fields.proofs.Trimming.{trimmed_fits}

pub value_fits : (text : List ℕ) → length (without_outer_blanks text) ≤ length text
value_fits text =
    let leading = without_leading_blanks text in
    omega (arith, trimmed_fits text, trimmed_fits (reverse leading), length-reverse leading, length-reverse (without_leading_blanks (reverse leading)))

continuation_fits : (lines : List TextLine) → length (continuation lines) ≤ continuation_length lines
continuation_fits [] = omega arith
continuation_fits (line ∷ lines) = elim (cases_Bool (begins_blank line.content)) [
  | inl blank ↦ rw blank (omega (arith, continuation_fits lines, length-append line.content (continuation lines)))
  | inr other ↦ rw other (omega arith)
]

-- the value of each field is at least two octets shorter than its lines
shorter_from : (place : ℕ) (lines : List TextLine) → AllZip IsShorter (fields_in lines) (field_lines_from place lines)
shorter_from place [] = tt
shorter_from place (line ∷ lines) =
    let more = shorter_from (place + line_length line) lines in
    elim (cases_Bool (is_field_line line.content)) [
      | inl field ↦ rw field (
        omega (
          arith,
          value_fits (after_colon line.content ++ continuation lines),
          length-append (after_colon line.content) (continuation lines),
          continuation_fits lines,
          field_line_longer line.content field,
        ),
        more,
      )
      | inr other ↦ rw other more
    ]

pub values_shorter : (text : List ℕ) → AllZip IsShorter (fields_of text) (field_lines_of text)
values_shorter text = shorter_from 0 (header_lines (lines_of text))

-- places apart are also apart between places farther out
apart_within : (from to low high : ℕ) (places : List FieldLines) → low ≤ from → to ≤ high → AreApart from to places → AreApart low high places
apart_within from to low high [] before after apart = omega arith
apart_within from to low high (lines ∷ others) before after apart =
    (omega (arith, apart.0), apart.1, apart_within lines.stop to lines.stop high others (omega arith) after apart.2)

-- how many octets lines have
abbrev lines_length : List TextLine → ℕ
lines_length [] = 0
lines_length (line ∷ lines) = line_length line + lines_length lines

apart_from : (place : ℕ) (lines : List TextLine) → AreApart (place + continuation_length lines) (place + lines_length lines) (field_lines_from place lines)
apart_from place [] = omega arith
apart_from place (line ∷ lines) =
    let after = place + line_length line in
    let more = apart_from after lines in
    elim (cases_Bool (begins_blank line.content)) [
      | inl blank ↦ rw (blank, not_field line.content blank) (apart_within (after + continuation_length lines) (after + lines_length lines) _ _ (field_lines_from after lines) (omega arith) (omega arith) more)
      | inr other ↦ elim (cases_Bool (is_field_line line.content)) [
        | inl field ↦ rw (other, field) (omega arith, omega arith, apart_within (after + continuation_length lines) (after + lines_length lines) _ _ (field_lines_from after lines) (omega arith) (omega arith) more)
        | inr skipped ↦ rw (other, skipped) (apart_within (after + continuation_length lines) (after + lines_length lines) _ _ (field_lines_from after lines) (omega arith) (omega arith) more)
      ]
    ]

header_fits : (lines : List TextLine) → lines_length (header_lines lines) ≤ header_length lines
header_fits [] = omega arith
header_fits (line ∷ lines) = elim (cases_Bool (is_empty line)) [
  | inl empty ↦ rw empty (omega arith)
  | inr some ↦ rw some (omega (arith, header_fits lines))
]

pub lines_apart : (text : List ℕ) → AreApart 0 (body_start_of text) (field_lines_of text)
lines_apart text =
    let lines = header_lines (lines_of text) in
    apart_within (0 + continuation_length lines) (0 + lines_length lines) 0 (body_start_of text) (field_lines_from 0 lines) (omega arith) (omega (arith, header_fits (lines_of text))) (apart_from 0 lines)

-- values that are shorter than lines apart
sum_fits : (fields : List Field) (places : List FieldLines) (from to : ℕ) → AllZip IsShorter fields places → AreApart from to places → from + fields_extent fields ≤ to
sum_fits [] [] from to shorter apart = omega (arith, apart)
sum_fits [] (lines ∷ others) from to shorter apart = absurd shorter
sum_fits (field ∷ fields) [] from to shorter apart = absurd shorter
sum_fits (field ∷ fields) (lines ∷ others) from to shorter apart =
    omega (arith, shorter.0, apart.0, apart.1, sum_by-cons (λ f. length f.value + 2) field fields, sum_fits fields others lines.stop to shorter.1 apart.2)

pub values_fit : (text : List ℕ) → fields_extent (fields_of text) ≤ body_start_of text
values_fit text = omega (arith, sum_fits (fields_of text) (field_lines_of text) 0 (body_start_of text) (values_shorter text) (lines_apart text))

-- the header is within the text
header_within : (lines : List TextLine) → header_length lines ≤ length (octets_of lines)
header_within [] = omega arith
header_within (line ∷ lines) =
    let whole = length-append (line_octets line) (octets_of lines) in
    let here = length-append line.content line.break in
    elim (cases_Bool (is_empty line)) [
      | inl empty ↦ rw empty (omega (arith, whole, here))
      | inr some ↦ rw some (omega (arith, whole, here, header_within lines))
    ]

pub body_start_within : (text : List ℕ) → body_start_of text ≤ length text
body_start_within text = omega (arith, header_within (lines_of text), ap length (octets_of-lines_of text))
