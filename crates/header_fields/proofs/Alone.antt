-- A header read by itself.
use Rattle.std.proofs.Common.{◌≡◌, ℕ, List, [], ◌∷◌, refl, sym, ◌∙◌, ap, length, take, inl, inr, if◌then◌else◌}
use Rattle.std.proofs.lemmas.Bool.{cases_Bool}
use Rattle.std.proofs.lemmas.List.{length-append, append-nil}
use Rattle.std.proofs.Math.Seq.{take-append-add, take-append_seam}
use Rattle.text_lines.specs.Lines.{TextLine, lines_of, line_octets, octets_of, AreLines}
use Rattle.text_lines.proofs.Broken.{octets_of-lines_of, AreLines-lines_of, lines_of-octets_of}
use Rattle.header_fields.specs.Header.{is_empty, line_length, header_lines, header_length, header_of, body_start_of}

-- the header's lines, and the empty one after them
abbrev with_empty : List TextLine → List TextLine
with_empty [] = []
with_empty (line ∷ lines) = if is_empty line then line ∷ [] else line ∷ with_empty lines

are_lines : (lines : List TextLine) → AreLines lines → AreLines (with_empty lines)
are_lines [] are = tt
are_lines (line ∷ lines) (inl (ended, more)) = elim (cases_Bool (is_empty line)) [
  | inl empty ↦ rw empty (inl (ended, tt))
  | inr some ↦ rw some (inl (ended, are_lines lines more))
]
are_lines (line ∷ lines) (inr (last, none)) = elim (cases_Bool (is_empty line)) [
  | inl empty ↦ rw empty (inr (last, refl))
  | inr some ↦ rw (some, none) (inr (last, refl))
]

-- they are the octets before the body
octets_taken : (lines : List TextLine) → take (header_length lines) (octets_of lines) ≡ octets_of (with_empty lines)
octets_taken [] = refl
octets_taken (line ∷ lines) =
    let long : line_length line ≡ length (line_octets line) = sym (length-append line.content line.break) in
    elim (cases_Bool (is_empty line)) [
      | inl empty ↦ rw (empty, long) (take-append_seam (line_octets line) (octets_of lines) ∙ sym (append-nil (line_octets line)))
      | inr some ↦ rw (some, long, take-append-add, octets_taken lines) refl
    ]

-- and have the same header
same_lines : (lines : List TextLine) → header_lines (with_empty lines) ≡ header_lines lines
same_lines [] = refl
same_lines (line ∷ lines) = elim (cases_Bool (is_empty line)) [
  | inl empty ↦ rw (empty, empty) refl
  | inr some ↦ rw (some, some, same_lines lines) refl
]

same_length : (lines : List TextLine) → header_length (with_empty lines) ≡ header_length lines
same_length [] = refl
same_length (line ∷ lines) = elim (cases_Bool (is_empty line)) [
  | inl empty ↦ rw (empty, empty) refl
  | inr some ↦ rw (some, some, same_length lines) refl
]

pub header_alone : (text : List ℕ) → header_of (take (body_start_of text) text) ≡ header_of text
header_alone text =
    let lines = lines_of text in
    let octets : take (header_length lines) text ≡ octets_of (with_empty lines) = ap (take (header_length lines)) (sym (octets_of-lines_of text)) ∙ octets_taken lines in
    let alone : lines_of (take (header_length lines) text) ≡ with_empty lines = ap lines_of octets ∙ lines_of-octets_of (with_empty lines) (are_lines lines (AreLines-lines_of text)) in
    rw (alone, same_lines lines, same_length lines) refl
