-- How long what a text stands for is.
use Rattle.std.proofs.Common.{ℕ, ◌-◌, ◌+◌, ◌≤◌, List, [], ◌∷◌, inl, inr, ap, arith, length, reverse}
use Rattle.std.specs.List.{flat_map}
use Rattle.std.proofs.lemmas.Bool.{cases_Bool}
use Rattle.std.proofs.lemmas.List.{length-append, length-reverse, length-take}
use Rattle.octets.specs.Blank.{is_blank, without_leading_blanks, without_trailing_blanks}
use Rattle.text_lines.specs.Lines.{TextLine, lines_of, line_octets, octets_of}
use Rattle.text_lines.proofs.Broken.{octets_of-lines_of}
use Rattle.quoted_printable.specs.QuotedPrintable.{decoded_line, decoding_of, ends_in_equals, is_escape, unescaped, without_last}
use Rattle.quoted_printable.proofs.Heads.{ended}

unescaped_length : (text : List ℕ) → length (unescaped text) ≤ length text
unescaped_length [] = omega arith
unescaped_length (octet ∷ []) = omega arith
unescaped_length (octet ∷ following ∷ []) = omega arith
unescaped_length (octet ∷ high ∷ low ∷ rest) =
    let less = unescaped_length rest in
    let more = unescaped_length (high ∷ low ∷ rest) in
    elim (cases_Bool (is_escape octet high low)) [
      | inl e ↦ rw e (omega arith)
      | inr e ↦ rw e (omega arith)
    ]

leading_length : (text : List ℕ) → length (without_leading_blanks text) ≤ length text
leading_length [] = omega arith
leading_length (octet ∷ rest) =
    let less = leading_length rest in
    elim (cases_Bool (is_blank octet)) [
      | inl e ↦ rw e (omega arith)
      | inr e ↦ rw e (omega arith)
    ]

trailing_length : (text : List ℕ) → length (without_trailing_blanks text) ≤ length text
trailing_length text =
    let less = leading_length (reverse text) in
    omega (arith, less, length-reverse (without_leading_blanks (reverse text)), length-reverse text)

ended_length : (kept break : List ℕ) → length (ended kept break) ≤ length kept + length break
ended_length kept break = elim (cases_Bool (ends_in_equals kept)) [
  | inl e ↦ rw e (omega (arith, unescaped_length (without_last kept), length-take (length kept - 1) kept))
  | inr e ↦ rw e (omega (arith, unescaped_length kept, length-append (unescaped kept) break))
]

lines_length : (lines : List TextLine) → length (flat_map decoded_line lines) ≤ length (octets_of lines)
lines_length [] = omega arith
lines_length (line ∷ lines) =
    let more = lines_length lines in
    let kept = without_trailing_blanks line.content in
    let less = ended_length kept line.break in
    omega (
      arith,
      more,
      less,
      trailing_length line.content,
      length-append (ended kept line.break) (flat_map decoded_line lines),
      length-append (line_octets line) (octets_of lines),
      length-append line.content line.break,
    )

pub no_longer : (text : List ℕ) → length (decoding_of text) ≤ length text
unfolding decoding_of
no_longer text = let less = lines_length (lines_of text) in omega (arith, less, ap length (octets_of-lines_of text))
