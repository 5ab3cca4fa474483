-- Texts joined, without the blanks that the whole begins with.
use Rattle.std.proofs.Common.{◌≡◌, ◌⊎◌, ℕ, ◌<◌, ◌≤◌, List, [], ◌∷◌, ◌++◌, refl, sym, ◌∙◌, ap, arith, length, take, inl, inr}
use Rattle.std.specs.Prelude.{reverse}
use Rattle.std.proofs.lemmas.Bool.{cases_Bool}
use Rattle.std.proofs.lemmas.List.{append_assoc, append-nil, reverse-append, reverse-reverse}
use Rattle.std.proofs.Math.Seq.{take-append_seam}
use Rattle.octets.specs.Blank.{is_blank, without_leading_blanks, without_trailing_blanks}
use Rattle.header_fields.proofs.FieldLines.{ends-trimmed}

pub trimmed_fits : (text : List ℕ) → length (without_leading_blanks text) ≤ length text
trimmed_fits [] = omega arith
trimmed_fits (octet ∷ text) = elim (cases_Bool (is_blank octet)) [
  | inl blank ↦ rw blank (omega (arith, trimmed_fits text))
  | inr other ↦ rw other (omega arith)
]

trimmed_first : (text more : List ℕ) → without_leading_blanks (without_leading_blanks text ++ more) ≡ without_leading_blanks (text ++ more)
trimmed_first [] more = refl
trimmed_first (octet ∷ text) more = elim (cases_Bool (is_blank octet)) [
  | inl blank ↦ rw (blank, trimmed_first text more) refl
  | inr other ↦ rw (other, other) refl
]

pub trimmed_again : (text : List ℕ) → without_leading_blanks (without_leading_blanks text) ≡ without_leading_blanks text
trimmed_again text = sym (ap without_leading_blanks (append-nil (without_leading_blanks text))) ∙ trimmed_first text [] ∙ ap without_leading_blanks (append-nil text)

pub trimmed_with : (text more : List ℕ) → 0 < length text → without_leading_blanks text ≡ text → without_leading_blanks (text ++ more) ≡ text ++ more
trimmed_with [] more some is = absurd (omega arith)
trimmed_with (octet ∷ text) more some is = elim (cases_Bool (is_blank octet)) [
  | inl blank ↦ absurd (omega (arith, trimmed_fits text, ap length (rw blank at is)))
  | inr other ↦ rw other refl
]

-- a line more of a text that is joined
pub joined_more : (value more content left whole : List ℕ) → ((length value ≡ 0) × (more ≡ without_leading_blanks content)) ⊎ ((0 < length value) × (more ≡ content))
    → without_leading_blanks value ≡ value → without_leading_blanks (value ++ (content ++ left)) ≡ whole
    → (without_leading_blanks (value ++ more) ≡ value ++ more) × (without_leading_blanks ((value ++ more) ++ left) ≡ whole)
joined_more [] more content left whole (inl (none, is)) trimmed so_far = (rw is (trimmed_again content), rw is (trimmed_first content left ∙ so_far))
joined_more (octet ∷ value) more content left whole (inl (none, is)) trimmed so_far = absurd (omega arith)
joined_more value more content left whole (inr (some, is)) trimmed so_far =
    (rw is (trimmed_with value content some trimmed), rw (is, append_assoc) so_far)

-- a text without trailing blanks is its beginning
trailing_split : (text : List ℕ) → (after : List ℕ) × (text ≡ without_trailing_blanks text ++ after)
trailing_split text =
    let e = ends-trimmed (reverse text) in
    (reverse e.0, sym (reverse-reverse text) ∙ ap reverse e.1 ∙ reverse-append e.0 (without_leading_blanks (reverse text)))

pub trailing_taken : (text : List ℕ) → take (length (without_trailing_blanks text)) text ≡ without_trailing_blanks text
trailing_taken text =
    let e = trailing_split text in
    ap (take (length (without_trailing_blanks text))) e.1 ∙ take-append_seam (without_trailing_blanks text) e.0
