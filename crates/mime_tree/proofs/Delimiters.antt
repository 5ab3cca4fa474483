-- The lines that stand between the parts of a multipart.
use Rattle.std.proofs.Common.{◌≡◌, ◌≢◌, ℕ, Bool, true, false, Some, None, List, [], ◌∷◌, ◌++◌, refl, sym, ◌∙◌, ap, reverse, length, drop, codes, inl, inr, Decides}
use Rattle.std.specs.Prelude.{bytes_eq}
use Rattle.std.proofs.lemmas.Bool.{cases_Bool}
use Rattle.std.proofs.lemmas.Bool.Decides.{same_from_decides}
use Rattle.std.proofs.lemmas.Slice.Eq.{bytes_eq-Decides}
use Rattle.std.proofs.lemmas.List.{reverse-append, append_cancel_right, take-append-drop}
use Rattle.octets.specs.Blank.{is_blank, without_leading_blanks, without_trailing_blanks}
use Rattle.header_fields.proofs.Trimming.{trailing_taken}
use Rattle.mime_tree.specs.PartTree.{is_delimiter}
use Rattle.mime_tree.specs.Reading.{mark_of}
use Rattle.mime_tree.specs.declared.delimiter.Mark.TheVariants.{Closing}

-- an octet before the blanks that a text ends with
leading_before : (octet : ℕ) (text : List ℕ) → is_blank octet ≡ false → without_leading_blanks (text ++ octet ∷ []) ≡ without_leading_blanks text ++ octet ∷ []
leading_before octet [] other = rw other refl
leading_before octet (x ∷ text) other = elim (cases_Bool (is_blank x)) [
  | inl blank ↦ rw blank (leading_before octet text other)
  | inr some ↦ rw some refl
]

trimmed_after : (octet : ℕ) (text : List ℕ) → is_blank octet ≡ false → without_trailing_blanks (octet ∷ text) ≡ octet ∷ without_trailing_blanks text
trimmed_after octet text other =
    ap (λ t. reverse (without_leading_blanks t)) (reverse-append (octet ∷ []) text)
    ∙ ap reverse (leading_before octet (reverse text) other)
    ∙ reverse-append (without_leading_blanks (reverse text)) (octet ∷ [])

-- a line that doesn't begin with two dashes
pub no_delimiter : (boundary line : List ℕ) → ((rest : List ℕ) → line ≢ 45 ∷ 45 ∷ rest) → false ≡ is_delimiter boundary line
no_delimiter boundary line none = elim (cases_Bool (is_delimiter boundary line)) [
  | inl is ↦ absurd (
      let n = length (without_trailing_blanks line) in
      let same = trailing_taken line ∙ (bytes_eq-Decides (without_trailing_blanks line) (45 ∷ 45 ∷ boundary)).0 is in
      none (boundary ++ drop n line) (sym (take-append-drop n line) ∙ ap (λ t. t ++ drop n line) same))
  | inr other ↦ sym other
]

-- a line that does, by what follows them
pub delimiter_after : (boundary line after : List ℕ) → line ≡ 45 ∷ 45 ∷ after → bytes_eq (without_trailing_blanks after) boundary ≡ is_delimiter boundary line
delimiter_after boundary line after is =
    rw (is, trimmed_after 45 (45 ∷ after) refl, trimmed_after 45 after refl) refl

-- names with two dashes behind them
pub closed_name : (boundary name closed : List ℕ) → name ≡ closed ++ codes "--" → bytes_eq closed boundary ≡ bytes_eq name (boundary ++ codes "--")
closed_name boundary name closed is =
    let longer : Decides (bytes_eq name (boundary ++ codes "--")) (closed ≡ boundary) =
    (λ e. append_cancel_right closed boundary (codes "--") (sym is ∙ (bytes_eq-Decides _ _).0 e), λ e. (bytes_eq-Decides _ _).1 (is ∙ ap (λ n. n ++ codes "--") e)) in
    same_from_decides _ _ (bytes_eq-Decides closed boundary) longer

pub not_closed : (boundary name : List ℕ) → ((closed : List ℕ) → name ≢ closed ++ codes "--") → bytes_eq name (boundary ++ codes "--") ≡ false
not_closed boundary name other = elim (cases_Bool (bytes_eq name (boundary ++ codes "--"))) [
  | inl same ↦ absurd (other boundary ((bytes_eq-Decides _ _).0 same))
  | inr differs ↦ differs
]

-- what a line of a name is
pub marks_closing : (preamble : Bool) (boundary name : List ℕ) → bytes_eq name boundary ≡ false → preamble ≡ false → bytes_eq name (boundary ++ codes "--") ≡ true → Some Closing ≡ mark_of preamble boundary name
marks_closing preamble boundary name other begun closing = rw (other, begun, closing) refl

pub marks_nothing : (preamble : Bool) (boundary name : List ℕ) → bytes_eq name boundary ≡ false → preamble ≡ false → bytes_eq name (boundary ++ codes "--") ≡ false → None ≡ mark_of preamble boundary name
marks_nothing preamble boundary name other begun going = rw (other, begun, going) refl
