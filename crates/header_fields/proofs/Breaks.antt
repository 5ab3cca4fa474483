-- A text without its line breaks.
use Rattle.std.proofs.Common.{◌≡◌, ◌≢◌, ℕ, ◌<◌, false, List, [], ◌∷◌, ◌++◌, suc, refl, sym, ◌∙◌, ap, arith, length, get_or, inl, inr}
use Rattle.std.proofs.lemmas.List.{append-nil}
use Rattle.text_lines.specs.Lines.{TextLine, lines_of, is_first_of_break, onto_content}
use Rattle.text_lines.proofs.FirstLine.{lines_feed, lines_other, only_line}
use Rattle.text_lines.proofs.Broken.{beginning, lines_crlf, IsBreak, IsContent}
use Rattle.header_fields.specs.Header.{contents, without_breaks}

contents-onto_content : (octet : ℕ) (lines : List TextLine) → contents (onto_content octet lines) ≡ octet ∷ contents lines
contents-onto_content octet [] = refl
contents-onto_content octet (line ∷ lines) = refl

-- one octet more at the beginning
without_feed : (octet : ℕ) (rest : List ℕ) → octet ≡ 10 → without_breaks (octet ∷ rest) ≡ without_breaks rest
without_feed octet rest lf = ap contents (lines_feed octet rest lf)

without_crlf : (octet : ℕ) (rest : List ℕ) → IsBreak octet rest → without_breaks (octet ∷ rest) ≡ without_breaks rest
without_crlf octet rest b = ap contents (lines_crlf octet rest b) ∙ sym (ap without_breaks b.lf)

with_content : (octet : ℕ) (rest : List ℕ) → IsContent octet rest → without_breaks (octet ∷ rest) ≡ octet ∷ without_breaks rest
with_content octet rest other = ap contents (lines_other octet rest other.other other.no_break) ∙ contents-onto_content octet (lines_of rest)

-- the last octet of a text is no CR of a break that follows
ends_apart : (octet : ℕ) (text more : List ℕ) → ((k : ℕ) → suc k ≡ length (octet ∷ text) → is_first_of_break (get_or (octet ∷ text) k 0) more ≡ false)
    → IsContent octet text → IsContent octet (text ++ more)
ends_apart octet [] more apart other = record { other = other.other; no_break = apart 0 refl }
ends_apart octet (d ∷ text) more apart other = record { other = other.other; no_break = other.no_break }

-- texts put together
pub without_breaks-append : (text more : List ℕ) → ((k : ℕ) → suc k ≡ length text → is_first_of_break (get_or text k 0) more ≡ false)
    → without_breaks (text ++ more) ≡ without_breaks text ++ without_breaks more
without_breaks-append [] more apart = refl
without_breaks-append (octet ∷ text) more apart =
    let after = without_breaks-append text more (λ k e. apart (suc k) (omega arith)) in
    elim (beginning octet text) [
      | inl lf ↦ rw (without_feed octet (text ++ more) lf, without_feed octet text lf) after
      | inr (inl b) ↦ rw (without_crlf octet (text ++ more) (record { after = b.after ++ more; cr = b.cr; lf = ap (λ x. x ++ more) b.lf }), without_crlf octet text b) after
      | inr (inr other) ↦ rw (with_content octet (text ++ more) (ends_apart octet text more apart other), with_content octet text other, after) refl
    ]

-- a text without LF
pub without_breaks_none : (text : List ℕ) → ((k : ℕ) → k < length text → get_or text k 0 ≢ 10) → without_breaks text ≡ text
without_breaks_none [] none = refl
without_breaks_none (octet ∷ text) none = rw (only_line (octet ∷ text) (omega arith) none) (append-nil (octet ∷ text))
