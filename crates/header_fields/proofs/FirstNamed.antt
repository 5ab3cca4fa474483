-- The first field of a name.
use Rattle.std.proofs.Common.{◌≡◌, ℕ, ◌+◌, ◌<◌, List, ◌∷◌, Some, refl, sym, ◌∙◌, ap, length, drop, get_or, inl, inr}
use Rattle.std.proofs.lemmas.Bool.{cases_Bool}
use Rattle.std.proofs.lemmas.List.{drop_more}
use Rattle.std.proofs.lemmas.Slice.Eq.{bytes_eq-Decides}
use Rattle.octets.specs.Ascii.{lowercase_of, is_word}
use Rattle.header_fields.specs.Fields.{Field, first_value}

pub first_here : (name : List ℕ) (fields : List Field) (i : ℕ) (field : Field) → i < length fields → field ≡ get_or fields i field → lowercase_of field.name ≡ lowercase_of name
    → first_value name (drop i fields) ≡ Some field.value
first_here name fields i field lt here same =
    let is = (bytes_eq-Decides (lowercase_of field.name) (lowercase_of name)).1 same in
    ap (first_value name) (drop_more fields i field lt ∙ ap (λ (f : Field). f ∷ drop (i + 1) fields) (sym here)) ∙ (rw is refl)

pub first_later : (name : List ℕ) (fields : List Field) (i : ℕ) (field : Field) → i < length fields → field ≡ get_or fields i field → (lowercase_of field.name ≡ lowercase_of name → ⊥)
    → first_value name (drop i fields) ≡ first_value name (drop (i + 1) fields)
first_later name fields i field lt here other = elim (cases_Bool (is_word field.name name)) [
  | inl same ↦ absurd (other ((bytes_eq-Decides (lowercase_of field.name) (lowercase_of name)).0 same))
  | inr differs ↦ ap (first_value name) (drop_more fields i field lt ∙ ap (λ (f : Field). f ∷ drop (i + 1) fields) (sym here)) ∙ (rw differs refl)
]
