-- Short texts with the types of long fields.
use Rattle.std.specs.Prelude.{◌≡◌, ℕ, true, List, All, Some, slice_get, codes}
use Rattle.header_fields.specs.Fields.{Field}
use Rattle.mime_params.specs.MediaValue.{disposition_name, type_names}
use Rattle.octets.specs.Ascii.{is_word}
use Rattle.mime_tree.specs.declared.type_texts.TypeText.{TypeText}

-- a text has the type, or the disposition, of the field's value, if the field is one of the two that have one; else it doesn't
-- matter
pub record IsTypeText (field : Field) (text : List ℕ) : Type 0 where
  pub media : is_word field.name (codes "Content-Type") ≡ true → type_names text ≡ type_names field.value
  pub disposition : is_word field.name (codes "Content-Disposition") ≡ true
      → disposition_name text ≡ disposition_name field.value

-- a text is kept for the field at its place, and has its type
abbrev pub IsOfField : List Field → TypeText → Type 0
IsOfField fields kept = (field : Field) → slice_get fields kept.place ≡ Some field → IsTypeText field kept.text

-- each of these texts has the type of the field that it is kept for
abbrev pub AreTypeTexts : List Field → List TypeText → Type 0
AreTypeTexts fields texts = All (IsOfField fields) texts
