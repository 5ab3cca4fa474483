-- Private: the texts that a field's type is read in.
use Rattle.std.specs.Prelude.{ℕ, List}
use Rattle.std.specs.List.{Contains}
use Rattle.header_fields.specs.Fields.{Field}
use Rattle.mime_tree.specs.TypeTexts.{IsTypeText}
use Rattle.mime_tree.specs.declared.type_texts.TypeText.{TypeText}

-- the texts that are kept for this place have the field's type
abbrev pub AreOfField : Field → ℕ → List TypeText → Type 0
AreOfField field place texts = (text : List ℕ) → Contains texts (record { place = place; text = text }) → IsTypeText field text
