-- Fields with what is kept of their types.
use Rattle.std.proofs.Common.{◌≡◌, ℕ, List, subst, refl, length, ◌<◌}
use Rattle.std.specs.Prelude.{slice_index_or}
use Rattle.std.proofs.lemmas.Option.{slice_get_read}
use Rattle.header_fields.specs.Fields.{Field}
use Rattle.mime_tree.specs.TypeTexts.{AreTypeTexts, IsOfField}
use Rattle.mime_tree.specs.declared.type_texts.TypeText.{TypeText}
use Rattle.mail_matching.specs.Readings.{AreOfField}

-- those that are kept for a place are of its field
pub of_place : (fields : List Field) (texts : List TypeText) (place : ℕ) (field : Field) → place < length fields → field ≡ slice_index_or fields place field
    → AreTypeTexts fields texts → AreOfField field place texts
of_place fields texts place field lt at typed = λ text kept.
    let here = typed kept.0 (record { place = place; text = text }) kept.1 in
    subst (λ (t : TypeText). IsOfField fields t) kept.2 here field (slice_get_read fields (length fields) place field refl lt at)
