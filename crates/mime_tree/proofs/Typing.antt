-- Texts that are kept with the types of long fields.
use Rattle.std.proofs.Common.{◌≡◌, ℕ, zero, suc, List, [], ◌∷◌, ◌++◌, subst, sym, arith, ◌∙◌}
use Rattle.std.specs.Prelude.{IfSome, slice_index_or, Option, Some}
use Rattle.std.proofs.lemmas.List.Elements.{All-append}
use Rattle.std.proofs.lemmas.Option.{get_or_from_slice_get}
use Rattle.header_fields.specs.Fields.{Field}
use Rattle.mime_tree.specs.TypeTexts.{AreTypeTexts, IsOfField, IsTypeText}
use Rattle.mime_tree.specs.declared.type_texts.TypeText.{TypeText}

-- the text of the field at a place
is_of : (fields : List Field) (kept : TypeText) (field : Field) → field ≡ slice_index_or fields kept.place field → IsTypeText field kept.text → IsOfField fields kept
is_of fields kept field at is = λ other here. subst (λ f. IsTypeText f kept.text) (at ∙ get_or_from_slice_get fields kept.place other field here) is

alone : (fields : List Field) (kept : TypeText) → IsOfField fields kept → AreTypeTexts fields (kept ∷ [])
alone fields kept is zero d lt = is
alone fields kept is (suc k) d lt = absurd (omega arith)

-- one more is kept, of the field at a place
pub kept_more : (fields : List Field) (texts now : List TypeText) (kept : TypeText) (field : Field) (found : Option (List ℕ)) → AreTypeTexts fields texts
    → now ≡ texts ++ kept ∷ [] → field ≡ slice_index_or fields kept.place field → found ≡ Some kept.text → IfSome found (λ text. IsTypeText field text) → AreTypeTexts fields now
kept_more fields texts now kept field found before is at some typed =
    subst (λ t. AreTypeTexts fields t) (sym is)
    (All-append (IsOfField fields) texts (kept ∷ []) before (alone fields kept (is_of fields kept field at (subst (λ o. IfSome o (λ text. IsTypeText field text)) some typed))))
