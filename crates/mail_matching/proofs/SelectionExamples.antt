-- The parts in scope of a small mail, and what is selected in them, by computation.
use Rattle.std.proofs.Common.{◌≡◌, ℕ, List, [], ◌∷◌, Option, None, Some, false, refl, codes, map}
use Rattle.bytecode_format.specs.declared.selection.Scope.{Scope}
use Rattle.bytecode_format.specs.declared.selection.Scope.TheVariants as scopes
use Rattle.bytecode_format.specs.declared.selection.Selector.{Selector}
use Rattle.bytecode_format.specs.declared.selection.Selector.TheVariants.{Value, Main, Sub, ContentType, Param}
use Rattle.header_fields.specs.Fields.{Field}
use Rattle.mime_params.specs.MediaValue.{disposition_of, media_type_of, param_at}
use Rattle.mime_params.specs.declared.encoding.TransferEncoding.TheVariants.{SevenBit}
use Rattle.mime_tree.specs.PartTree.{text_plain}
use Rattle.mime_decode.specs.Mail.{Mail, Part}
use Rattle.mail_matching.specs.Selection.{parts_in_scope, selected_values}

-- ---- a mail of four parts: the root, one part with another below it, and one more

abbrev field : List ℕ → List ℕ → Field
field name value = record { name = name; value = value; folded = false }

abbrev part : ℕ → ℕ → List Field → Part
part depth below fields =
    record { depth = depth; below = below; fields = fields; media = text_plain; encoding = SevenBit; raw = []; body = []; content = [] }

abbrev mail : Mail
mail =
    record {
      octets = [];
      parts =
          part 1 3 (field (codes "Subject") (codes "root") ∷ field (codes "X") (codes "v; A=1;b=2") ∷ [])
          ∷ part 2 1 (field (codes "Subject") (codes "one") ∷ field (codes "X") (codes "first") ∷ field (codes "subject") (codes "two") ∷ [])
          ∷ part 3 0 (field (codes "SUBJECT") (codes "below") ∷ field (codes "Content-Type") (codes "Text/HTML; Charset=utf-8") ∷ [])
          ∷ part 2 0 (field (codes "Content-Type") (codes "text") ∷ field (codes "Content-Disposition") (codes "attachment; filename=x; size=3") ∷ field (codes "Content-Type") (codes "image/png") ∷ [])
          ∷ [];
    }

abbrev depths : Scope → Option ℕ → List ℕ
depths scope current = map (λ (p : Part). p.depth) (parts_in_scope scope current mail)

abbrev subjects : Scope → Option ℕ → List (List ℕ)
subjects scope current = selected_values scope current Value [] (codes "Subject" ∷ []) mail

abbrev selected : Selector → List (List ℕ) → List (List ℕ) → List (List ℕ)
selected selector params names = selected_values scopes.PartAndBelow None selector params names mail

-- ---- the parts in scope

the_root : depths scopes.Message (Some 2) ≡ 1 ∷ []
the_root = refl

the_root_outside_loops : depths scopes.Part None ≡ 1 ∷ []
the_root_outside_loops = refl

the_current_part : depths scopes.Part (Some 2) ≡ 3 ∷ []
the_current_part = refl

all_parts : depths scopes.PartAndBelow None ≡ 1 ∷ 2 ∷ 3 ∷ 2 ∷ []
all_parts = refl

the_current_part_and_below : depths scopes.PartAndBelow (Some 1) ≡ 2 ∷ 3 ∷ []
the_current_part_and_below = refl

a_leaf_and_below : depths scopes.PartAndBelow (Some 2) ≡ 3 ∷ []
a_leaf_and_below = refl

-- ---- values: names compare without case; each name's fields in order, one name after the other

values_of_a_part : subjects scopes.Part (Some 1) ≡ codes "one" ∷ codes "two" ∷ []
values_of_a_part = refl

values_below : subjects scopes.PartAndBelow (Some 1) ≡ codes "one" ∷ codes "two" ∷ codes "below" ∷ []
values_below = refl

values_of_names : selected_values scopes.Part (Some 1) Value [] (codes "x" ∷ codes "none" ∷ codes "Subject" ∷ []) mail ≡ codes "first" ∷ codes "one" ∷ codes "two" ∷ []
values_of_names = refl

-- ---- types: as written; of what has no reading, and of other fields, blank

types : selected Main [] (codes "content-type" ∷ codes "X" ∷ codes "content-disposition" ∷ [])
    ≡ [] ∷ [] ∷ codes "Text" ∷ [] ∷ codes "image" ∷ codes "attachment" ∷ []
unfolding media_type_of disposition_of param_at
types = refl

subtypes : selected Sub [] (codes "content-type" ∷ codes "content-disposition" ∷ []) ≡ codes "HTML" ∷ [] ∷ codes "png" ∷ [] ∷ []
unfolding media_type_of disposition_of param_at
subtypes = refl

content_types : selected ContentType [] (codes "content-type" ∷ codes "Subject" ∷ codes "content-disposition" ∷ [])
    ≡ [] ∷ [] ∷ [] ∷ codes "Text/HTML" ∷ [] ∷ [] ∷ codes "image/png" ∷ codes "attachment" ∷ []
unfolding media_type_of disposition_of param_at
content_types = refl

-- ---- parameters: in the order in which they are asked for; an absent one selects nothing

in_other_fields : selected Param (codes "B" ∷ codes "c" ∷ codes "a" ∷ []) (codes "X" ∷ codes "Subject" ∷ []) ≡ codes "2" ∷ codes "1" ∷ []
unfolding param_at
in_other_fields = refl

in_a_media_type : selected Param (codes "charset" ∷ []) (codes "content-type" ∷ []) ≡ codes "utf-8" ∷ []
unfolding media_type_of disposition_of param_at
in_a_media_type = refl

in_a_disposition : selected Param (codes "size" ∷ codes "FileName" ∷ []) (codes "content-disposition" ∷ []) ≡ codes "3" ∷ codes "x" ∷ []
unfolding media_type_of disposition_of param_at
in_a_disposition = refl
