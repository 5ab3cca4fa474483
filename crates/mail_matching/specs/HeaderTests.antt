-- The fields that the tests `header` and `exists` look at (RFC 5228, sections 5.5 and 5.7; RFC 5703, section 4).
use Rattle.std.specs.Prelude.{ℕ, Bool, List, flat_map, Option, ◌≡◌, false, true, All, map}
use Rattle.std.specs.List.{list_all, list_any}
use Rattle.header_fields.specs.Fields.{Field}
use Rattle.octets.specs.Ascii.{is_word}
use Rattle.mime_decode.specs.Mail.{Mail, Part}
use Rattle.bytecode_format.specs.declared.selection.Scope.{Scope}
use Rattle.mail_matching.specs.Selection.{parts_in_scope}

-- the fields of the parts in scope
abbrev pub fields_in_scope : Scope → Option ℕ → Mail → List Field
fields_in_scope scope current mail = flat_map (λ (part : Part). part.fields) (parts_in_scope scope current mail)

-- whether a field has the name, but for ASCII case
abbrev pub has_field : List Field → List ℕ → Bool
has_field fields name = list_any (λ field. is_word field.name name) fields

-- `exists`: whether each name is that of a field in scope; they may be fields of different parts
abbrev pub exists_in : Scope → Option ℕ → List (List ℕ) → Mail → Bool
exists_in scope current names mail = list_all (has_field (fields_in_scope scope current mail)) names

-- the fields of each part in scope
abbrev pub headers_in_scope : Scope → Option ℕ → Mail → List (List Field)
headers_in_scope scope current mail = map (λ (part : Part). part.fields) (parts_in_scope scope current mail)

-- a field isn't folded, if it has the name
abbrev pub IsUnfolded : List ℕ → Field → Type 0
IsUnfolded name field = is_word field.name name ≡ true → field.folded ≡ false

-- no field of one of the names is folded
abbrev pub AreUnfolded : List (List ℕ) → List Field → Type 0
AreUnfolded names fields = All (λ name. All (IsUnfolded name) fields) names
