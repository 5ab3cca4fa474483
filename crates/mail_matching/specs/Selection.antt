-- The parts that a test looks at, and the values that it selects in their headers (RFC 5228, section 5.7; RFC 5703, section 4).
use Rattle.std.specs.Prelude.{ℕ, List, [], ◌∷◌, ◌++◌, take, drop, flat_map, filter, Option, None, Some, codes, if◌then◌else◌}
use Rattle.bytecode_format.specs.declared.selection.Scope.{Scope}
use Rattle.bytecode_format.specs.declared.selection.Scope.TheVariants as scopes
use Rattle.bytecode_format.specs.declared.selection.Selector.{Selector}
use Rattle.bytecode_format.specs.declared.selection.Selector.TheVariants.{Value, Main, Sub, ContentType, Param}
use Rattle.header_fields.specs.Fields.{Field}
use Rattle.mime_params.specs.MediaValue.{disposition_of, media_type_of, parameters_of, value_named}
use Rattle.mime_params.specs.declared.media.MediaType.{MediaType}
use Rattle.mime_params.specs.declared.media.Disposition.{Disposition}
use Rattle.mime_params.specs.declared.params.Parameter.{Parameter}
use Rattle.octets.specs.Ascii.{is_word}
use Rattle.mime_decode.specs.Mail.{Mail, Part}

-- ---- the parts in scope

-- the current part's place in the message, or the root's where no loop is open
abbrev pub current_or_root : Option ℕ → ℕ
current_or_root None = 0
current_or_root (Some place) = place

-- the first of these parts, with those below it
abbrev pub first_and_below : List Part → List Part
first_and_below [] = []
first_and_below (part ∷ parts) = part ∷ take part.below parts

-- the parts in scope, in preorder: the message itself, which is its first part; the current part; that one and all below it
abbrev pub parts_in_scope : Scope → Option ℕ → Mail → List Part
parts_in_scope scopes.Message current mail = take 1 mail.parts
parts_in_scope scopes.Part current mail = take 1 (drop (current_or_root current) mail.parts)
parts_in_scope scopes.PartAndBelow current mail = first_and_below (drop (current_or_root current) mail.parts)

-- ---- what a field's value is read as

-- a media type, in Content-Type; a disposition, in Content-Disposition; neither, where the value of one of these two has no
-- reading; in any other field parameters alone
pub data Reading : Type 0 where
  Media : MediaType → Reading
  Disposed : Disposition → Reading
  Unreadable : Reading
  Others : List Parameter → Reading

abbrev pub as_media : Option MediaType → Reading
as_media None = Unreadable
as_media (Some media) = Media media

abbrev pub as_disposition : Option Disposition → Reading
as_disposition None = Unreadable
as_disposition (Some disposition) = Disposed disposition

abbrev pub reading_of : Field → Reading
reading_of field =
    if is_word field.name (codes "Content-Type") then as_media (media_type_of field.value)
    else if is_word field.name (codes "Content-Disposition") then as_disposition (disposition_of field.value)
    else Others (parameters_of field.value)

-- the type, or the disposition
abbrev pub main_of : Reading → List ℕ
main_of (Media media) = media.main
main_of (Disposed disposition) = disposition.main
main_of Unreadable = []
main_of (Others params) = []

-- the subtype
abbrev pub sub_of : Reading → List ℕ
sub_of (Media media) = media.sub
sub_of (Disposed disposition) = []
sub_of Unreadable = []
sub_of (Others params) = []

-- the type, `/` and the subtype; or the disposition
abbrev pub content_type_of : Reading → List ℕ
content_type_of (Media media) = media.main ++ codes "/" ++ media.sub
content_type_of (Disposed disposition) = disposition.main
content_type_of Unreadable = []
content_type_of (Others params) = []

-- the parameters
abbrev pub params_of : Reading → List Parameter
params_of (Media media) = media.params
params_of (Disposed disposition) = disposition.params
params_of Unreadable = []
params_of (Others params) = params

-- ---- the values selected

-- the value of a parameter, if there is one
abbrev pub given : Option (List ℕ) → List (List ℕ)
given None = []
given (Some value) = value ∷ []

-- what is selected of a field: its value; its type, subtype or both; the values of the parameters that have these names
abbrev pub selected_of : Selector → List (List ℕ) → Field → List (List ℕ)
selected_of Value params field = field.value ∷ []
selected_of Main params field = main_of (reading_of field) ∷ []
selected_of Sub params field = sub_of (reading_of field) ∷ []
selected_of ContentType params field = content_type_of (reading_of field) ∷ []
selected_of Param params field = flat_map (λ name. given (value_named name (params_of (reading_of field)))) params

-- the fields of a name, in order
abbrev pub fields_named : List ℕ → List Field → List Field
fields_named name fields = filter (λ field. is_word field.name name) fields

-- the values that a test selects in a part: for each name, and each field of that name, what is selected of it
abbrev pub selected_in : Selector → List (List ℕ) → List (List ℕ) → Part → List (List ℕ)
selected_in selector params names part =
    flat_map (λ name. flat_map (selected_of selector params) (fields_named name part.fields)) names

-- the values that a test selects, part by part
abbrev pub selected_values : Scope → Option ℕ → Selector → List (List ℕ) → List (List ℕ) → Mail → List (List ℕ)
selected_values scope current selector params names mail =
    flat_map (selected_in selector params names) (parts_in_scope scope current mail)
