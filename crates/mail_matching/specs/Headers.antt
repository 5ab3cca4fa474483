-- Private: the headers of the parts in scope.
use Rattle.std.specs.Prelude.{◌≡◌, ℕ, ◌≤◌, ◌&&◌, Bool, is_none, All, List, length, map, flat_map, take, drop}
use Rattle.std.specs.List.{list_any}
use Rattle.header_fields.specs.Fields.{Field}
use Rattle.octets.specs.Ascii.{is_word}
use Rattle.mime_decode.specs.Mail.{Mail, Part}
use Rattle.mime_params.specs.MediaValue.{value_named}
use Rattle.mime_params.specs.declared.params.Parameter.{Parameter}
use Rattle.bytecode_format.specs.declared.selection.Selector.{Selector}
use Rattle.mail_matching.specs.Selection.{fields_named, given, selected_of}

-- the fields of each of so many parts, from one on
abbrev pub headers_from : ℕ → ℕ → Mail → List (List Field)
headers_from first number mail = map (λ (part : Part). part.fields) (take number (drop first mail.parts))

-- all fields of some headers
abbrev pub all_fields : List (List Field) → List Field
all_fields headers = flat_map (λ fields. fields) headers

-- what is selected of the fields of a name
abbrev pub selected_named : Selector → List (List ℕ) → List Field → List ℕ → List (List ℕ)
selected_named selector params fields name = flat_map (selected_of selector params) (fields_named name fields)

-- what is selected in a header, name by name
abbrev pub selected_among : Selector → List (List ℕ) → List (List ℕ) → List Field → List (List ℕ)
selected_among selector params names fields = flat_map (selected_named selector params fields) names

-- what is selected in some headers, one by one
abbrev pub selected_in_all : Selector → List (List ℕ) → List (List ℕ) → List (List Field) → List (List ℕ)
selected_in_all selector params names headers = flat_map (selected_among selector params names) headers

-- the values of the parameters of these names
abbrev pub values_of_params : List Parameter → List (List ℕ) → List (List ℕ)
values_of_params params names = flat_map (λ name. given (value_named name params)) names

-- no parameter's value is longer than this
abbrev pub AreWithin : ℕ → List Parameter → Type 0
AreWithin limit params = All (λ (p : Parameter). length p.value ≤ limit) params

-- ---- the parameters that are asked for

-- one of the names is this, but for ASCII case
abbrev pub is_asked : List (List ℕ) → List ℕ → Bool
is_asked names name = list_any (λ asked. is_word asked name) names

-- a parameter of this name is asked for, and none was found
abbrev pub is_wanted : List (List ℕ) → List Parameter → List ℕ → Bool
is_wanted names found name = is_asked names name && is_none (value_named name found)

-- of each of the names the first of these parameters is the first of those that were found
abbrev pub HaveFirsts : List (List ℕ) → List Parameter → List Parameter → Type 0
HaveFirsts names params found = All (λ name. value_named name found ≡ value_named name params) names
