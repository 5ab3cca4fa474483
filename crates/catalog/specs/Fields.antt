-- The header fields of a message that its line has (RFC 5322, section 3.6).
use Rattle.std.specs.Prelude.{ℕ, List, [], ◌∷◌, codes, fold}
use Rattle.std.specs.Option.{option_map_or}
use Rattle.header_fields.specs.Fields.{Field, first_value}
use Rattle.mime_decode.specs.Mail.{Part}
use Rattle.serde_json.specs.Data.{Data, object, Members, no_members, put}
use Rattle.catalog.specs.Texts.{text_value}

-- the names of these fields
abbrev pub field_names : List (List ℕ)
field_names =
    codes "From" ∷ codes "To" ∷ codes "Cc" ∷ codes "Subject" ∷ codes "Date" ∷ codes "Message-ID" ∷ codes "In-Reply-To" ∷ codes "References" ∷ []

-- the members, with the unfolded value of the first field of this name, if there is one
abbrev pub with_field : List Field → Members → List ℕ → Members
with_field fields members name = option_map_or (λ value. put name (text_value value) members) (first_value name fields) members

-- an object with a member for each of these names that the fields have
abbrev pub fields_value : List Field → Data
fields_value fields = object (fold (with_field fields) no_members field_names)

-- the fields of a message's own header, which is that of its first part
abbrev pub own_fields : List Part → List Field
own_fields [] = []
own_fields (part ∷ parts) = part.fields
