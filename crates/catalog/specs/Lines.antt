-- The line of an entry: a JSON object without blanks between its tokens. Its members are in the order of their names.
use Rattle.std.specs.Prelude.{ℕ, List, codes, length, map}
use Rattle.hex.specs.Hex.{encode_lower}
use Rattle.mime_decode.specs.Mail.{Mail}
use Rattle.serde_json.specs.Data.{Data, number, unsigned, string, array, object, Members, member, no_members, put}
use Rattle.serde_json.specs.View.{items_of}
use Rattle.serde_json.specs.Written.{compact_text}
use Rattle.catalog.specs.Rows.{Row}
use Rattle.catalog.specs.Texts.{text_value}
use Rattle.catalog.specs.Fields.{fields_value, own_fields}
use Rattle.catalog.specs.declared.entry.Place.{Place}

-- an entry and a part
abbrev pub place_value : Place → Data
place_value place = object (member (codes "number") (number (unsigned place.number)) (member (codes "part") (number (unsigned place.part)) no_members))

abbrev pub places_value : List Place → Data
places_value places = array (items_of (map place_value places))

-- what the line of every entry says; the digest is in hexadecimal digits in lower case
abbrev pub common_members : Row → List ℕ → Members
common_members row kind =
    member (codes "folder") (text_value row.folder) (
    member (codes "kind") (string kind) (
    member (codes "media") (text_value row.media) (
    member (codes "name") (text_value row.name) (
    member (codes "number") (number (unsigned row.number)) (
    member (codes "octets") (number (unsigned row.octets)) (
    member (codes "sha256") (string (encode_lower row.digest)) no_members))))))

-- that of a message also says how many parts it has, where they are stored, and its fields
abbrev pub message_object : Row → ℕ → Data → List Place → Data
message_object row parts fields stored =
    object (
    put (codes "parts") (number (unsigned parts)) (
    put (codes "stored") (places_value stored) (
    put (codes "fields") fields (common_members row (codes "message")))))

-- the fields are the first of their names
abbrev pub message_value : Row → Mail → List Place → Data
message_value row mail stored = message_object row (length mail.parts) (fields_value (own_fields mail.parts)) stored

-- that of a part also says which messages have a part with its content
abbrev pub part_value : Row → List Place → Data
part_value row messages = object (put (codes "of") (places_value messages) (common_members row (codes "part")))

-- the text of these objects (RFC 8259)
abbrev pub message_line : Row → Mail → List Place → List ℕ
message_line row mail stored = compact_text (message_value row mail stored)

abbrev pub part_line : Row → List Place → List ℕ
part_line row messages = compact_text (part_value row messages)
