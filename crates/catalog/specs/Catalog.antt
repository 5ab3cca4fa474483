-- The text of a catalog: the lines of a user's entries in the order of the list, each with a line break.
use Rattle.std.specs.Prelude.{ℕ, List, [], ◌∷◌, ◌++◌, Bool, if◌then◌else◌, filter_map, flat_map, length, nat_lt, Option, Some, None}
use Rattle.sha2.specs.Sha256.{sha256}
use Rattle.mime_decode.specs.Mail.{mail_of}
use Rattle.catalog.specs.Lines.{message_line, part_line}
use Rattle.catalog.specs.Rows.{Row}
use Rattle.catalog.specs.Stored.{Numbered, digests_of, messages_with, stored_in}
use Rattle.catalog.specs.declared.entry.PartEntry.{PartEntry}

-- an entry of a user: its number; its folder, its name and its media type; whether it is a message, not a part; and the octets of
-- its content
pub record Filed : Type 0 where
  pub number : ℕ
  pub folder : List ℕ
  pub name : List ℕ
  pub media : List ℕ
  pub is_message : Bool
  pub octets : List ℕ

-- what the line of every entry has: the size is that of the content, and the digest is its SHA-256
abbrev pub row_of_filed : Filed → Row
row_of_filed filed =
    record { number = filed.number; folder = filed.folder; name = filed.name; media = filed.media; octets = length filed.octets; digest = sha256 filed.octets }

-- a part, as the messages look for it
abbrev pub part_entry : Filed → Option PartEntry
part_entry filed = if filed.is_message then None else Some (record { number = filed.number; digest = sha256 filed.octets })

-- the entries that are parts
abbrev pub parts_of : List Filed → List PartEntry
parts_of all = filter_map part_entry all

-- a message, as the parts look for it
abbrev pub numbered : Filed → Option Numbered
numbered filed = if filed.is_message then Some (record { number = filed.number; digests = digests_of (mail_of filed.octets) }) else None

-- the entries that are messages
abbrev pub messages_of : List Filed → List Numbered
messages_of all = filter_map numbered all

-- the line of an entry among all entries of its user, with its line break
abbrev pub line_among : List Filed → Filed → List ℕ
line_among all filed =
    (if filed.is_message
    then message_line (row_of_filed filed) (mail_of filed.octets) (stored_in (digests_of (mail_of filed.octets)) (parts_of all))
    else part_line (row_of_filed filed) (messages_with (sha256 filed.octets) (messages_of all)))
    ++ 10 ∷ []

-- the line of an entry above a number; nothing for another
abbrev pub piece_of : ℕ → List Filed → Filed → List ℕ
piece_of after all filed = if nat_lt after filed.number then line_among all filed else []

-- the catalog of the entries whose numbers are above a number; which entries belong together is looked for among all of them
abbrev pub catalog : ℕ → List Filed → List ℕ
catalog after all = flat_map (piece_of after all) all
