-- Private: which of the entries that a catalog has kept belong together.
use Rattle.std.specs.Prelude.{◌≡◌, ℕ, List, true, false, filter, filter_map, nat_lt, Option, Some, None, option_map}
use Rattle.sha2.specs.Sha256.{sha256}
use Rattle.catalog.specs.Catalog.{Filed}
use Rattle.catalog.specs.Index.{is_stored}
use Rattle.catalog.specs.Keeping.{Known, Outlined}
use Rattle.catalog.specs.Rows.{Row}
use Rattle.catalog.specs.Stored.{Numbered}
use Rattle.catalog.specs.declared.entry.PartEntry.{PartEntry}

-- an entry that is a part
abbrev pub part_beside : Row → Option Outlined → Option PartEntry
part_beside row None = Some (record { number = row.number; digest = row.digest })
part_beside row (Some outline) = None

abbrev pub part_in : Known → Option PartEntry
part_in known = part_beside known.row known.outline

abbrev pub parts_in : List Known → List PartEntry
parts_in all = filter_map part_in all

-- those above a number
abbrev pub parts_above : ℕ → List PartEntry → List PartEntry
parts_above after parts = filter (λ (part : PartEntry). nat_lt after part.number) parts

-- the entries that are messages
abbrev pub message_in : Known → Option Numbered
message_in known = option_map (λ (o : Outlined). record { number = known.row.number; digests = o.digests }) known.outline

abbrev pub messages_in : List Known → List Numbered
messages_in all = filter_map message_in all

-- a part has its digest among these entries
abbrev pub HasPart : List PartEntry → Filed → Type 0
HasPart entries filed = filed.is_message ≡ false → is_stored entries (sha256 filed.octets) ≡ true
