-- What is printed of a depot.
use Rattle.std.specs.Prelude.{◌≡◌, ℕ, List, [], ◌∷◌, ◌++◌, codes, map, Option, None, Some, Vec, string_bytes}
use Rattle.std.specs.List.{flat_map}
use Rattle.std.specs.Fmt.{decimal}
use Rattle.std.specs.declared.alloc.Global.{Global}
use Rattle.part_store.specs.Entries.{Listing}
use Rattle.part_store.specs.Standing.{listed}
use Rattle.part_store.specs.declared.entry.EntryRow.{EntryRow}
use Rattle.part_store.specs.declared.entry.Kind.{Kind}
use Rattle.part_store.specs.declared.entry.Kind.TheVariants.{Message, Part as Piece}
use Rattle.part_store.specs.declared.scrubbing.DamagedEntry.{DamagedEntry}
use Rattle.part_store.specs.declared.scrubbing.Scrubbed.{Scrubbed}
use Rattle.part_store.specs.declared.totals.ContentTotal.{ContentTotal}
use Rattle.depot_actions.specs.DepotState.{Command, Reply, SetScript, SetCode, Deliver, ListAll, ListSince, Catalog, Export, Remove, Migrate, Listed, Migrated}
use Rattle.depot_actions.specs.DepotState.{Text as Written}
use Rattle.depot_actions.specs.declared.overview.Overview.{Overview}
use Rattle.depot_actions.specs.declared.overview.UserOverview.{UserOverview}
use Rattle.depot_actions.specs.declared.overview.ProgramState.{ProgramState}
use Rattle.depot_actions.specs.declared.overview.ProgramState.TheVariants.{Missing, Accepted, Refused}
use Rattle.refusals.specs.Lines.{name_of, number_of}
use Rattle.printing.specs.Printed.{line, quoted}
use Rattle.depot_cli.specs.declared.entries.Detail.{Detail}
use Rattle.depot_cli.specs.declared.entries.Detail.TheVariants.{Brief, Full}
use Rattle.depot_cli.specs.declared.looks.Seen.{Seen}
use Rattle.depot_cli.specs.declared.looks.Seen.TheVariants as seen
use Rattle.depot_cli.specs.declared.no_depot.NoDepot.{NoDepot}
use Rattle.depot_cli.specs.declared.no_depot.NoDepot.TheVariants as why
use Rattle.depot_cli.specs.declared.task.Reply.{Reply as Replied}
use Rattle.depot_cli.specs.declared.task.Reply.TheVariants as replies

-- ---- what a depot replies

abbrev pub kind_text : Kind → List ℕ
kind_text Message = codes "message"
kind_text Piece = codes "part"

-- an entry: its number, its kind and its folder; in full also its name, its media type and the number of its octets
abbrev pub entry_text : Detail → Listing → List ℕ
entry_text Brief entry = decimal entry.number ++ codes " " ++ kind_text entry.kind ++ codes " " ++ quoted entry.folder
entry_text Full entry =
    decimal entry.number ++ codes " " ++ kind_text entry.kind ++ codes " " ++ quoted entry.folder ++ codes " "
    ++ quoted entry.name ++ codes " " ++ entry.media ++ codes " "
    ++ decimal entry.octets

-- a line for each entry, or one that there is none
abbrev pub entries_text : Detail → List Listing → List ℕ
entries_text detail [] = line (codes "none")
entries_text detail (entry ∷ entries) = flat_map (λ e. line (entry_text detail e)) (entry ∷ entries)

-- that a filter was stored
abbrev pub stored_text : List ℕ
stored_text = line (codes "stored")

-- that an entry was removed
abbrev pub removed_text : ℕ → List ℕ
removed_text number = line (codes "removed " ++ decimal number)

-- how many filters were given the latest version
abbrev pub migrated_text : ℕ → List ℕ
migrated_text number = line (codes "migrated " ++ decimal number)

-- what is printed of a reply; no depot gives other replies to these commands, nor are others asked for
abbrev pub reply_text : Command → Reply → List ℕ
reply_text (SetScript user script) reply = stored_text
reply_text (SetCode user program) reply = stored_text
reply_text (Deliver user message) (Listed entries) = entries_text Brief entries
reply_text (ListAll user) (Listed entries) = entries_text Full entries
reply_text (ListSince user number) (Listed entries) = entries_text Full entries
reply_text (Catalog user number) (Written text) = text
reply_text (Export user number encoding) (Written text) = text
reply_text (Remove user number) reply = removed_text number
reply_text Migrate (Migrated number) = migrated_text number
reply_text _ reply = []

-- a reply of the code tells that a command was done with this reply
abbrev pub Tells : Command → Reply → Replied → Type 0
Tells (SetScript user script) reply told = told ≡ replies.Stored
Tells (SetCode user program) reply told = told ≡ replies.Stored
Tells (Deliver user message) reply told = (rows : Vec EntryRow Global) × (told ≡ replies.Filed rows) × (reply ≡ Listed (map listed rows.items))
Tells (ListAll user) reply told = (rows : Vec EntryRow Global) × (told ≡ replies.Listed rows) × (reply ≡ Listed (map listed rows.items))
Tells (ListSince user number) reply told = (rows : Vec EntryRow Global) × (told ≡ replies.Listed rows) × (reply ≡ Listed (map listed rows.items))
Tells (Catalog user number) reply told = (text : Vec ℕ Global) × (told ≡ replies.Catalog text) × (reply ≡ Written text.items)
Tells (Remove user number) reply told = told ≡ replies.Removed number
Tells Migrate reply told = (count : ℕ) × (told ≡ replies.Migrated count) × (reply ≡ Migrated count)
Tells command reply told = ⊥

-- a reply of the code, as what is printed of it
abbrev pub text_in : Replied → List ℕ
text_in replies.Stored = stored_text
text_in (replies.Filed rows) = entries_text Brief (map listed rows.items)
text_in (replies.Listed rows) = entries_text Full (map listed rows.items)
text_in (replies.Catalog text) = text.items
text_in (replies.Removed number) = removed_text number
text_in (replies.Migrated count) = migrated_text count

-- ---- what a file is

-- why a file is no depot
abbrev pub why_text : NoDepot → List ℕ
why_text why.NoFile = codes "there is no such file"
why_text why.NoFolder = codes "there is no such folder"
why_text why.NoPath = codes "a part of the path is no folder"
why_text why.NoRights = codes "this user may not read and write it"
why_text why.Directory = codes "it is a directory"
why_text why.Special = codes "it is no regular file"
why_text why.SecondName = codes "it has a second name"
why_text why.Empty = codes "it is empty"
why_text why.Held = codes "another process holds it"
why_text why.Closed = codes "its log or its journal can't be opened"
why_text why.Damaged = codes "it is no database, or it is damaged"
why_text why.OtherTables = codes "it has other tables, or none"
why_text why.Disk = codes "the disk failed"

-- the line of that
abbrev pub no_depot_text : NoDepot → List ℕ
no_depot_text reason = line (codes "no depot: " ++ why_text reason)

-- how many octets the log beside the file had, if there was one
abbrev pub log_text : Option ℕ → List ℕ
log_text None = codes "no log"
log_text (Some octets) = codes "log " ++ decimal octets ++ codes " octets"

-- the state of a user's filter, and the end of its line
abbrev pub state_line : ProgramState → List ℕ
state_line Missing = line (codes "none")
state_line (Accepted version) = line (codes "accepted version " ++ decimal version)
state_line (Refused refusal) = line (codes "refused " ++ decimal (number_of refusal) ++ codes " " ++ name_of refusal)

-- the numbers of a user: the last one of an entry, how many entries there are, and their octets
abbrev pub numbers_text : UserOverview → List ℕ
numbers_text x =
    codes "user " ++ quoted (string_bytes x.user) ++ codes " last " ++ decimal x.last ++ codes " entries "
    ++ decimal x.entries ++ codes " octets " ++ decimal x.octets ++ codes " program "

-- the line of a user: these numbers, and the state of the filter
abbrev pub user_line : UserOverview → List ℕ
user_line x = numbers_text x ++ state_line x.program

-- how many contents there are, and their octets
abbrev pub contents_text : ContentTotal → List ℕ
contents_text total = codes "contents " ++ decimal total.contents ++ codes " octets " ++ decimal total.octets

-- a line for each user
abbrev pub users_text : List UserOverview → List ℕ
users_text users = flat_map user_line users

-- the lines of a depot: that it is one, its log, its users and its contents
abbrev pub overview_text : Option ℕ → Overview → List ℕ
overview_text log x =
    line (codes "depot") ++ line (log_text log) ++ users_text x.users.items ++ line (contents_text x.contents)

-- an entry whose content is damaged: its number, its user and its folder
abbrev pub damaged_text : DamagedEntry → List ℕ
damaged_text entry = decimal entry.number ++ codes " " ++ quoted (string_bytes entry.user) ++ codes " " ++ quoted entry.folder.items

-- the lines of a scrub: how many contents there are, their octets, how many of them are damaged, and the
-- entries that have one of these
abbrev pub scrubbed_text : Scrubbed → List ℕ
scrubbed_text x =
    line (codes "contents " ++ decimal x.contents.contents) ++ line (codes "octets " ++ decimal x.contents.octets)
    ++ line (codes "damaged " ++ decimal x.damaged) ++ flat_map (λ e. line (damaged_text e)) x.entries.items

-- the lines of what a look saw
abbrev pub seen_text : Seen → List ℕ
seen_text (seen.Overview log x) = overview_text log x
seen_text (seen.Scrubbed x) = scrubbed_text x
