-- What lines are answered with, and its text: as lines, or as an object in JSON (RFC 8259) without blanks between its tokens,
-- whose members are in the order of their names.
use Rattle.std.specs.Prelude.{ℕ, ◌-◌, ◌==◌, List, [], ◌++◌, codes, if◌then◌else◌, length, map, None, Option, Some, take, true}
use Rattle.std.specs.Fmt.{decimal}
use Rattle.serde_json.specs.Data.{Data, boolean, number as number_of_value, unsigned, string, array, object, Members, member, no_members, put}
use Rattle.serde_json.specs.View.{items_of}
use Rattle.serde_json.specs.Written.{compact_text}
use Rattle.catalog.specs.Texts.{text_value}
use Rattle.part_store.specs.Entries.{Listing}
use Rattle.depot_actions.specs.DepotState.{Catalog, Command, Reply as DepotReply, Deliver, ListAll, ListSince, Listed, Migrate, Migrated, Remove, Text}
use Rattle.refusals.specs.Lines.{name_of, number_of, place_of}
use Rattle.refusals.specs.declared.refusal.Refusal.{Refusal}
use Rattle.printing.specs.Printed.{line, refusal_line}
use Rattle.depot_cli.specs.Printed.{entries_text, kind_text, reply_text}
use Rattle.depot_cli.specs.declared.entries.Detail.TheVariants.{Brief}
use Rattle.depot_batch.specs.Asked.{sentence_of, wrong_line}
use Rattle.depot_batch.specs.declared.asked.LineFault.{LineFault}
use Rattle.depot_batch.specs.declared.format.Format.{Format}
use Rattle.depot_batch.specs.declared.format.Format.TheVariants.{Json, Plain}
use Rattle.depot_batch.specs.declared.outcome.Outcome.{Outcome}
use Rattle.depot_batch.specs.declared.outcome.Outcome.TheVariants.{Done, Refused, Wrong}

-- What a line is answered with: what the depot replied to a command; the number of an entry that was exported; a
-- refusal; or why the line is no command.
pub data Said : Type 0 where
  OfReply : Command → DepotReply → Said
  OfExport : ℕ → Said
  OfRefusal : Refusal → Said
  OfFault : LineFault → Said

-- the outcome of its line
abbrev pub outcome_in : Said → Outcome
outcome_in (OfReply command reply) = Done
outcome_in (OfExport number) = Done
outcome_in (OfRefusal refusal) = Refused refusal
outcome_in (OfFault fault) = Wrong

-- ---- as lines

-- the line that ends an answer
abbrev pub closing : Outcome → List ℕ
closing Done = line (codes "= 0")
closing (Refused refusal) = line (codes "= 1")
closing Wrong = line (codes "= 2")

-- that an entry was exported
abbrev pub exported_text : ℕ → List ℕ
exported_text number = line (codes "exported " ++ decimal number)

-- the lines of an answer before that
abbrev pub lines_in : Said → List ℕ
lines_in (OfReply command reply) = reply_text command reply
lines_in (OfExport number) = exported_text number
lines_in (OfRefusal refusal) = refusal_line refusal
lines_in (OfFault fault) = wrong_line fault

-- ---- as an object

-- the number of the status
abbrev pub status_of : Outcome → ℕ
status_of Done = 0
status_of (Refused refusal) = 1
status_of Wrong = 2

abbrev pub number_value : ℕ → Data
number_value number = number_of_value (unsigned number)

-- an entry, as `list` tells it
abbrev pub entry_value : Listing → Data
entry_value entry =
    object (
    member (codes "folder") (text_value entry.folder) (
    member (codes "kind") (string (kind_text entry.kind)) (
    member (codes "media") (text_value entry.media) (
    member (codes "name") (text_value entry.name) (
    member (codes "number") (number_value entry.number) (
    member (codes "octets") (number_value entry.octets) no_members))))))

-- entries, in their order
abbrev pub entries_members : List Listing → Members
entries_members entries = member (codes "entries") (array (items_of (map entry_value entries))) no_members

-- what a reply has beside the status that lists entries, or counts filters; no depot gives other replies where these are
-- asked for
abbrev pub listed_members : DepotReply → Members
listed_members (Listed entries) = entries_members entries
listed_members reply = no_members

abbrev pub migrated_members : DepotReply → Members
migrated_members (Migrated count) = member (codes "migrated") (number_value count) no_members
migrated_members reply = no_members

-- what the reply to a command has
abbrev pub reply_members : Command → DepotReply → Members
reply_members (Deliver user message) reply = listed_members reply
reply_members (ListAll user) reply = listed_members reply
reply_members (ListSince user number) reply = listed_members reply
reply_members (Remove user number) reply = member (codes "removed") (number_value number) no_members
reply_members Migrate reply = migrated_members reply
reply_members command reply = no_members

abbrev pub exported_members : ℕ → Members
exported_members number = member (codes "exported") (number_value number) no_members

-- the members, with the place of a refusal, if it has one
abbrev pub with_place : Option ℕ → Members → Members
with_place None members = members
with_place (Some place) members = put (codes "place") (number_value place) members

abbrev pub refusal_members : Refusal → Members
refusal_members refusal =
    with_place (place_of refusal)
    (member (codes "name") (string (name_of refusal)) (member (codes "refused") (number_value (number_of refusal)) no_members))

abbrev pub fault_members : LineFault → Members
fault_members fault = member (codes "wrong") (string (sentence_of fault)) no_members

-- the lines of a catalog; no depot gives other replies where one is asked for
abbrev pub catalog_lines : DepotReply → List ℕ
catalog_lines (Text lines) = lines
catalog_lines reply = []

-- What an answer tells beside the status: members of its object, or the lines of a catalog, each of which is an object.
pub data Told : Type 0 where
  OfMembers : Members → Told
  OfLines : List ℕ → Told

abbrev pub reply_told : Command → DepotReply → Told
reply_told (Catalog user number) reply = OfLines (catalog_lines reply)
reply_told command reply = OfMembers (reply_members command reply)

abbrev pub told_in : Said → Told
told_in (OfReply command reply) = reply_told command reply
told_in (OfExport number) = OfMembers (exported_members number)
told_in (OfRefusal refusal) = OfMembers (refusal_members refusal)
told_in (OfFault fault) = OfMembers (fault_members fault)

-- an answer with these members
abbrev pub with_status : Outcome → Members → Data
with_status outcome members = object (put (codes "status") (number_value (status_of outcome)) members)

-- What stands for an answer if memory is refused for it. The command was done before its answer is made, so no answer can
-- say that it was refused for lack of memory: the status is that of the line, and a member says that the others are missing.
abbrev pub short_value : Outcome → Data
short_value outcome =
    object (member (codes "incomplete") (boolean true) (member (codes "status") (number_value (status_of outcome)) no_members))

-- a value on a line
abbrev pub value_line : Data → List ℕ
value_line value = line (compact_text value)

-- lines as the items of a list: with a comma (44) instead of each line break (10) but the last, which is left out
abbrev pub comma_for : ℕ → ℕ
comma_for octet = if octet == 10 then 44 else octet

abbrev pub as_items : List ℕ → List ℕ
as_items lines = map comma_for (take (length lines - 1) lines)

-- a catalog on a line
abbrev pub catalog_line : List ℕ → List ℕ
catalog_line lines = line (codes "{\"catalog\":[" ++ as_items lines ++ codes "],\"status\":0}")

-- what an answer tells, on a line
abbrev pub told_line : Outcome → Told → List ℕ
told_line outcome (OfMembers members) = value_line (with_status outcome members)
told_line outcome (OfLines lines) = catalog_line lines

-- ---- in a format

-- An answer is written as lines; as an object with all of its members; or, if memory is refused for that, as one
-- without most.
pub data Wording : Type 0 where
  InLines : Wording
  InFull : Wording
  InShort : Wording

-- a batch of this format has answers like that
abbrev pub Suits : Format → Wording → Type 0
Suits Plain InLines = Unit {0}
Suits Json InFull = Unit {0}
Suits Json InShort = Unit {0}
Suits format wording = ⊥

-- an answer
abbrev pub answer_in : Wording → Said → List ℕ
answer_in InLines said = lines_in said ++ closing (outcome_in said)
answer_in InFull said = told_line (outcome_in said) (told_in said)
answer_in InShort said = value_line (short_value (outcome_in said))

-- the answer to a delivery that filed these entries
abbrev pub filed_in : Wording → List Listing → List ℕ
filed_in InLines entries = entries_text Brief entries ++ closing Done
filed_in InFull entries = value_line (with_status Done (entries_members entries))
filed_in InShort entries = value_line (short_value Done)
