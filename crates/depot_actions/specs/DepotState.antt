-- The commands of a depot: what each replies, and what it leaves. What a depot holds is the
-- `Entries` of its store: the entries, and of each user the program, if he has one, and the last
-- number that was given.
use Rattle.std.specs.Prelude.{◌≡◌, ◌⊎◌, ◌==◌, ℕ, ◌+◌, Bool, true, false, not, IfSome, IsTrue, List, [], ◌∷◌, filter, length, map, Option, None, Some}
use Rattle.std.specs.List.{AllZip}
use Rattle.sqlite.specs.State.{State}
use Rattle.sqlite_trees.specs.Tree.{Trees}
use Rattle.bytecode_format.specs.Code.{Code, latest_version}
use Rattle.bytecode_format.specs.Spelling.{spelling}
use Rattle.bytecode_format.specs.declared.action.Action.{Action}
use Rattle.bytecode_format.specs.declared.action.Action.TheVariants.{Keep}
use Rattle.mime_decode.specs.Mail.{Mail, IsReadable, mail_of}
use Rattle.sieve_vm.specs.Ending.{IsOutcome}
use Rattle.sieve_engine.specs.Execution.{IsChecked}
use Rattle.sieve_engine.specs.Evaluation.{IsCompiled}
use Rattle.part_store.specs.Entries.{AreProgramsOf, Draft, Entries, Entry, Listing, UserProgram, entries_of, entries_since, listing_of, numbered, with_entries, with_program, without_entry}
use Rattle.part_store.specs.Filing.{HasRoom}
use Rattle.part_store.specs.Standing.{DiskFailed, IsEntryAt, IsStored, Stands}
use Rattle.part_store.specs.declared.entry.Kind.{Kind}
use Rattle.part_store.specs.declared.entry.Kind.TheVariants.{Message, Part}
use Rattle.catalog.specs.Catalog.{Filed, catalog}
use Rattle.depot_actions.specs.Drafts.{drafts_of}
use Rattle.encodings.specs.Texts.{text_of}
use Rattle.depot_actions.specs.Users.{is_user_name}
use Rattle.encodings.specs.declared.encoding.Encoding.{Encoding}

-- What a depot is asked for, by a user: to store the code of a script, or a program; to file a
-- message; for the list of his entries, or of those with numbers above a given one; for the catalog
-- of his entries with numbers above a given one; for his program;
-- for the text of an entry's octets in an encoding; and to remove an entry. And what it is asked for
-- by whoever keeps it: to give all programs the latest version.
pub data Command : Type 0 where
  SetScript : List ℕ → List ℕ → Command
  SetCode : List ℕ → List ℕ → Command
  Deliver : List ℕ → List ℕ → Command
  ListAll : List ℕ → Command
  ListSince : List ℕ → ℕ → Command
  Catalog : List ℕ → ℕ → Command
  ProgramOf : List ℕ → Command
  Export : List ℕ → ℕ → Encoding → Command
  Remove : List ℕ → ℕ → Command
  Migrate : Command

-- what it replies: that it is done; entries; a program, if there is one; a text; or how many
-- programs have the latest version now that had another
pub data Reply : Type 0 where
  Done : Reply
  Listed : List Listing → Reply
  Program : Option (List ℕ) → Reply
  Text : List ℕ → Reply
  Migrated : ℕ → Reply

-- the user of a command, if it has one
abbrev pub user_of : Command → Option (List ℕ)
user_of (SetScript user script) = Some user
user_of (SetCode user program) = Some user
user_of (Deliver user message) = Some user
user_of (ListAll user) = Some user
user_of (ListSince user number) = Some user
user_of (Catalog user number) = Some user
user_of (ProgramOf user) = Some user
user_of (Export user number encoding) = Some user
user_of (Remove user number) = Some user
user_of Migrate = None

-- the entry is a message, not a part
abbrev pub is_message : Kind → Bool
is_message Message = true
is_message Part = false

-- where a command has a user, he has the name of one
abbrev pub IsNamed : Command → Type 0
IsNamed command = IfSome (user_of command) (λ user. IsTrue (is_user_name user))

-- the actions on a message are the final ones of the user's program, or Keep where he has none
abbrev pub AreActions : Option (List ℕ) → Mail → List Action → Type 0
AreActions None mail actions = actions ≡ Keep ∷ []
AreActions (Some program) mail actions = (code : Code) × (charged : ℕ) × IsChecked program code
    × IsOutcome code mail actions charged

-- the drafts become the user's entries under his next numbers; where there is none nothing changes
abbrev pub filed : List ℕ → List Draft → Entries → Entries
filed user [] before = before
filed user (draft ∷ drafts) before = with_entries user (draft ∷ drafts) before

-- a message is delivered: an entry for each final action, in order, under the next numbers
pub record Delivers (before : Entries) (user message : List ℕ) (reply : Reply) (after : Entries) : Type 0 where
  pub readable : IsReadable message
  pub actions : List Action
  pub are : AreActions (before.programs user) (mail_of message) actions
  pub room : HasRoom before user (length actions)
  pub listed : reply ≡ Listed (map listing_of
      (numbered user (before.lasts user + 1) (drafts_of (mail_of message) actions)))
  pub filed : after ≡ filed user (drafts_of (mail_of message) actions) before

-- a user's program, which is accepted, has the latest version now: its code is the same
abbrev pub IsRenewed : Option (List ℕ) → Option (List ℕ) → Type 0
IsRenewed None after = after ≡ None
IsRenewed (Some program) after = (code : Code) × IsChecked program code × (after ≡ Some (spelling (record code { version = latest_version })))

-- the code is of the latest version
abbrev pub is_latest : Code → Bool
is_latest code = code.version == latest_version

-- Every program is accepted, and gets the latest version; the reply is how many had another.
-- Entries and last numbers stay.
pub record Migrates (before : Entries) (reply : Reply) (after : Entries) : Type 0 where
  pub stored : List UserProgram
  pub are : AreProgramsOf before stored
  pub codes : List Code
  pub checked : AllZip (λ pair code. IsChecked pair.1 code) stored codes
  pub counted : reply ≡ Migrated (length (filter (λ code. not (is_latest code)) codes))
  pub renewed : (user : List ℕ) → IsRenewed (before.programs user) (after.programs user)
  pub entries : after.entries ≡ before.entries
  pub lasts : after.lasts ≡ before.lasts

-- an entry of the store, as a catalog sees it
abbrev pub filed_of : Entry → Filed
filed_of x =
    record { number = x.number; folder = x.folder; name = x.name; media = x.media; is_message = is_message x.kind; octets = x.octets }

-- What a command replies, and what it leaves: a script's code, or a program, is the user's program;
-- a message is delivered; an entry is gone, and the last number stays; all programs are migrated;
-- and the others change nothing.
abbrev pub Steps : Entries → Command → Reply → Entries → Type 0
Steps before (SetScript user script) reply after = (code : Code) × IsCompiled script code × (reply ≡ Done)
    × (after ≡ with_program user (spelling code) before)
Steps before (SetCode user program) reply after = (code : Code) × IsChecked program code × (reply ≡ Done)
    × (after ≡ with_program user program before)
Steps before (Deliver user message) reply after = Delivers before user message reply after
Steps before (ListAll user) reply after = (reply ≡ Listed (map listing_of (entries_of user before))) × (after ≡ before)
Steps before (ListSince user number) reply after =
    (reply ≡ Listed (map listing_of (entries_since user number before))) × (after ≡ before)
Steps before (Catalog user number) reply after =
    (reply ≡ Text (catalog number (map filed_of (entries_of user before)))) × (after ≡ before)
Steps before (ProgramOf user) reply after = (reply ≡ Program (before.programs user)) × (after ≡ before)
Steps before (Export user number encoding) reply after =
    (entry : Entry) × IsEntryAt before user number entry × (reply ≡ Text (text_of encoding entry.octets))
    × (after ≡ before)
Steps before (Remove user number) reply after = (entry : Entry) × IsEntryAt before user number entry × (reply ≡ Done)
    × (after ≡ without_entry user number before)
Steps before Migrate reply after = Migrates before reply after

-- a depot that holds this accepts the command with this reply, and holds that afterwards
pub record Accepts (before : Entries) (command : Command) (reply : Reply) (after : Entries) : Type 0 where
  pub named : IsNamed command
  pub step : Steps before command reply after

-- ---- on a store

-- What is open stands for what a command leaves, and that is committed. The store is open, unless
-- the command changes nothing and the disk failed as it ended.
pub record Leaves (before after : Entries) (old new : State) : Type 0 where
  pub stands : IsTrue new.is_open → Stands new.now after × (new.committed ≡ new.now)
  pub closes : IsTrue new.is_open ⊎ ((after ≡ before) × DiskFailed old new)

-- the store, which was open, does the command with this reply
abbrev pub Does : Command → Reply → State → State → Type 0
Does command reply old new =
    IsTrue old.is_open × ((before : Entries) → Stands old.now before
    → (after : Entries) × Accepts before command reply after × Leaves before after old new)

-- the store, which was open, of what the command leaves: with the step that the store itself makes, all that a crash may leave
abbrev pub MayLeave : Command → State → Trees → Type 0
MayLeave command old trees =
    IsTrue old.is_open × ((before : Entries) → Stands old.now before
    → (reply : Reply) × (after : Entries) × Accepts before command reply after × IsStored trees after)
