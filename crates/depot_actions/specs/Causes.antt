-- Why a depot refuses a command. The user's name comes first, then the script, program or message, then the store.
use Rattle.std.specs.Prelude.{◌≡◌, ◌≢◌, ◌⊎◌, ℕ, ◌^◌, ◌≤◌, IsTrue, List, map, None, Option, Some, length}
use Rattle.std.specs.List.{sum_by}
use Rattle.sqlite.specs.State.{State}
use Rattle.sqlite_trees.specs.Tree.{Trees}
use Rattle.bytecode_format.specs.Code.{Code}
use Rattle.bytecode_format.specs.Spelling.{spelling}
use Rattle.bytecode_format.specs.declared.action.Action.{Action}
use Rattle.mime_decode.specs.Mail.{IsReadable, mail_of}
use Rattle.sieve_engine.specs.Execution.{IsChecked, IsProgramRefusal, IsUnread}
use Rattle.refusals.specs.Scripts.{IsScriptRefusal}
use Rattle.sieve_engine.specs.Evaluation.{IsCompiled}
use Rattle.part_store.specs.Entries.{AreProgramsOf, Entries, Entry, Listing, UserProgram, entries_of, listing_of, with_program}
use Rattle.part_store.specs.Filing.{Collides, HasRoom}
use Rattle.part_store.specs.Refusals.{HasFailed, HasNoUserRoom, HaveNoUserRoom, LackRoom}
use Rattle.part_store.specs.Totals.{octets_of}
use Rattle.part_store.specs.Tables.{contents_tree}
use Rattle.part_store.specs.Standing.{HasNone, IsEntryAt, Stands}
use Rattle.part_store.specs.Verifying.{IsAltered}
use Rattle.refusals.specs.declared.refusal.Refusal.{Refusal}
use Rattle.refusals.specs.declared.refusal.Refusal.TheVariants.{Memory, NoSuchEntry, NumberFull, Collision, Database, UserName, Write}
use Rattle.depot_actions.specs.DepotState.{AreActions, Catalog, Command, SetScript, SetCode, Deliver, Export, Remove, Migrate, IsNamed, is_message}
use Rattle.depot_actions.specs.Drafts.{drafts_of}
use Rattle.depot_actions.specs.Renewing.{AreRenewals}

-- the script has no fault, the program is accepted, or the message can be read
abbrev pub IsSound : Command → Type 0
IsSound (SetScript user script) = (code : Code) × IsCompiled script code
IsSound (SetCode user program) = (code : Code) × IsChecked program code
IsSound (Deliver user message) = IsReadable message
IsSound _ = Unit {0}

-- the script, the program or the message is refused so
abbrev pub IsUnsound : Command → Refusal → Type 0
IsUnsound (SetScript user script) refusal = IsScriptRefusal script refusal
IsUnsound (SetCode user program) refusal = IsProgramRefusal program refusal
IsUnsound (Deliver user message) refusal = IsUnread message refusal
IsUnsound _ refusal = ⊥

-- the user has no entry of the number that the command names
abbrev pub NamesNone : Entries → Command → Type 0
NamesNone before (Export user number encoding) = HasNone before user number
NamesNone before (Remove user number) = HasNone before user number
NamesNone before _ = ⊥

-- the numbers that the user has left don't suffice for the final actions
abbrev pub IsFull : Entries → Command → Type 0
IsFull before (Deliver user message) =
    (actions : List Action) × AreActions (before.programs user) (mail_of message) actions
    × (HasRoom before user (length actions) → ⊥)
IsFull before _ = ⊥

-- they suffice, but other octets have the digest of what one of the actions files
abbrev pub IsColliding : Trees → Entries → Command → Type 0
IsColliding trees before (Deliver user message) =
    (actions : List Action) × AreActions (before.programs user) (mail_of message) actions
    × HasRoom before user (length actions)
    × Collides trees (drafts_of (mail_of message) actions)
IsColliding trees before _ = ⊥

abbrev pub IsExport : Command → Type 0
IsExport (Export user number encoding) = Unit {0}
IsExport _ = ⊥

-- Why a store that is in this state refuses a command. NoSuchEntry, NumberFull and Collision are told
-- only by a store that is open. Memory has no cause here; that of Database is IsFault, below.
abbrev pub HasCause : Refusal → Command → State → Type 0
HasCause Memory command state = Unit {0}
HasCause UserName command state = IsNamed command → ⊥
HasCause NoSuchEntry command state = IsNamed command × IsTrue state.is_open
    × ((before : Entries) → Stands state.now before → NamesNone before command)
HasCause NumberFull command state = IsNamed command × IsSound command × IsTrue state.is_open
    × ((before : Entries) → Stands state.now before → IsFull before command)
HasCause Collision command state =
    IsNamed command × IsSound command × IsTrue state.is_open
    × ((before : Entries) → Stands state.now before → IsColliding state.now.trees before command)
HasCause Database command state = IsNamed command × IsSound command
HasCause Write command state = IsNamed command × IsExport command
HasCause refusal command state = IsNamed command × IsUnsound command refusal

-- the same, of the state before a call and the one after it
abbrev pub IsCause : Command → State → State → Refusal → Type 0
IsCause command old new refusal = HasCause refusal command old

-- ---- why the store refuses

-- where the tables stand for a state, `Database` is told only of a database that can't work, or for this other cause
abbrev pub IsStoreFault : (Entries → Trees → Type 0) → State → State → Refusal → Type 0
IsStoreFault Other old new refusal = refusal ≡ Database → (before : Entries) → Stands old.now before
    → HasFailed old new ⊎ Other before old.now.trees

-- a stored program no longer reads and verifies
abbrev pub IsSpoilt : Option (List ℕ) → Type 0
IsSpoilt None = ⊥
IsSpoilt (Some program) = (refusal : Refusal) × (refusal ≢ Memory) × IsProgramRefusal program refusal

-- the entry is a message, and its octets can't be read as one
abbrev pub IsNoMessage : Entry → Type 0
IsNoMessage entry = IsTrue (is_message entry.kind) × (IsReadable entry.octets → ⊥)

-- the octets of an entry of the user were altered, or aren't the message that it is
abbrev pub IsIllegible : List ℕ → Entries → Trees → Type 0
IsIllegible user before db =
    ((number : ℕ) × IsAltered db user number)
    ⊎ ((entry : Entry) × IsEntryAt before user entry.number entry × IsNoMessage entry)

-- What may keep a store that works from a command: what is to be put in has no room, where its
-- numbers suffice; a stored program is spoilt; the octets that are to be exported, or those of an entry of a catalog,
-- were altered; or an entry of a catalog that is a message can't be read as one. Where a command only lists, reads a
-- program or removes, nothing does.
abbrev pub IsHindered : Command → Entries → Trees → Type 0
IsHindered (SetScript user script) before db = (code : Code) × IsCompiled script code
    × HasNoUserRoom user (with_program user (spelling code) before) db
IsHindered (SetCode user program) before db = HasNoUserRoom user (with_program user program before) db
IsHindered (Deliver user message) before db =
    IsSpoilt (before.programs user)
    ⊎ ((actions : List Action) × AreActions (before.programs user) (mail_of message) actions
    × LackRoom user (drafts_of (mail_of message) actions) before db)
IsHindered (Export user number encoding) before db = IsAltered db user number
IsHindered (Catalog user number) before db = IsIllegible user before db
IsHindered Migrate before db =
    ((user : List ℕ) × IsSpoilt (before.programs user))
    ⊎ ((stored : List UserProgram) × (renewed : List UserProgram) × AreProgramsOf before stored
    × AreRenewals stored renewed × HaveNoUserRoom renewed before db)
IsHindered _ before db = ⊥

-- the store refuses the command only so
abbrev pub IsFault : Command → State → State → Refusal → Type 0
IsFault command = IsStoreFault (IsHindered command)

-- the octets of all contents, or of a user's entries, are more than 64 bits can count
abbrev pub IsUncounted : Entries → Trees → Type 0
IsUncounted before db =
    (2 ^ 64 ≤ octets_of (db contents_tree))
    ⊎ ((user : List ℕ) × (2 ^ 64 ≤ sum_by (λ (e : Listing). e.octets) (map listing_of (entries_of user before))))

-- ---- which refusals a command may get, whatever the disk does

-- The refusals of a command of its own: what its script, program or message is refused for; of a
-- delivery also NumberFull and Collision; of an export NoSuchEntry and Write; of a removal
-- NoSuchEntry. The others have none.
abbrev pub IsOwn : Command → Refusal → Type 0
IsOwn (SetScript user script) refusal = IsScriptRefusal script refusal
IsOwn (SetCode user program) refusal = IsProgramRefusal program refusal
IsOwn (Deliver user message) refusal = IsUnread message refusal ⊎ ((refusal ≡ NumberFull) ⊎ (refusal ≡ Collision))
IsOwn (Export user number encoding) refusal = (refusal ≡ NoSuchEntry) ⊎ (refusal ≡ Write)
IsOwn (Remove user number) refusal = refusal ≡ NoSuchEntry
IsOwn _ refusal = ⊥

-- UserName where a user's name is none, before all else; else Memory, one of the command's own, or,
-- after its script, program or message, Database.
abbrev pub MayRefuse : Command → Refusal → Type 0
MayRefuse command refusal =
    ((refusal ≡ UserName) × (IsNamed command → ⊥))
    ⊎ (IsNamed command × ((refusal ≡ Memory) ⊎ (IsOwn command refusal ⊎ ((refusal ≡ Database) × IsSound command))))
