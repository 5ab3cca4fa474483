-- How the database's errors are answered, and where it refuses.
use Rattle.std.specs.Prelude.{◌≡◌, ◌⊎◌, ℕ, ◌≤◌, ℤ, ◌+ℤ◌, pos, false, List, [], ◌∷◌, length, Option, Some, IsSome, IsUtf8}
use Rattle.std.specs.List.{AllByRecursion}
use Rattle.sqlite_value.specs.declared.value.Value.TheVariants.{Int, Text, Blob}
use Rattle.sqlite_value.specs.Order.{Row, column}
use Rattle.sqlite_trees.specs.Tree.{Trees, rowid}
use Rattle.sqlite_sql.specs.Ops.{fits_i64}
use Rattle.sqlite_schema.specs.declared.schema.Table.{Table}
use Rattle.sqlite_rules.specs.Edit.{id_in, IsOversized}
use Rattle.sqlite_rules.specs.Lists.{Has}
use Rattle.sqlite.specs.Values.{or_null}
use Rattle.sqlite.specs.declared.error.ErrorCode.TheVariants.{OutOfMemory}
use Rattle.sqlite.specs.declared.error.Error.{Error}
use Rattle.sqlite.specs.declared.error.Error.TheVariants.{SqliteFailure}
use Rattle.sqlite.specs.State.{State}
use Rattle.octets.specs.Limits.{max_entry_number}
use Rattle.sha2.specs.Sha256.{sha256}
use Rattle.part_store.specs.Entries.{Draft, Entries, UserProgram, entry_of, with_entries}
use Rattle.part_store.specs.Filing.{HasRoom, entry_values}
use Rattle.part_store.specs.Standing.{DiskFailed, Stands}
use Rattle.part_store.specs.Tables.{store_schema, users_table, contents_table, entries_table, users_tree, contents_tree, entries_tree}
use Rattle.part_store.specs.UserLines.{UserLine}
use Rattle.part_store.specs.declared.error.StoreError.{StoreError}
use Rattle.part_store.specs.declared.error.StoreError.TheVariants.{Memory, Database}

-- its want of memory is want of memory, and whatever else it says is its refusal
abbrev pub refusal_of : Error → StoreError
refusal_of (SqliteFailure OutOfMemory) = Memory
refusal_of _ = Database

-- the database can't work: its disk failed in the call, an earlier failure had shut it, or its
-- statements may take only so many steps
abbrev pub HasFailed : State → State → Type 0
HasFailed old new = DiskFailed old new ⊎ ((old.is_open ≡ false) ⊎ IsSome old.step_limit)

-- where the tables stand for a state, `Database` is told only of a database that can't work
abbrev pub OnlyWhenFailed : State → State → StoreError → Type 0
OnlyWhenFailed old new e = e ≡ Database → (before : Entries) → Stands old.now before → HasFailed old new

-- the same where there may be another cause, which the state and the tables tell
abbrev pub OnlyWhenFailedOr : (Entries → Trees → Type 0) → State → State → StoreError → Type 0
OnlyWhenFailedOr Other old new e = e ≡ Database → (before : Entries) → Stands old.now before
    → HasFailed old new ⊎ Other before old.now.trees

-- ---- want of room

-- the rowid of a row, or 0, which comes before the first
abbrev pub IsRowidIn : List Row → ℤ → Type 0
IsRowidIn rows id = (id ≡ pos 0) ⊎ ((r : Row) × Has rows r × (id ≡ id_in (rowid r)))

-- the table hasn't a rowid left for each of so many rows
abbrev pub RunsOut : List Row → ℕ → Type 0
RunsOut rows count = (id : ℤ) × IsRowidIn rows id × (k : ℕ) × (k ≤ count) × (fits_i64 (id +ℤ pos k) ≡ false)

-- a row of these values, or its key in an index, is more than can be stored
abbrev pub IsTooBig : Table → Row → Type 0
IsTooBig table values = (id : ℤ) × IsOversized store_schema table (Int id ∷ values)

abbrev pub user_values : List ℕ → ℕ → Option (List ℕ) → Row
user_values user last program = Text user ∷ Int (pos last) ∷ or_null Blob program ∷ []

abbrev pub content_values : List ℕ → List ℕ → Row
content_values digest octets = Blob digest ∷ Blob octets ∷ []

-- the row that a user has in this state has no room
abbrev pub HasNoUserRoom : List ℕ → Entries → Trees → Type 0
HasNoUserRoom user after db = RunsOut (db users_tree) 1
    ⊎ IsTooBig users_table (user_values user (after.lasts user) (after.programs user))

-- where the tables stand for a state, a change of a user's row is refused only by a database that
-- can't work or has no room for the row
abbrev pub OnlyWhenFailedOrNoUserRoom : List ℕ → (Entries → Entries) → State → State → StoreError → Type 0
OnlyWhenFailedOrNoUserRoom user change = OnlyWhenFailedOr (λ before. HasNoUserRoom user (change before))

-- the rows of users with these programs have no room
abbrev pub HaveNoUserRoom : List UserProgram → Entries → Trees → Type 0
HaveNoUserRoom pairs before db =
    RunsOut (db users_tree) (length pairs)
    ⊎ ((pair : UserProgram) × Has pairs pair
    × IsTooBig users_table (user_values pair.0 (before.lasts pair.0) (Some pair.1)))

-- the rows of these users have no room
abbrev pub HaveNoLineRoom : List UserLine → Entries → Trees → Type 0
HaveNoLineRoom lines before db =
    RunsOut (db users_tree) (length lines)
    ⊎ ((line : UserLine) × Has lines line
    × ((last : ℕ) × (last ≤ max_entry_number) × IsTooBig users_table (user_values line.user last line.program)))

-- where the tables stand for a state, users are refused only by a database that can't work or has no room for a row
abbrev pub OnlyWhenFailedOrNoLineRoom : List UserLine → State → State → StoreError → Type 0
OnlyWhenFailedOrNoLineRoom lines = OnlyWhenFailedOr (HaveNoLineRoom lines)

-- where the tables stand for a state, programs are refused only by a database that can't work or has no room for a row
abbrev pub OnlyWhenFailedOrNoProgramRoom : List UserProgram → State → State → StoreError → Type 0
OnlyWhenFailedOrNoProgramRoom pairs = OnlyWhenFailedOr (HaveNoUserRoom pairs)

-- the octets of a draft, or its row as an entry of the user, are too big
abbrev pub IsDraftTooBig : List ℕ → Draft → Type 0
IsDraftTooBig user d =
    IsTooBig contents_table (content_values (sha256 d.octets) d.octets)
    ⊎ ((number : ℕ) × IsTooBig entries_table (entry_values (entry_of user number d) (sha256 d.octets)))

-- the drafts have no room as entries of the user
abbrev pub HaveNoRoom : List ℕ → List Draft → Trees → Type 0
HaveNoRoom user drafts db = RunsOut (db contents_tree) (length drafts)
    ⊎ (RunsOut (db entries_tree) (length drafts) ⊎ ((d : Draft) × Has drafts d × IsDraftTooBig user d))

-- the drafts, or the row of the user whose entries they become, have no room
abbrev pub HaveNoRows : List ℕ → List Draft → Entries → Trees → Type 0
HaveNoRows user drafts before db = HasNoUserRoom user (with_entries user drafts before) db ⊎ HaveNoRoom user drafts db

-- the numbers that the user has left suffice, but there is no such room
abbrev pub LackRoom : List ℕ → List Draft → Entries → Trees → Type 0
LackRoom user drafts before db = HasRoom before user (length drafts) × HaveNoRows user drafts before db

-- where the tables stand for a state, entries of a user are refused only by a database that can't
-- work, or, where their numbers suffice, has no room for them or for his row
abbrev pub OnlyWhenFailedOrNoEntryRoom : List ℕ → List Draft → State → State → StoreError → Type 0
OnlyWhenFailedOrNoEntryRoom user drafts = OnlyWhenFailedOr (LackRoom user drafts)

-- each user's name is UTF-8, as is each that a store was given
abbrev pub AreNamed : Trees → Type 0
AreNamed db = AllByRecursion (λ r. (user : List ℕ) → column r 1 ≡ Text user → IsUtf8 user) (db users_tree)

-- the same where the users' names are read, too
abbrev pub OnlyWhenUnnamed : State → State → StoreError → Type 0
OnlyWhenUnnamed old new e = e ≡ Database → (before : Entries) → Stands old.now before → AreNamed old.now.trees
    → HasFailed old new
