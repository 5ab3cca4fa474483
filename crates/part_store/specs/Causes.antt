-- Private: why a statement is refused.
use Rattle.std.specs.Prelude.{◌≡◌, ◌⊎◌, ℕ, ◌≤◌, ℤ, ◌+ℤ◌, pos, Bool, true, false, List, ◌∷◌, IsTrue}
use Rattle.sqlite.specs.Effect.{IsDatabase}
use Rattle.sqlite.specs.State.{State}
use Rattle.sqlite.specs.declared.error.Error.{Error}
use Rattle.sqlite.specs.declared.error.Error.TheVariants.{SqliteFailure}
use Rattle.sqlite.specs.declared.error.ErrorCode.TheVariants.{ConstraintViolation, DatabaseCorrupt}
use Rattle.sqlite_rules.specs.Edit.{next_rowid, IsOversized}
use Rattle.sqlite_rules.specs.Lists.{Has}
use Rattle.sqlite_schema.specs.declared.schema.Constraint.TheVariants.{ForeignKey}
use Rattle.sqlite_schema.specs.declared.schema.Table.{Table}
use Rattle.sqlite_sql.specs.Ops.{fits_i64}
use Rattle.sqlite_trees.specs.Tree.{Trees}
use Rattle.sqlite_value.specs.Order.{Row}
use Rattle.sqlite_value.specs.declared.value.Value.TheVariants.{Int, Text, Blob}
use Rattle.part_store.specs.Changes.{is_entry, new_row}
use Rattle.part_store.specs.Entries.{Entry, Draft}
use Rattle.part_store.specs.Filing.{entry_values}
use Rattle.part_store.specs.Refusals.{refusal_of, HasFailed, OnlyWhenFailedOr, IsRowidIn, content_values, HaveNoRows}
use Rattle.part_store.specs.Standing.{HasContent}
use Rattle.part_store.specs.UserLines.{HasRow}
use Rattle.part_store.specs.Tables.{users_tree, contents_tree, entries_tree, equals, store_schema, contents_table, entries_table}
use Rattle.part_store.specs.declared.error.StoreError.{StoreError}
use Rattle.part_store.specs.declared.error.StoreError.TheVariants.{Database}

-- the database's refusal to let a row go that another one names
abbrev pub still_named : Error
still_named = SqliteFailure (ConstraintViolation ForeignKey)

-- the refusal of a content that doesn't have the digest that it is under
abbrev pub content_altered : Error
content_altered = SqliteFailure DatabaseCorrupt

-- where there are the three tables, a statement is refused for no other cause
abbrev pub Faults : State → State → Error → Type 0
Faults old new e = refusal_of e ≡ Database → old.now.schema ≡ store_schema → HasFailed old new

-- in a transaction, the database has the three tables and obeys them
pub record IsWritable (s : State) : Type 0 where
  pub inside : IsTrue s.in_transaction
  pub schema : s.now.schema ≡ store_schema
  pub listed : IsDatabase s.now

-- no row is the user's
abbrev pub HasNoRow : List ℕ → Trees → Type 0
HasNoRow user db = (r : Row) → Has (db users_tree) r → equals 1 (Text user) r ≡ false

-- nothing is under the digest
abbrev pub HasNoContent : List ℕ → Trees → Type 0
HasNoContent digest db = (r : Row) → Has (db contents_tree) r → equals 1 (Blob digest) r ≡ false

-- something is under it
abbrev pub HasSome : List ℕ → Trees → Type 0
HasSome digest db = (octets : List ℕ) × HasContent (db contents_tree) digest octets

-- no entry of the user has the number
abbrev pub IsFree : List ℕ → ℕ → Trees → Type 0
IsFree user number db = (r : Row) → Has (db entries_tree) r → is_entry user number r ≡ false

-- there a statement that writes is refused for no other cause
abbrev pub WriteFaults : State → State → Error → Type 0
WriteFaults old new e = refusal_of e ≡ Database → IsWritable old → HasFailed old new

-- a new row of these values has no room: its table has no rowid left, or the row or its key in an
-- index is more than can be stored
abbrev pub HasNoRoom : Table → Row → Trees → Type 0
HasNoRoom table values db = (fits_i64 (next_rowid (db table.tree)) ≡ false)
    ⊎ IsOversized store_schema table (new_row (db table.tree) values)

-- there a new row of these values is refused for no other cause
abbrev pub AddFaults : Table → Row → State → State → Error → Type 0
AddFaults table values old new e = refusal_of e ≡ Database → IsWritable old
    → HasFailed old new ⊎ HasNoRoom table values old.now.trees

-- A row with this rowid and these values has no room in place of another: the rowid is none, or the
-- row or its key in an index is more than can be stored.
abbrev pub HasNoPlace : Table → ℤ → Row → Type 0
HasNoPlace table id values = (fits_i64 id ≡ false) ⊎ IsOversized store_schema table (Int id ∷ values)

-- there it is refused for no other cause
abbrev pub PutFaults : Table → ℤ → Row → State → State → Error → Type 0
PutFaults table id values old new e = refusal_of e ≡ Database → IsWritable old
    → HasFailed old new ⊎ HasNoPlace table id values

-- whether the user has a row
abbrev pub TellsOfRow : List ℕ → Trees → Bool → Type 0
TellsOfRow user db true = HasRow (db users_tree) user
TellsOfRow user db false = HasNoRow user db

-- each rowid is at most so many above one that was there
abbrev pub RisesFrom : ℕ → List Row → List Row → Type 0
RisesFrom count old new = (id : ℤ) → IsRowidIn new id
    → (from : ℤ) × IsRowidIn old from × (k : ℕ) × (k ≤ count) × (id ≡ from +ℤ pos k)

-- an entry or its octets have no room
abbrev pub LacksRoom : Entry → List ℕ → Trees → Type 0
LacksRoom x digest db = HasNoRoom contents_table (content_values digest x.octets) db
    ⊎ HasNoRoom entries_table (entry_values x digest) db

-- the same once their numbers are known to suffice
abbrev pub OnlyWhenNoRowsFit : List ℕ → List Draft → State → State → StoreError → Type 0
OnlyWhenNoRowsFit user drafts = OnlyWhenFailedOr (HaveNoRows user drafts)
