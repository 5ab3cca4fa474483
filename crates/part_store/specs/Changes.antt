-- Private: what one statement does to the tables.
use Rattle.std.specs.Prelude.{◌≡◌, ◌≢◌, ℕ, ℤ, pos, Bool, true, false, not, ◌&&◌, List, [], ◌∷◌, map, filter, Option, Some, None, IsTrue, IsPermutation, IsSorted, ◌⊎◌}
use Rattle.std.specs.Ordering.{on}
use Rattle.sqlite_sql.specs.declared.ops.UnaryOp.TheVariants.{Length}
use Rattle.sqlite_sql.specs.declared.ops.BinaryOp.TheVariants.{Compare}
use Rattle.sqlite_sql.specs.declared.ops.CompareOp.TheVariants.{Gt}
use Rattle.sqlite_sql.specs.Ops.{binary, is_null, is_true, unary}
use Rattle.std.specs.List.{AllByRecursion}
use Rattle.sqlite_value.specs.declared.keys.Collation.TheVariants.{Binary}
use Rattle.sqlite_value.specs.declared.value.Value.TheVariants.{Int, Text, Blob}
use Rattle.sqlite_value.specs.Order.{Row, column, value_cmp}
use Rattle.sqlite_trees.specs.Tree.{Trees, rowid, IsTable, put_row, with_tree}
use Rattle.sqlite_trees.specs.View.{is_int}
use Rattle.sqlite_rules.specs.Lists.{Has}
use Rattle.sqlite_rules.specs.Edit.{next_rowid, is_taken}
use Rattle.sqlite.specs.Effect.{IsDatabase, Database}
use Rattle.sqlite.specs.State.{State}
use Rattle.part_store.specs.Entries.{Entries}
use Rattle.part_store.specs.Refusals.{user_values}
use Rattle.part_store.specs.Tables.{users_tree, store_schema, contents_tree, entries_tree, equals}
use Rattle.part_store.specs.UserLines.{with_users}
use Rattle.sqlite_schema.specs.declared.schema.Schema.{Schema}

-- what a query shows of a row
abbrev pub columns : List ℕ → Row → Row
columns places r = map (column r) places

-- any row
abbrev pub every : Row → Bool
every r = true

-- a user's row has a program
abbrev pub has_program : Row → Bool
has_program r = not (is_null (column r 3))

-- the row is the user's entry of that number
abbrev pub is_entry : List ℕ → ℕ → Row → Bool
is_entry user number r = equals 1 (Text user) r && equals 2 (Int (pos number)) r

-- the row is an entry of the user with a number above this one
abbrev pub is_since : List ℕ → ℕ → Row → Bool
is_since user number r = equals 1 (Text user) r && is_true (binary (Compare Gt Binary) (column r 2) (Int (pos number)))

-- how many octets a column has
abbrev pub length_at : ℕ → Row → Row
length_at at r = unary Length (column r at) ∷ []

-- a digest, and how many octets are under it
abbrev pub sized : Row → Row
sized r = column r 1 ∷ length_at 2 r

-- the other tables have the rows that they had
abbrev pub KeepsOthers : ℕ → Trees → Trees → Type 0
KeepsOthers tree old new = AllByRecursion (λ t. t.tree ≢ tree → new t.tree ≡ old t.tree) store_schema.tables

-- the row with the next rowid and these values
abbrev pub new_row : List Row → Row → Row
new_row rows values = Int (next_rowid rows) ∷ values

-- the rows of a table have rowids, which rise
abbrev pub IsTableIn : ℕ → Trees → Type 0
IsTableIn tree db = IsTable (db tree) × AllByRecursion (λ r. IsTrue (is_int (rowid r))) (db tree)

-- the table has this row, too, whose rowid no other has
pub record IsPut (tree : ℕ) (row : Row) (old new : Trees) : Type 0 where
  pub free : is_taken (old tree) row ≡ false
  pub rows : new tree ≡ put_row row (old tree)
  pub others : KeepsOthers tree old new

-- the table has one more row
abbrev pub IsAdded : ℕ → Row → Trees → Trees → Type 0
IsAdded tree values old = IsPut tree (new_row (old tree) values) old

-- the rows that pass the test are gone
pub record IsTaken (tree : ℕ) (test : Row → Bool) (old new : Trees) : Type 0 where
  pub rows : IsTable (old tree) → AllByRecursion (λ r. IsTrue (is_int (rowid r))) (old tree)
      → new tree ≡ filter (λ r. not (test r)) (old tree)
  pub others : KeepsOthers tree old new

-- the table without the rows that pass the test
abbrev pub without : ℕ → (Row → Bool) → Trees → Trees
without tree test db = with_tree db tree (filter (λ r. not (test r)) (db tree))

-- a row of the table of users
abbrev pub user_row : ℤ → List ℕ → ℕ → Option (List ℕ) → Row
user_row id user last program = Int id ∷ user_values user last program

-- the user has this program, or none, and at least this last number
abbrev pub with_line : List ℕ → ℕ → Option (List ℕ) → Entries → Entries
with_line user last program = with_users (record { user = user; last = last; program = program } ∷ [])

-- the table of users has this row of the user, and no other
abbrev pub IsOnlyRow : List ℕ → Row → Trees → Type 0
IsOnlyRow user row db = IsTableIn users_tree db × (filter (equals 1 (Text user)) (db users_tree) ≡ row ∷ [])

-- Where the user has one row it has another last number. The program in it is as it was.
abbrev pub IsRenewed : List ℕ → ℕ → Trees → Trees → Type 0
IsRenewed user last old new =
    (id : ℤ) (was : ℕ) (program : Option (List ℕ)) → IsOnlyRow user (user_row id user was program) old
    → IsPut users_tree (user_row id user last program) (without users_tree (equals 1 (Text user)) old) new

-- a row that passes the test, as it is shown, or none where no row passes
abbrev pub IsFound : ℕ → (Row → Bool) → (Row → Row) → Trees → Option Row → Type 0
IsFound tree test shown db None = (r : Row) → Has (db tree) r → test r ≡ false
IsFound tree test shown db (Some row) = (r : Row) × Has (db tree) r × (test r ≡ true) × (row ≡ shown r)

-- the rows that pass the test, as they are shown, in the order of what they show first
pub record IsListed (tree : ℕ) (test : Row → Bool) (shown : Row → Row) (rows : List Row) (db : Trees) : Type 0 where
  pub same : IsPermutation (map shown (filter test (db tree))) rows
  pub sorted : IsSorted (on (λ r. column r 0) value_cmp) rows

-- the statement ran in a transaction that goes on, and changed the tables so; nothing is committed
pub record IsStep (Change : Trees → Trees → Type 0) (old new : State) : Type 0 where
  pub was_open : IsTrue old.is_open
  pub is_open : IsTrue new.is_open
  pub committed : new.committed ≡ old.committed
  pub inside : IsTrue old.in_transaction → IsTrue new.in_transaction
  pub schema : new.now.schema ≡ store_schema
  pub listed : IsDatabase old.now → IsDatabase new.now
  pub change : Change old.now.trees new.now.trees

-- where the tables are those of the store
abbrev pub Steps : (Trees → Trees → Type 0) → State → State → Type 0
Steps Change old new = old.now.schema ≡ store_schema → IsStep Change old new

-- the tables are as they were, and what was read of them is so
abbrev pub Reads : (Trees → Type 0) → Trees → Trees → Type 0
Reads Finding old new = (new ≡ old) × Finding old

-- In a transaction: where no entry names the digest any more, what is under it is gone, and else nothing has changed.
pub record IsTidied (digest : List ℕ) (old new : State) : Type 0 where
  pub schema : new.now.schema ≡ store_schema
  pub committed : new.committed ≡ old.committed
  pub inside : IsTrue old.in_transaction → IsTrue new.in_transaction
  pub listed : IsDatabase old.now → IsDatabase new.now
  pub change :
      ((r : Row) × Has (old.now.trees entries_tree) r × (equals 7 (Blob digest) r ≡ true)
      × (new.now.trees ≡ old.now.trees))
      ⊎ (((r : Row) → Has (old.now.trees entries_tree) r → equals 7 (Blob digest) r ≡ false)
      × IsTaken contents_tree (equals 1 (Blob digest)) old.now.trees new.now.trees)

-- A table is made in a database that has the schema before: it is listed and empty, and the other
-- tables are as they were.
pub record IsMadeTable (was is : Schema) (tree : ℕ) (old new : Database) : Type 0 where
  pub schema : new.schema ≡ is
  pub listed : IsDatabase new
  pub empty : new.trees tree ≡ []
  pub others : AllByRecursion (λ t. new.trees t.tree ≡ old.trees t.tree) was.tables

abbrev pub IsMade : Schema → Schema → ℕ → Database → Database → Type 0
IsMade was is tree old new = old.schema ≡ was → IsMadeTable was is tree old new
