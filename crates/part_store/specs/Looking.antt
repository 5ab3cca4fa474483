-- How a file is opened as it is, and why it isn't.
use Rattle.std.specs.Prelude.{ℕ, Bool, false, ◌&&◌, ◌==◌, List, [], ◌∷◌, codes, bytes_eq, length}
use Rattle.sqlite_schema.specs.declared.schema.Table.{Table}
use Rattle.sqlite.specs.declared.error.Error.{Error}
use Rattle.sqlite.specs.declared.error.Error.TheVariants.{SqliteFailure}
use Rattle.sqlite.specs.declared.error.ErrorCode.TheVariants.{OutOfMemory, DatabaseBusy, NotADatabase, DatabaseCorrupt, CannotOpen}
use Rattle.part_store.specs.declared.looking.Unopened.{Unopened}
use Rattle.part_store.specs.declared.looking.Unopened.TheVariants as unopened

-- the table has this name and so many columns
abbrev pub is_table : List ℕ → ℕ → Table → Bool
is_table name columns table = bytes_eq table.name name && (length table.columns == columns)

abbrev pub three_tables : Table → Table → Table → Bool
three_tables a b c = is_table (codes "users") 3 a && (is_table (codes "contents") 2 b && is_table (codes "entries") 7 c)

-- the tables have the names of those of a store, and as many columns
abbrev pub are_tables : List Table → Bool
are_tables (a ∷ b ∷ c ∷ []) = three_tables a b c
are_tables _ = false

-- why a database didn't open
abbrev pub unopened_of : Error → Unopened
unopened_of (SqliteFailure OutOfMemory) = unopened.Memory
unopened_of (SqliteFailure DatabaseBusy) = unopened.Held
unopened_of (SqliteFailure NotADatabase) = unopened.Damaged
unopened_of (SqliteFailure DatabaseCorrupt) = unopened.Damaged
unopened_of (SqliteFailure CannotOpen) = unopened.Closed
unopened_of _ = unopened.Disk
