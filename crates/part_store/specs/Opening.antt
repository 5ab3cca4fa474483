-- What an open finds and leaves.
use Rattle.std.specs.Prelude.{◌≡◌, ◌⊎◌, false, Option, None, Some, Result, Ok, Err, IsTrue, ⊤}
use Rattle.sqlite_disk.specs.declared.Disk.{Ghosts}
use Rattle.sqlite_disk.specs.declared.Files.{Files}
use Rattle.sqlite.specs.declared.FileStore.{FileStore}
use Rattle.sqlite.specs.declared.file.Leftover.{Leftover}
use Rattle.sqlite.specs.declared.error.Error.{Error}
use Rattle.sqlite.specs.declared.error.Error.TheVariants.{SqliteFailure}
use Rattle.sqlite.specs.declared.error.ErrorCode.TheVariants.{CannotOpen, OutOfMemory, DatabaseBusy}
use Rattle.sqlite.specs.Effect.{Database, IsDatabase}
use Rattle.sqlite.specs.State.{State, HasCleanDisk, Survives}
use Rattle.sqlite.specs.Held.{Held}
use Rattle.sqlite.specs.Files.{file_state, image_of, HoldsDatabase, IsNothing, IsOpened, IsCleanLeft, FailsToOpenFiles, LeavesFiles}
use Rattle.sqlite.specs.Recovery.{Image}
use Rattle.sqlite.specs.Start.{FindsIn}
use Rattle.sqlite.specs.WalFiles.{outcomes}
use Rattle.sqlite_trees.specs.Tree.{Trees}
use Rattle.part_store.specs.Tables.{no_schema}
use Rattle.part_store.specs.Entries.{Entries, no_entries}
use Rattle.part_store.specs.Standing.{IsStored, Stands}
use Rattle.part_store.specs.Looking.{are_tables, unopened_of}
use Rattle.part_store.specs.declared.looking.Unopened.{Unopened}
use Rattle.part_store.specs.declared.looking.Unopened.TheVariants as unopened

-- the tables aren't those of a store
abbrev pub HasOtherTables : State → Type 0
HasOtherTables s = are_tables s.now.schema.tables ≡ false

-- a database has no table, index or view
abbrev pub IsBare : State → Type 0
IsBare s = s.now.schema ≡ no_schema

-- it has the tables of the empty state, which are committed, and it is open
abbrev pub IsEmptied : State → Type 0
IsEmptied s = Stands s.now no_entries × (s.committed ≡ s.now) × IsTrue s.is_open

-- what is seen and what is committed are as they were
abbrev pub IsKept : State → State → Type 0
IsKept old new = (new.now ≡ old.now) × (new.committed ≡ old.committed)

-- what an open may commit: the tables of the empty state, in an open database that had none
abbrev pub MakesEmpty : State → Trees → Type 0
MakesEmpty found trees = IsTrue found.is_open × IsBare found × IsStored trees no_entries

-- the files were opened, and a database without tables has those of the empty state now; any other is as it was
pub record IsReady {D : Type 0} {g : Ghosts D} (now : Held (FileStore D g)) : Type 0 where
  pub found : Held (FileStore D g)
  pub opened : HasCleanDisk (file_state found) → IsOpened found
  pub made : HasCleanDisk (file_state now) → IsBare (file_state found) → IsEmptied (file_state now)
  pub same : (IsBare (file_state found) → ⊥) → now ≡ found
  pub settled : (file_state now).in_transaction ≡ false
  pub survives : Survives (file_state found) (file_state now) (MakesEmpty (file_state found))

-- the two files hold this database
pub record Holds (image : Image) (d : Database) : Type 0 where
  pub trees : ∥ HoldsDatabase image d.trees ∥₁
  -- its trees list its schema, and obey it
  pub listed : IsDatabase d

-- the two files hold a store, which stands for this state
abbrev pub HoldsStore : Image → Entries → Type 0
HoldsStore image e = (d : Database) × Holds image d × Stands d e

-- No database was made: the file is empty or isn't there, or is what an open that was cut off left
-- half made. Or the two hold a database without table, index or view.
abbrev pub HoldsNoTables : Image → Type 0
HoldsNoTables image = IsNothing image ⊎ ((d : Database) × Holds image d × (d.schema ≡ no_schema))

-- the two files stand for this state: they hold its store or, where it is the empty one, no tables yet
abbrev pub HoldsState : Image → Entries → Type 0
HoldsState image e = HoldsStore image e ⊎ (HoldsNoTables image × (e ≡ no_entries))

-- an open store shows this state, which is committed
abbrev pub IsAt : Entries → State → Type 0
IsAt e s = Stands s.now e × (s.committed ≡ s.now) × IsTrue s.is_open

-- the same as `IsReady`, where what was found is what the two files held
pub record IsReadyFrom {D : Type 0} {g : Ghosts D} (image : Image) (now : Held (FileStore D g)) : Type 0 where
  pub ready : IsReady now
  pub finds : HasCleanDisk (file_state ready.found) → FindsIn image (file_state ready.found)

-- Why the files weren't opened. With none left the system refused them; else they are left as the
-- database's open leaves them, which began with nothing that a crash could take back.
abbrev pub IsUnopened : {D : Type 0} {g : Ghosts D} → Image → Option (Leftover D g) → Error → Type 0
IsUnopened image None e = (e ≡ SqliteFailure CannotOpen)
    ⊎ ((e ≡ SqliteFailure OutOfMemory) ⊎ (e ≡ SqliteFailure DatabaseBusy))
IsUnopened {D} {g} image (Some left) e =
    (files : Files D) × (image_of g files ≡ image)
    × (IsCleanLeft left → FailsToOpenFiles files left e × LeavesFiles files left)
    × ((other : Image) → outcomes g files.log files.db other → other ≡ image)

-- what the database's open gave of files that held the image
pub record IsFoundIn {D : Type 0} {g : Ghosts D} (image : Image) (found : Held (FileStore D g)) : Type 0 where
  pub opened : HasCleanDisk (file_state found) → IsOpened found
  pub finds : HasCleanDisk (file_state found) → FindsIn image (file_state found)

-- the database's open left these files of those that held the image, and its error is told so
abbrev pub IsRefusedAs : {D : Type 0} → Ghosts D → Image → Unopened → Type 0
IsRefusedAs {D} g image why =
    (left : Leftover D g) × (error : Error) × IsUnopened image (Some left) error × (why ≡ unopened_of error)

-- the database's open gave a connection, whose tables are others
abbrev pub HasFoundOthers : {D : Type 0} → Ghosts D → Image → Type 0
HasFoundOthers {D} g image =
    (found : Held (FileStore D g)) × IsFoundIn image found × HasOtherTables (file_state found)

-- Why an open of files as they are is refused. What the system refuses has no cause in a clause, so
-- nothing is said where memory is lacking, where the file is open elsewhere and where it can't be
-- opened. The others are told only of files that were opened.
abbrev pub IsUnseen : {D : Type 0} → Ghosts D → Image → Unopened → Type 0
IsUnseen g image unopened.Memory = ⊤
IsUnseen g image unopened.Held = ⊤
IsUnseen g image unopened.Closed = ⊤
IsUnseen g image unopened.Damaged = IsRefusedAs g image unopened.Damaged
IsUnseen g image unopened.OtherTables = HasFoundOthers g image
IsUnseen g image unopened.Disk = IsRefusedAs g image unopened.Disk

abbrev pub TellsWhy : {D : Type 0} {g : Ghosts D} → Image → Result (Held (FileStore D g)) Unopened → Type 0
TellsWhy image (Ok s) = ⊤
TellsWhy {D} {g} image (Err why) = IsUnseen g image why

-- the two files hold this database, as they read now and as a crash may leave them
pub record KeepsDatabase {D : Type 0} (g : Ghosts D) (files : Files D) (d : Database) : Type 0 where
  pub seen : Holds (image_of g files) d
  pub left : (image : Image) → outcomes g files.log files.db image → Holds image d

-- the two files hold the store of this state, as they read now and as a crash may leave them
pub record KeepsStore {D : Type 0} (g : Ghosts D) (files : Files D) (e : Entries) : Type 0 where
  pub seen : HoldsStore (image_of g files) e
  pub left : (image : Image) → outcomes g files.log files.db image → HoldsStore image e
