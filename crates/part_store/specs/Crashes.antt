-- What a crash leaves of a store over files, for the next open.
use Rattle.std.specs.Prelude.{◌≡◌, ◌⊎◌, false, IsTrue, Some}
use Rattle.sqlite_disk.specs.declared.Disk.{Ghosts}
use Rattle.sqlite_trees.specs.Tree.{Trees}
use Rattle.sqlite_trees.specs.View.{IsClean}
use Rattle.sqlite.specs.declared.FileStore.{FileStore}
use Rattle.sqlite.specs.Effect.{IsDatabase}
use Rattle.sqlite.specs.FileStore as store
use Rattle.sqlite.specs.Files.{file_state, HoldsDatabase, IsCleanLeft, IsClosed}
use Rattle.sqlite.specs.Held.{Held}
use Rattle.sqlite.specs.Recovery.{Image}
use Rattle.sqlite.specs.State.{State, HasCleanDisk, Survives}
use Rattle.sqlite.specs.WalFiles.{outcomes}
use Rattle.sqlite.specs.declared.error.Error.{Error}
use Rattle.sqlite.specs.declared.file.Leftover.{Leftover}
use Rattle.sqlite.specs.declared.file.Leftover.TheVariants as left
use Rattle.sqlite_pool.specs.Stored.{is_summed}
use Rattle.sqlite_store.specs.Unopened.{state_of}
use Rattle.part_store.specs.Entries.{Entries}
use Rattle.part_store.specs.Opening.{Holds, HoldsStore, IsFoundIn, IsUnopened, MakesEmpty}
use Rattle.part_store.specs.Standing.{IsStored}
use Rattle.part_store.specs.Tables.{store_schema}

-- all that a crash may leave are stores of states
abbrev pub LeavesStores : State → Type 0
LeavesStores s = (trees : Trees) → s.may_leave trees → (e : Entries) × IsStored trees e

module _ {D : Type 0} {g : Ghosts D} where
  -- after a crash at this moment the log and the file may read so
  abbrev pub MayLeaveFiles : Held (FileStore D g) → Image → Type 0
  MayLeaveFiles c image = (store.state c.store).may_leave image

  -- the trees have the numbers that the list of tables gives them, as those of each store have whose disk is clean
  abbrev pub HasNumberedTrees : Held (FileStore D g) → Type 0
  HasNumberedTrees c = IsTrue (store.view c.store).is_numbered

  -- A close that failed, or that a crash cut off, may leave this of the files, also where a failure
  -- had shut the store before. It is known where the trees of what is left are numbered.
  pub record MayLeaveClosing (c : Held (FileStore D g)) (image : Image) : Type 0 where
    pub last : FileStore D g
    pub closed : IsClosed c last
    pub clean : IsClean (store.view last)
    pub numbered : IsTrue (store.view last).is_numbered
    pub may : (store.state last).may_leave image

  -- The files read so after a crash, or after a close that failed or was cut off. What a crash leaves
  -- is known where the trees of the store are numbered.
  abbrev pub AreLeft : Held (FileStore D g) → Image → Type 0
  AreLeft c image = (HasNumberedTrees c × MayLeaveFiles c image) ⊎ MayLeaveClosing c image

  -- the two files hold one of the stores that a crash may leave
  pub record HoldsOneLeft (c : Held (FileStore D g)) (image : Image) : Type 0 where
    pub trees : Trees
    pub may : (file_state c).may_leave trees
    pub same : IsDatabase (record { schema = store_schema; trees = trees }) → Holds image (record { schema = store_schema; trees = trees })
    pub holds : (e : Entries) → IsStored trees e → HoldsStore image e

  -- Whatever a crash leaves of the files of a store that stood for this state is that state's store
  -- again. Of the files themselves that is so where their trees are numbered, as they are while
  -- their connection holds them.
  pub record KeepsState (last : FileStore D g) (e : Entries) : Type 0 where
    pub trees : (trees : Trees) → store.recovers last trees → IsStored trees e
    pub files : IsClean (store.view last) → IsTrue (store.view last).is_numbered → (image : Image)
        → (store.state last).may_leave image → ∥ HoldsStore image e ∥₁

  -- What a crash may leave of the files in a database's open that was refused, or after it. Of a
  -- store that it had made that is said where its trees are numbered.
  abbrev pub MayLeaveRefused : Leftover D g → Image → Type 0
  MayLeaveRefused (left.Files files) image = outcomes g files.log files.db image
  MayLeaveRefused (left.Unopened files) image = (state_of files).may_leave image
  MayLeaveRefused (left.Store it) image = IsTrue (store.view it).is_numbered × (store.state it).may_leave image

-- a database that the files hold has no sums at the ends of its pages, as none has that was made here
abbrev pub HasNoSums : Image → Type 0
HasNoSums image = (db : Trees) (held : HoldsDatabase image db) → is_summed held.0 ≡ false

-- Files that held the image were opened, and a crash cut the run off before its first command, also
-- while the tables were made; or none could be made. Then they may read as the other. What `adopt`
-- says of it is known.
pub record IsCutOff {D : Type 0} (g : Ghosts D) (image other : Image) : Type 0 where
  pub found : Held (FileStore D g)
  pub now : Held (FileStore D g)
  pub there : IsFoundIn image found
  pub survives : Survives (file_state found) (file_state now) (MakesEmpty (file_state found))
  pub clean : HasCleanDisk (file_state now)
  pub left : AreLeft now other

-- An open of files that held the image was refused, or a crash cut it off, and they hold the other
-- then. What the database's open left is known, and what they held has no sums.
pub record IsRefusedOpen {D : Type 0} (g : Ghosts D) (image other : Image) : Type 0 where
  pub leftover : Leftover D g
  pub error : Error
  pub unopened : IsUnopened image (Some leftover) error
  pub clean : IsCleanLeft leftover
  pub plain : HasNoSums image
  pub may : MayLeaveRefused leftover other
