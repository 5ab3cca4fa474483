-- What is left of the two files of a depot that was opened, asked for something and closed.
use Rattle.std.specs.Prelude.{◌≡◌, ◌⊎◌, ◌<◌, ◌≤◌, ℕ, IsTrue, Option, None, Some, Result, Ok, Err}
use Rattle.sqlite_disk.specs.declared.Disk.{Ghosts}
use Rattle.sqlite_disk.specs.declared.Files.{Files}
use Rattle.sqlite_trees.specs.View.{IsClean}
use Rattle.sqlite.specs.declared.FileStore.{FileStore}
use Rattle.sqlite.specs.FileStore as store
use Rattle.sqlite.specs.Files.{file_state}
use Rattle.sqlite.specs.Held.{Held}
use Rattle.sqlite.specs.Recovery.{Image}
use Rattle.sqlite.specs.State.{HasCleanDisk}
use Rattle.sqlite.specs.WalReads.{AreClean}
use Rattle.part_store.specs.Entries.{Entries, no_entries}
use Rattle.part_store.specs.Opening.{HoldsNoTables, HoldsState, HoldsStore, IsAt, IsFoundIn, IsReadyFrom, IsUnseen, KeepsStore}
use Rattle.part_store.specs.declared.looking.Unopened.{Unopened}
use Rattle.refusals.specs.declared.refusal.Refusal.{Refusal}
use Rattle.refusals.specs.declared.refusal.Refusal.TheVariants.{Memory, Database}
use Rattle.devices.specs.Device.{Output}
use Rattle.depot_actions.specs.Applying.{HasFault}
use Rattle.depot_actions.specs.Causes.{HasCause, MayRefuse}
use Rattle.depot_actions.specs.DepotState.{Command}
use Rattle.depot_jobs.specs.Jobs.{HasTold}

-- ---- what opening gave

-- what opening files that held the image gave: a depot at the state that they stood for, or a refusal
abbrev pub IsFound : {D : Type 0} {g : Ghosts D} → Image → Result (Held (FileStore D g)) Refusal → Type 0
IsFound image (Ok depot) =
    IsReadyFrom image depot × ((file_state depot).step_limit ≡ None)
    × (HasCleanDisk (file_state depot) → (held : Entries) → HoldsStore image held → IsAt held (file_state depot))
    × (HasCleanDisk (file_state depot) → HoldsNoTables image → IsAt no_entries (file_state depot))
IsFound image (Err refusal) = (refusal ≡ Memory) ⊎ (refusal ≡ Database)

-- what opening them as they are gave
abbrev pub IsSeen : {D : Type 0} {g : Ghosts D} → Image → Result (Held (FileStore D g)) Unopened → Type 0
IsSeen image (Ok depot) =
    IsFoundIn image depot × ((file_state depot).step_limit ≡ None)
    × (HasCleanDisk (file_state depot) → (held : Entries) → HoldsStore image held → IsAt held (file_state depot))
IsSeen {D} {g} image (Err why) = IsUnseen g image why

-- ---- what is left

-- As many failed calls of the two files, and limits of the format that were met, had been counted when
-- they were let go of: by the store that had them, or has them still.
abbrev pub HasCounted : {D : Type 0} {g : Ghosts D} → ℕ → Result (Files D) (FileStore D g) → Type 0
HasCounted {D} {g} faults (Ok files) =
    (last : FileStore D g) × (store.files last ≡ (files.log, files.db)) × (faults ≤ store.faults last)
HasCounted faults (Err last) = faults ≤ store.faults last

-- Something was asked of a depot. By what is left of its files, by the state before it and the one after
-- it is said how that was answered, and which other state a close that failed, or that was cut off, may
-- keep.
module _ {D : Type 0} (g : Ghosts D) (Answered : Result (Files D) (FileStore D g) → Entries → Entries → Type 0)
    (Kept : (left : Result (Files D) (FileStore D g)) (old new : Entries) → Answered left old new → Entries → Type 0) where
  -- the files were closed, and hold the state after it, as they read now and after a crash
  abbrev pub HasClosed : Files D → Entries → Type 0
  HasClosed files before = (after : Entries) × Answered (Ok files) before after × KeepsStore g files after

  -- files that read so stand for a state that a close may keep
  abbrev pub HoldsKept : (last : FileStore D g) (before after : Entries) → Answered (Err last) before after → Image → Type 0
  HoldsKept last before after answered image =
      (held : Entries) × HoldsState image held × Kept (Err last) before after answered held

  -- their close failed or was cut off, and whatever a crash leaves of them stands for such a state
  abbrev pub HasNotClosed : FileStore D g → Entries → Type 0
  HasNotClosed last before =
      (after : Entries) × (answered : Answered (Err last) before after)
      × (IsTrue (store.view last).is_numbered → (image : Image) → (store.state last).may_leave image
      → ∥ HoldsKept last before after answered image ∥₁)

  -- By what is left of files that stood for such a state. Where that is nothing, opening them was
  -- refused, and that was told.
  abbrev pub EndsSo : Type 0 → (Entries → Type 0) → Option (Result (Files D) (FileStore D g)) → Type 0
  EndsSo Told Stood None = Told
  EndsSo Told Stood (Some (Ok files)) = AreClean g files.log files.db
      → (before : Entries) → Stood before → HasClosed files before
  EndsSo Told Stood (Some (Err last)) = IsClean (store.view last)
      → (before : Entries) → Stood before → HasNotClosed last before

-- ---- refusals

-- a refusal was told, with status 1, and nothing else was written
abbrev pub IsToldAs : Refusal → ℕ → Output → Output → Output → Output → Type 0
IsToldAs refusal status out err out_after err_after =
    (status ≡ 1) × HasTold refusal err err_after × (out_after ≡ out)

-- No depot was opened: opening the files gave such a refusal, for which no clause has a cause, and this
-- was told.
abbrev pub IsUnopened : (Refusal → Type 0) → ℕ → Output → Output → Output → Output → Type 0
IsUnopened Gave status out err out_after err_after =
    (refusal : Refusal) × Gave refusal × ((refusal ≡ Memory) ⊎ (refusal ≡ Database))
    × IsToldAs refusal status out err out_after err_after

module _ {D : Type 0} {g : Ghosts D} (left : Result (Files D) (FileStore D g)) where
  -- A depot that shows this state, as long as it is open, refuses the command so. The command may get the
  -- refusal, which has its cause in the depot; `Database` has one in how the call left it, too. A depot
  -- that isn't open had counted a fault, none has a limit of steps, and each fault that is counted after
  -- the call was counted by what is left of the files.
  pub record IsRefusal (command : Command) (before : Entries) (refusal : Refusal) : Type 0 where
    pub may : MayRefuse command refusal
    pub depot : Held (FileStore D g)
    pub shows : IsTrue (file_state depot).is_open → IsAt before (file_state depot)
    pub closed_by_failure : IsTrue (file_state depot).is_open ⊎ (0 < (file_state depot).faults)
    pub unlimited : (file_state depot).step_limit ≡ None
    pub cause : HasCause refusal command (file_state depot)
    pub after : Held (FileStore D g)
    pub fault : HasFault command (file_state depot) (file_state after) refusal
    pub counts : (file_state depot).faults ≤ (file_state after).faults
    pub counted : HasCounted (file_state after).faults left

  -- so does one that is open, and that was found in files that held the image
  abbrev pub IsRefusedBy : Image → Command → Entries → Refusal → Type 0
  IsRefusedBy image command before refusal =
      (why : IsRefusal command before refusal) × IsTrue (file_state why.depot).is_open × IsReadyFrom image why.depot
