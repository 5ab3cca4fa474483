-- What saving a user's program answers, and what it leaves of the depot's files, from the open to the close.
use Rattle.std.specs.Prelude.{◌≡◌, ◌⊎◌, ℕ, List, length, Option, None, Some, Result}
use Rattle.sqlite_disk.specs.declared.Disk.{Ghosts}
use Rattle.sqlite_disk.specs.declared.Files.{Files}
use Rattle.sqlite.specs.declared.FileStore.{FileStore}
use Rattle.sqlite.specs.Recovery.{Image}
use Rattle.part_store.specs.Entries.{Entries}
use Rattle.part_store.specs.Opening.{HoldsState}
use Rattle.refusals.specs.declared.refusal.Refusal.{Refusal}
use Rattle.refusals.specs.declared.refusal.Refusal.TheVariants.{NoSuchEntry, Write}
use Rattle.devices.specs.Device.{HasBroken, HasTaken}
use Rattle.depot_actions.specs.DepotState.{Accepts, Program, ProgramOf}
use Rattle.depot_jobs.specs.Host.{HasMade, HasNotMade}
use Rattle.depot_jobs.specs.Jobs.{HasTold, HostAndOutputs}
use Rattle.printing.specs.Printed.{line, wrote_text}
use Rattle.depot_cli.specs.declared.saving.Saving.{Saving}
use Rattle.depot.specs.Ending.{EndsSo, IsRefusedBy, IsUnopened}

-- whose program was to be saved, and where; the status; and the host, standard output and standard error
-- before it and after it
pub record Save : Type 0 where
  pub saving : Saving
  pub status : ℕ
  pub old : HostAndOutputs
  pub new : HostAndOutputs

abbrev pub save_of : Saving → ℕ → HostAndOutputs → HostAndOutputs → Save
save_of saving status old new = record { saving = saving; status = status; old = old; new = new }

-- the depot tells the user's program, if he has one
abbrev pub Tells : Save → Entries → Option (List ℕ) → Type 0
Tells it state program = Accepts state (ProgramOf it.saving.user.now) (Program program) state

-- how many octets the file has was written, with status 0, or that broke off, with status 1
abbrev pub IsPrinted : Save → List ℕ → Type 0
IsPrinted it program =
    ((it.status ≡ 0) × HasTaken (line (wrote_text (length program))) it.old.out it.new.out
    × (it.new.err ≡ it.old.err))
    ⊎ ((it.status ≡ 1) × HasBroken (line (wrote_text (length program))) it.old.out it.new.out
    × HasTold Write it.old.err it.new.err)

-- the user has a program, which was made the file
abbrev pub HasSaved : Save → Entries → Type 0
HasSaved it state =
    (program : List ℕ) × Tells it state (Some program)
    × HasMade it.saving.out.now it.saving.name.now program it.old.host it.new.host × IsPrinted it program

-- of files that held the image, of which this is left
module _ {D : Type 0} {g : Ghosts D} (image : Image) (left : Result (Files D) (FileStore D g)) where
  -- No file was made: the user has no program, the depot refuses to tell it, or the file of the program
  -- could not be made.
  abbrev pub IsUnsaved : Save → Entries → Refusal → Type 0
  IsUnsaved it state refusal =
      ((refusal ≡ NoSuchEntry) × Tells it state None × (it.new.host ≡ it.old.host))
      ⊎ ((IsRefusedBy left image (ProgramOf it.saving.user.now) state refusal × (it.new.host ≡ it.old.host))
      ⊎ ((program : List ℕ) × Tells it state (Some program)
      × HasNotMade refusal it.saving.out.now it.saving.name.now it.old.host it.new.host))

  -- and that was told, with status 1
  abbrev pub HasNotSaved : Save → Entries → Type 0
  HasNotSaved it state =
      (refusal : Refusal) × IsUnsaved it state refusal × (it.status ≡ 1) × HasTold refusal it.old.err it.new.err
      × (it.new.out ≡ it.old.out)

  -- one of the two, and the state stays
  abbrev pub IsAnswered : Save → Entries → Entries → Type 0
  IsAnswered it before after = (after ≡ before) × (HasSaved it before ⊎ HasNotSaved it before)

-- saving ended, by the refusals that opening the files gave, and by what is left of them; they held the
-- image, and whatever the close does, they stand for the same state
abbrev pub HasEnded : {D : Type 0} {g : Ghosts D} → Save → (Refusal → Type 0) → Image → Option (Result (Files D) (FileStore D g)) → Type 0
HasEnded {D} {g} it Gave image left =
    EndsSo g (λ left. IsAnswered image left it) (λ left before after answered held. held ≡ before)
    (IsUnopened Gave it.status it.old.out it.old.err it.new.out it.new.err × (it.new.host ≡ it.old.host))
    (HoldsState image) left
