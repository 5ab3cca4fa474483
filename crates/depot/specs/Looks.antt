-- What a look at a depot answers, and what it leaves of its files, from the open to the close.
use Rattle.std.specs.Prelude.{◌≡◌, ◌⊎◌, ℕ, None, Option, Result}
use Rattle.sqlite_disk.specs.declared.Disk.{Ghosts}
use Rattle.sqlite_disk.specs.declared.Files.{Files}
use Rattle.sqlite.specs.declared.FileStore.{FileStore}
use Rattle.sqlite.specs.Files.{file_state}
use Rattle.sqlite.specs.Held.{Held}
use Rattle.sqlite.specs.Recovery.{Image}
use Rattle.part_store.specs.Entries.{Entries}
use Rattle.part_store.specs.Opening.{HoldsStore, IsAt, IsFoundIn, IsUnseen}
use Rattle.part_store.specs.Refusals.{AreNamed}
use Rattle.part_store.specs.declared.looking.Unopened.{Unopened}
use Rattle.refusals.specs.declared.refusal.Refusal.{Refusal}
use Rattle.refusals.specs.declared.refusal.Refusal.TheVariants.{Memory, Database}
use Rattle.devices.specs.Device.{Output}
use Rattle.depot_actions.specs.Causes.{IsStoreFault, IsUncounted}
use Rattle.depot_jobs.specs.Jobs.{HasTold}
use Rattle.depot_cli.specs.Carrying.{HasToldWhy}
use Rattle.depot_cli.specs.Looking.{IsSeenBy, IsShown}
use Rattle.depot_cli.specs.NoDepots.{no_depot_of}
use Rattle.depot_cli.specs.declared.looks.Look.{Look}
use Rattle.depot_cli.specs.declared.looks.Seen.{Seen}
use Rattle.depot.specs.Ending.{EndsSo, HasCounted}

-- the look, the status that it ends with, and standard output and standard error before it and after it
pub record Answer : Type 0 where
  pub look : Look
  pub status : ℕ
  pub out : Output
  pub err : Output
  pub out_after : Output
  pub err_after : Output

abbrev pub answer : Look → ℕ → Output → Output → Output → Output → Answer
answer look status out err out_after err_after =
    record { look = look; status = status; out = out; err = err; out_after = out_after; err_after = err_after }

-- of files that held the image, of which this is left
module _ {D : Type 0} {g : Ghosts D} (image : Image) (left : Result (Files D) (FileStore D g)) where
  -- what a look asks of a depot at this state, by the tables that it has, as they were found in the files
  abbrev pub IsOf : Look → Entries → Seen → Type 0
  IsOf look state x = (depot : Held (FileStore D g)) × IsFoundIn image depot × IsAt state (file_state depot)
      × IsSeenBy look (file_state depot).now.trees state x

  -- A depot at this state, which was found in the files, can't be told: memory was refused; or `Database`,
  -- which has its cause where the users of the tables are texts. It has no limit of steps, and each fault
  -- that is counted after the call was counted by what is left of the files.
  pub record IsUntold (state : Entries) (refusal : Refusal) : Type 0 where
    pub which : (refusal ≡ Memory) ⊎ (refusal ≡ Database)
    pub depot : Held (FileStore D g)
    pub found : IsFoundIn image depot
    pub at : IsAt state (file_state depot)
    pub unlimited : (file_state depot).step_limit ≡ None
    pub after : Held (FileStore D g)
    pub fault : AreNamed (file_state depot).now.trees
        → IsStoreFault IsUncounted (file_state depot) (file_state after) refusal
    pub counted : HasCounted (file_state after).faults left

  -- that was told, or why it can't be, with status 1; and the state stays
  abbrev pub IsAnswered : Answer → Entries → Entries → Type 0
  IsAnswered it before after =
      (after ≡ before)
      × (((x : Seen) × IsOf it.look before x × IsShown x it.status it.out it.err it.out_after it.err_after)
      ⊎ ((refusal : Refusal) × IsUntold before refusal × (it.status ≡ 1) × HasTold refusal it.err it.err_after
      × (it.out_after ≡ it.out)))

-- Files that held the image weren't opened: opening them gave such a refusal, for the cause that a look
-- has, and this was told, with status 1.
abbrev pub IsToldWhy : {D : Type 0} → Ghosts D → Answer → (Unopened → Type 0) → Image → Type 0
IsToldWhy g it Gave image = (why : Unopened) × Gave why × IsUnseen g image why × (it.status ≡ 1)
    × HasToldWhy it.look (no_depot_of why) it.out it.err it.out_after it.err_after

-- a look ended, by the refusals that opening the files gave, and by what is left of them; they held the
-- image, and whatever the close does, they stand for the same state
abbrev pub HasEnded : {D : Type 0} {g : Ghosts D} → Answer → (Unopened → Type 0) → Image → Option (Result (Files D) (FileStore D g)) → Type 0
HasEnded {D} {g} it Gave image left =
    EndsSo g (λ left. IsAnswered image left it) (λ left before after answered held. held ≡ before)
    (IsToldWhy g it Gave image) (HoldsStore image) left
