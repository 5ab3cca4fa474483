-- What a task answers, and what it leaves of its depot's files, from the open to the close.
use Rattle.std.specs.Prelude.{◌≡◌, ◌≢◌, ◌⊎◌, ℕ, Option, Result}
use Rattle.sqlite_disk.specs.declared.Disk.{Ghosts}
use Rattle.sqlite_disk.specs.declared.Files.{Files}
use Rattle.sqlite.specs.declared.FileStore.{FileStore}
use Rattle.sqlite.specs.Recovery.{Image}
use Rattle.part_store.specs.Entries.{Entries}
use Rattle.part_store.specs.Opening.{HoldsState}
use Rattle.refusals.specs.declared.refusal.Refusal.{Refusal}
use Rattle.refusals.specs.declared.refusal.Refusal.TheVariants.{Memory, Write}
use Rattle.devices.specs.Device.{HasBegun, HasBroken, HasTaken, Output}
use Rattle.depot_actions.specs.Causes.{IsExport}
use Rattle.depot_actions.specs.DepotState.{Accepts, Command, Reply}
use Rattle.depot_jobs.specs.Jobs.{HasTold}
use Rattle.depot_cli.specs.Printed.{reply_text}
use Rattle.depot.specs.Ending.{EndsSo, IsRefusedBy, IsToldAs, IsUnopened}

-- a task's command, the status that it ends with, and standard output and standard error before it
-- and after it
pub record Answer : Type 0 where
  pub command : Command
  pub status : ℕ
  pub out : Output
  pub err : Output
  pub out_after : Output
  pub err_after : Output

abbrev pub answer : Command → ℕ → Output → Output → Output → Output → Answer
answer command status out err out_after err_after =
    record { command = command; status = status; out = out; err = err; out_after = out_after; err_after = err_after }

-- the reply was written whole, with status 0
abbrev pub IsPrinted : Answer → Reply → Type 0
IsPrinted it reply = (it.status ≡ 0) × HasTaken (reply_text it.command reply) it.out it.out_after × (it.err_after ≡ it.err)

-- Or it broke off, with status 1: where standard output failed, or memory was refused for the next
-- piece of an export. That was told.
abbrev pub IsBrokenOff : Answer → Reply → Type 0
IsBrokenOff it reply = (it.status ≡ 1)
    × ((HasBroken (reply_text it.command reply) it.out it.out_after × HasTold Write it.err it.err_after)
    ⊎ (IsExport it.command × HasBegun (reply_text it.command reply) it.out it.out_after × HasTold Memory it.err it.err_after))

-- The command came from the state before to the one after: the depot accepts it with a reply, which was
-- printed, or broke off; or the depot that was found in files that held the image refuses it, an export
-- not as `Write`, which was told, and the state stays.
abbrev pub IsAnswered : {D : Type 0} {g : Ghosts D} → Answer → Image → Result (Files D) (FileStore D g) → Entries → Entries → Type 0
IsAnswered it image left before after =
    ((reply : Reply) × Accepts before it.command reply after × (IsPrinted it reply ⊎ IsBrokenOff it reply))
    ⊎ ((refusal : Refusal) × IsRefusedBy left image it.command before refusal × (IsExport it.command → refusal ≢ Write)
    × (after ≡ before) × IsToldAs refusal it.status it.out it.err it.out_after it.err_after)

-- Files whose close failed or was cut off stand for the state that was answered. Where the command
-- changed nothing, as one that was refused, they may stand for what it makes of the state, too.
abbrev pub IsKept : Command → Entries → Entries → Entries → Type 0
IsKept command before after held =
    (held ≡ after) ⊎ ((after ≡ before) × (reply : Reply) × Accepts before command reply held)

-- a task ended, by the refusals that opening its files gave, and by what is left of them; they held
-- the image
abbrev pub HasEnded : {D : Type 0} {g : Ghosts D} → Answer → (Refusal → Type 0) → Image → Option (Result (Files D) (FileStore D g)) → Type 0
HasEnded {D} {g} it Gave image left =
    EndsSo g (IsAnswered it image) (λ left before after answered held. IsKept it.command before after held)
    (IsUnopened Gave it.status it.out it.err it.out_after it.err_after) (HoldsState image) left
