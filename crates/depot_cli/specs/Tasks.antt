-- What performing a task does.
use Rattle.std.specs.Prelude.{◌≡◌, ◌≢◌, ◌⊎◌, ℕ}
use Rattle.sqlite.specs.State.{HasCleanDisk, State}
use Rattle.part_store.specs.Standing.{LeavesUnchanged}
use Rattle.depot_actions.specs.Applying.{HasFault}
use Rattle.depot_actions.specs.Causes.{HasCause, IsExport, MayRefuse}
use Rattle.depot_actions.specs.DepotState.{Command, Does, Reply}
use Rattle.devices.specs.Device.{HasBegun, HasBroken, HasTaken, Output}
use Rattle.refusals.specs.declared.refusal.Refusal.{Refusal}
use Rattle.refusals.specs.declared.refusal.Refusal.TheVariants.{Memory, Write}
use Rattle.depot_jobs.specs.Jobs.{HasTold}
use Rattle.depot_cli.specs.Printed.{Tells, reply_text, text_in}
use Rattle.depot_cli.specs.declared.task.Reply.{Reply as Replied}

-- ---- what performing does

-- what a task works with: the store of the depot, standard output and standard error
pub record StoreAndOutputs : Type 1 where
  pub store : State
  pub out : Output
  pub err : Output

abbrev pub store_and_outputs : State → Output → Output → StoreAndOutputs
store_and_outputs store out err = record { store = store; out = out; err = err }

-- the depot did the command with this reply, as long as its disk returns what was written
abbrev pub HasDone : Command → Reply → State → State → Type 0
HasDone command reply old new = HasCleanDisk new → Does command reply old new

-- the depot did the command, and the code's reply tells its reply, and is printed as that is
abbrev pub HasAnswered : Command → Replied → State → State → Type 0
HasAnswered command told old new =
    (reply : Reply) × HasDone command reply old new × (text_in told ≡ reply_text command reply) × Tells command reply told

-- The depot refused the command by a refusal that this command may get, whatever the disk does. As
-- long as the disk returns what was written, the refusal has its cause, and the depot is as it was.
abbrev pub HasRefused : Command → Refusal → State → State → Type 0
HasRefused command refusal old new =
    MayRefuse command refusal
    × (HasCleanDisk new → HasCause refusal command old × HasFault command old new refusal × LeavesUnchanged old new)

-- ---- what comes of a command, by when it was done with a reply, and when it was refused

module _ (Done : Reply → Type 0) (Refused : Refusal → Type 0) (command : Command) (out err out2 err2 : Output) where
  -- it was done, and its reply was written whole
  abbrev pub IsReplied : Type 0
  IsReplied = (reply : Reply) × Done reply × HasTaken (reply_text command reply) out out2 × (err2 ≡ err)

  -- or broke off, which the command outlasts
  abbrev pub IsBrokenOff : Type 0
  IsBrokenOff = (reply : Reply) × Done reply × HasBroken (reply_text command reply) out out2 × HasTold Write err err2

  -- or memory was refused for the next piece of an export, of which the first were written
  abbrev pub IsRunOut : Type 0
  IsRunOut =
      IsExport command × (reply : Reply) × Done reply × HasBegun (reply_text command reply) out out2
      × HasTold Memory err err2

  -- it was refused, which was told, and nothing else was written; of an export that is none of Write, which has no cause
  -- in any other command
  abbrev pub IsDeclined : Type 0
  IsDeclined =
      (refusal : Refusal) × (IsExport command → refusal ≢ Write) × Refused refusal × HasTold refusal err err2
      × (out2 ≡ out)

  -- it was performed, with this status: 0 for a reply that was written whole, else 1
  abbrev pub IsPerformed : ℕ → Type 0
  IsPerformed status = ((status ≡ 0) × IsReplied) ⊎ ((status ≡ 1) × (IsBrokenOff ⊎ IsRunOut ⊎ IsDeclined))

-- a command was performed on a depot, with this status
abbrev pub HasPerformed : Command → ℕ → StoreAndOutputs → StoreAndOutputs → Type 0
HasPerformed command status old new =
    IsPerformed (λ reply. HasDone command reply old.store new.store) (λ refusal. HasRefused command refusal old.store new.store)
    command old.out old.err new.out new.err status
