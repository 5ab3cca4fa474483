-- What tasks on volumes do: all volumes together answer as one depot.
use Rattle.std.specs.Prelude.{◌≡◌, ◌⊎◌, ℕ, List, Option, Result}
use Rattle.devices.specs.Device.{Output}
use Rattle.refusals.specs.declared.refusal.Refusal.{Refusal}
use Rattle.depot_actions.specs.Causes.{MayRefuse}
use Rattle.depot_actions.specs.DepotState.{Command, Program, ProgramOf, Reply}
use Rattle.volumes.specs.Applying.{FromAll, HasCauseIn, KeepsWhole, StepsAs}
use Rattle.volumes.specs.Holding.{Holding, IsFailure}
use Rattle.volumes.specs.Volumes.{whole}
use Rattle.depot_jobs.specs.Jobs.{HostAndOutputs}
use Rattle.depot_cli.specs.Carrying.{IsCarried}
use Rattle.depot_cli.specs.Printed.{Tells, reply_text, text_in}
use Rattle.depot_cli.specs.Saving.{IsNotSaved, IsSaved, IsServed}
use Rattle.depot_cli.specs.Tasks.{IsPerformed}
use Rattle.depot_cli.specs.declared.saving.Saving.{Saving}
use Rattle.depot_cli.specs.declared.task.Reply.{Reply as Replied}

module _ {V : Type 0} (k : Holding V) where
  -- The command is, with this reply, a step of what all volumes hold together. If no depot is shut by a failure, none was.
  abbrev pub DoesOnVolumes : Command → V → V → Reply → Type 0
  DoesOnVolumes command old new reply = StepsAs k old new command reply × (k.is_sound new → k.is_sound old)

  -- The command was refused: by a refusal that it may get, or because the volumes can't be opened, read or begun. What
  -- they hold together is as it was, and where the command's own refusal needs a cause in that, it has it.
  abbrev pub RefusesOnVolumes : Command → V → V → Refusal → Type 0
  RefusesOnVolumes command old new refusal =
      (MayRefuse command refusal ⊎ IsFailure refusal)
      × FromAll k old new (λ before. HasCauseIn refusal command (whole before)) × KeepsWhole k old new

  -- the command was done, and the code's reply tells its reply, and is printed as that is
  abbrev pub AnswersOnVolumes : Command → V → V → Replied → Type 0
  AnswersOnVolumes command old new told =
      (reply : Reply) × DoesOnVolumes command old new reply × (text_in told ≡ reply_text command reply) × Tells command reply told

  -- a command was performed, with this status
  abbrev pub PerformsOnVolumes : Command → ℕ → V → V → Output → Output → Output → Output → Type 0
  PerformsOnVolumes command status old new out err out2 err2 =
      IsPerformed (DoesOnVolumes command old new) (RefusesOnVolumes command old new) command out err out2 err2 status

  -- a task was carried to what opening volumes gave, with this status
  abbrev pub CarriesOnVolumes : Command → ℕ → Result V Refusal → Result V Refusal → Output → Output → Output → Output → Type 0
  CarriesOnVolumes command status opened left out err out2 err2 =
      IsCarried (λ old new. PerformsOnVolumes command status old new out err out2 err2) status opened left out err out2 err2

  -- ---- a program that is saved

  -- the user's program, if he has one, is what the newest volume has
  abbrev pub GivesOnVolumes : Saving → V → V → Option (List ℕ) → Type 0
  GivesOnVolumes saving old new program = DoesOnVolumes (ProgramOf saving.user.now) old new (Program program)

  abbrev pub WithholdsOnVolumes : Saving → V → V → Refusal → Type 0
  WithholdsOnVolumes saving old new refusal = RefusesOnVolumes (ProgramOf saving.user.now) old new refusal

  -- what opening volumes gave was asked for it: it was saved, or was not
  abbrev pub ServesOnVolumes : Saving → ℕ → Result V Refusal → Result V Refusal → HostAndOutputs → HostAndOutputs → Type 0
  ServesOnVolumes saving status opened left old new =
      IsServed (λ was is. IsSaved (GivesOnVolumes saving was is) (WithholdsOnVolumes saving was is) saving status old new
      ⊎ IsNotSaved (GivesOnVolumes saving was is) (WithholdsOnVolumes saving was is) saving status old new)
      status opened left old new
