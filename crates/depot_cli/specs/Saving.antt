-- What saving a user's program does.
use Rattle.std.specs.Prelude.{◌≡◌, ◌⊎◌, ℕ, List, length, Option, None, Some, Result, Ok, Err, ⊤}
use Rattle.sqlite.specs.State.{HasCleanDisk, State, Survives}
use Rattle.part_store.specs.Standing.{LeavesUnchanged}
use Rattle.depot_actions.specs.DepotState.{Does, Program, ProgramOf}
use Rattle.devices.specs.Device.{HasBroken, HasTaken}
use Rattle.refusals.specs.declared.refusal.Refusal.{Refusal}
use Rattle.refusals.specs.declared.refusal.Refusal.TheVariants.{NoSuchEntry, Write}
use Rattle.depot_jobs.specs.Host.{HasMade, HasNotMade, HostState}
use Rattle.depot_jobs.specs.Jobs.{HasTold, HostAndOutputs}
use Rattle.printing.specs.Printed.{line, wrote_text}
use Rattle.depot_cli.specs.Tasks.{HasRefused}
use Rattle.depot_cli.specs.declared.saving.Saving.{Saving}

-- ---- what comes of saving, by when the user's program, if he has one, was given, and when it was withheld

module _ (Gave : Option (List ℕ) → Type 0) (Withheld : Refusal → Type 0) (saving : Saving) where
  -- the user has this program, and it was made the file
  abbrev pub IsSavedFile : List ℕ → HostState → HostState → Type 0
  IsSavedFile program host host2 = Gave (Some program) × HasMade saving.out.now saving.name.now program host host2

  -- No file was made: the user has no program, it was withheld, or the file of the program could not be made.
  abbrev pub IsNoFile : Refusal → HostState → HostState → Type 0
  IsNoFile refusal host host2 =
      ((refusal ≡ NoSuchEntry) × Gave None × (host2 ≡ host))
      ⊎ ((Withheld refusal × (host2 ≡ host))
      ⊎ ((program : List ℕ) × Gave (Some program) × HasNotMade refusal saving.out.now saving.name.now host host2))

  -- the program was saved, and how many octets it has was written, or that broke off
  abbrev pub IsSaved : ℕ → HostAndOutputs → HostAndOutputs → Type 0
  IsSaved status old new =
      (program : List ℕ) × IsSavedFile program old.host new.host
      × (((status ≡ 0) × HasTaken (line (wrote_text (length program))) old.out new.out × (new.err ≡ old.err))
      ⊎ ((status ≡ 1) × HasBroken (line (wrote_text (length program))) old.out new.out × HasTold Write old.err new.err))

  -- the refusal was told, with status 1
  abbrev pub IsNotSaved : ℕ → HostAndOutputs → HostAndOutputs → Type 0
  IsNotSaved status old new =
      (refusal : Refusal) × IsNoFile refusal old.host new.host
      × (status ≡ 1) × HasTold refusal old.err new.err × (new.out ≡ old.out)

-- What opening gave was asked for the program, which ended so, and it is open still; or the refusal of opening was
-- told, with status 1.
abbrev pub IsServed :
    {H : Type 0} → (H → H → Type 0) → ℕ → Result H Refusal → Result H Refusal
    → HostAndOutputs → HostAndOutputs → Type 0
IsServed Ended status (Ok was) (Ok is) old new = Ended was is
IsServed Ended status (Err refusal) (Err same) old new =
    (same ≡ refusal) × (status ≡ 1) × HasTold refusal old.err new.err
    × (new.out ≡ old.out) × (new.host ≡ old.host)
IsServed Ended status opened left old new = ⊥

-- ---- from a depot

-- the depot told the user's program, if he has one, and holds that still, as long as its disk
-- returns what was written
abbrev pub HasGiven : List ℕ → Option (List ℕ) → State → State → Type 0
HasGiven user program old new =
    HasCleanDisk new → Does (ProgramOf user) (Program program) old new × LeavesUnchanged old new

-- the same of the user whose program is saved
abbrev pub Gives : Saving → State → State → Option (List ℕ) → Type 0
Gives saving old new program = HasGiven saving.user.now program old new

-- the depot refused to tell it, and holds what it held
abbrev pub Withholds : Saving → State → State → Refusal → Type 0
Withholds saving old new refusal = HasRefused (ProgramOf saving.user.now) refusal old new

abbrev pub HasSaved : Saving → ℕ → State → State → HostAndOutputs → HostAndOutputs → Type 0
HasSaved saving status old new host_and_outputs world2 =
    IsSaved (Gives saving old new) (Withholds saving old new) saving status host_and_outputs world2

abbrev pub HasNotSaved : Saving → ℕ → State → State → HostAndOutputs → HostAndOutputs → Type 0
HasNotSaved saving status old new host_and_outputs world2 =
    IsNotSaved (Gives saving old new) (Withholds saving old new) saving status host_and_outputs world2

-- what opening a depot gave was asked for it: it was saved, or was not
abbrev pub HasServed :
    {H : Type 0} → (H → State) → Saving → ℕ → Result H Refusal → Result H Refusal
    → HostAndOutputs → HostAndOutputs → Type 0
HasServed store saving status opened left host_and_outputs world2 =
    IsServed (λ old new. HasSaved saving status (store old) (store new) host_and_outputs world2
    ⊎ HasNotSaved saving status (store old) (store new) host_and_outputs world2)
    status opened left host_and_outputs world2

-- a crash leaves nothing of the depot that it couldn't leave before
abbrev pub OutlastsSaving :
    {H : Type 0} → (H → State) → Result H Refusal → Result H Refusal → Type 0
OutlastsSaving store (Ok old) (Ok new) = Survives (store old) (store new) (λ _. ⊥)
OutlastsSaving store opened left = ⊤
