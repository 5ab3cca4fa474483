-- What comes of a task and of a look, by what opening the file gave.
use Rattle.std.specs.Prelude.{◌≡◌, ℕ, Option, None, Some, Result, Ok, Err, ⊤}
use Rattle.sqlite.specs.State.{State, Survives}
use Rattle.part_store.specs.declared.looking.Unopened.{Unopened}
use Rattle.depot_actions.specs.Applying.{MayAdd}
use Rattle.depot_actions.specs.DepotState.{Command}
use Rattle.devices.specs.Device.{Output}
use Rattle.refusals.specs.declared.refusal.Refusal.{Refusal}
use Rattle.refusals.specs.declared.refusal.Refusal.TheVariants.{Memory, Database}
use Rattle.depot_cli.specs.Looking.{HasLooked, HasSaidWhy}
use Rattle.depot_jobs.specs.Jobs.{HasTold}
use Rattle.depot_cli.specs.NoDepots.{no_depot_of}
use Rattle.depot_cli.specs.Tasks.{HasPerformed, store_and_outputs}
use Rattle.depot_cli.specs.declared.looks.Look.{Look}
use Rattle.depot_cli.specs.declared.looks.Look.TheVariants.{Inspect, Scrub}
use Rattle.depot_cli.specs.declared.no_depot.NoDepot.{NoDepot}

-- ---- tasks

-- A task was carried to what opening gave, with this status: it was performed on what was opened, which
-- is open still; or the refusal of opening was told, with status 1.
abbrev pub IsCarried :
    {H : Type 0} → (H → H → Type 0) → ℕ → Result H Refusal → Result H Refusal
    → Output → Output → Output → Output → Type 0
IsCarried Performed status (Ok old) (Ok new) out err out2 err2 = Performed old new
IsCarried Performed status (Err refusal) (Err same) out err out2 err2 =
    (same ≡ refusal) × (status ≡ 1) × HasTold refusal err err2 × (out2 ≡ out)
IsCarried Performed status opened left out err out2 err2 = ⊥

-- the same of a depot
abbrev pub HasCarried :
    {H : Type 0} → (H → State) → Command → ℕ → Result H Refusal → Result H Refusal
    → Output → Output → Output → Output → Type 0
HasCarried store command status opened left out err out2 err2 =
    IsCarried (λ old new. HasPerformed command status (store_and_outputs (store old) out err) (store_and_outputs (store new) out2 err2))
    status opened left out err out2 err2

-- what a crash may leave of the depot, where one was opened: what it could leave before, or what the
-- command makes of it
abbrev pub OutlastsCarrying :
    {H : Type 0} → (H → State) → Command → Result H Refusal → Result H Refusal → Type 0
OutlastsCarrying store command (Ok old) (Ok new) =
    Survives (store old) (store new) (MayAdd command (store old))
OutlastsCarrying store command opened left = ⊤

-- ---- looks

-- why a file is no depot was written by an inspection, and `Database` told by a scrub; or the refusal was
-- told where that can't be known for want of memory
abbrev pub HasToldWhy : Look → Option NoDepot → Output → Output → Output → Output → Type 0
HasToldWhy look None out err out2 err2 = HasTold Memory err err2 × (out2 ≡ out)
HasToldWhy (Inspect log) (Some reason) out err out2 err2 = HasSaidWhy reason out err out2 err2
HasToldWhy Scrub (Some reason) out err out2 err2 = HasTold Database err err2 × (out2 ≡ out)

-- What opening a file as it is gave was looked at, with this status: the depot, which is open still; or
-- it was told why there is none, with status 1.
abbrev pub HasReported :
    {H : Type 0} → (H → State) → Look → ℕ → Result H Unopened → Result H Unopened
    → Output → Output → Output → Output → Type 0
HasReported store look status (Ok old) (Ok new) out err out2 err2 =
    HasLooked look status (store_and_outputs (store old) out err) (store_and_outputs (store new) out2 err2)
HasReported store look status (Err why) (Err same) out err out2 err2 =
    (same ≡ why) × (status ≡ 1) × HasToldWhy look (no_depot_of why) out err out2 err2
HasReported store look status opened left out err out2 err2 = ⊥

-- a crash leaves nothing of the depot that it couldn't leave before
abbrev pub OutlastsReporting :
    {H : Type 0} → (H → State) → Result H Unopened → Result H Unopened → Type 0
OutlastsReporting store (Ok old) (Ok new) = Survives (store old) (store new) (λ _. ⊥)
OutlastsReporting store opened left = ⊤
