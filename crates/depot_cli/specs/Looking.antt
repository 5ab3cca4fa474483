-- What a look at a file does.
use Rattle.std.specs.Prelude.{◌≡◌, ◌⊎◌, ℕ, IsTrue, MatchOption, Option, None, Some, ◌==◌, if◌then◌else◌}
use Rattle.sqlite.specs.State.{HasCleanDisk, State}
use Rattle.sqlite_trees.specs.Tree.{Trees}
use Rattle.part_store.specs.Entries.{Entries}
use Rattle.part_store.specs.Refusals.{AreNamed}
use Rattle.part_store.specs.Scrubbing.{IsScrubbed}
use Rattle.part_store.specs.Standing.{LeavesUnchanged, Stands}
use Rattle.devices.specs.Device.{HasBroken, HasTaken, Output}
use Rattle.depot_actions.specs.Causes.{IsStoreFault, IsUncounted}
use Rattle.depot_actions.specs.Overviews.{IsOverview}
use Rattle.refusals.specs.declared.refusal.Refusal.{Refusal}
use Rattle.refusals.specs.declared.refusal.Refusal.TheVariants.{Memory, Database, Write}
use Rattle.depot_jobs.specs.Jobs.{HasTold}
use Rattle.depot_cli.specs.Printed.{no_depot_text, seen_text}
use Rattle.depot_cli.specs.Tasks.{StoreAndOutputs}
use Rattle.depot_cli.specs.declared.looks.Look.{Look}
use Rattle.depot_cli.specs.declared.looks.Look.TheVariants.{Inspect, Scrub}
use Rattle.depot_cli.specs.declared.looks.Seen.{Seen}
use Rattle.depot_cli.specs.declared.looks.Seen.TheVariants.{Overview, Scrubbed}
use Rattle.depot_cli.specs.declared.no_depot.NoDepot.{NoDepot}

-- what the look asks for is this, of these tables, which stand for this state
abbrev pub IsSeenBy : Look → Trees → Entries → Seen → Type 0
IsSeenBy (Inspect log) trees state (Overview was x) = (was ≡ log) × IsOverview trees state x
IsSeenBy (Inspect log) trees state (Scrubbed x) = ⊥
IsSeenBy Scrub trees state (Overview was x) = ⊥
IsSeenBy Scrub trees state (Scrubbed x) = IsScrubbed trees state x

-- the depot told it, and holds what it held, as long as its disk returns what was written
abbrev pub HasSeen : Look → Seen → State → State → Type 0
HasSeen look x old new =
    HasCleanDisk new → IsTrue old.is_open
    × ((before : Entries) → Stands old.now before → IsSeenBy look old.now.trees before x) × LeavesUnchanged old new

-- Or memory was refused, or the database failed, which has a cause where the users of the tables are
-- texts; the depot is as it was.
abbrev pub HasNotSeen : Refusal → State → State → Type 0
HasNotSeen refusal old new =
    ((refusal ≡ Memory) ⊎ (refusal ≡ Database))
    × (HasCleanDisk new → (AreNamed old.now.trees → IsStoreFault IsUncounted old new refusal) × LeavesUnchanged old new)

-- the refusal that goes with what was seen, if a content is damaged
abbrev pub refusal_with : Seen → Option Refusal
refusal_with (Overview log x) = None
refusal_with (Scrubbed x) = if x.damaged == 0 then None else Some Database

-- What was seen was written whole, with status 0; or with status 1 and the refusal that goes with it. Or
-- it broke off, with status 1.
abbrev pub IsShown : Seen → ℕ → Output → Output → Output → Output → Type 0
IsShown x status out err out2 err2 =
    (HasTaken (seen_text x) out out2
    × MatchOption (refusal_with x) ((status ≡ 0) × (err2 ≡ err)) (λ refusal. (status ≡ 1) × HasTold refusal err err2))
    ⊎ ((status ≡ 1) × HasBroken (seen_text x) out out2 × HasTold Write err err2)

-- a depot was looked at with this status: what was seen was shown, or the refusal was told and nothing
-- else written
abbrev pub HasLooked : Look → ℕ → StoreAndOutputs → StoreAndOutputs → Type 0
HasLooked look status old new =
    ((x : Seen) × HasSeen look x old.store new.store × IsShown x status old.out old.err new.out new.err)
    ⊎ ((status ≡ 1) × (refusal : Refusal) × HasNotSeen refusal old.store new.store × HasTold refusal old.err new.err
    × (new.out ≡ old.out))

-- why a file is no depot was written, or the sink broke while it was
abbrev pub HasSaidWhy : NoDepot → Output → Output → Output → Output → Type 0
HasSaidWhy reason out err out2 err2 =
    (HasTaken (no_depot_text reason) out out2 × (err2 ≡ err))
    ⊎ (HasBroken (no_depot_text reason) out out2 × HasTold Write err err2)
