-- Commands that are accepted all or none.
use Rattle.std.specs.Prelude.{◌≡◌, ◌⊎◌, ◌<◌, ℕ, IsTrue, List, [], ◌∷◌, ◌++◌, length, map, Some, Vec}
use Rattle.std.specs.declared.alloc.Global.{Global}
use Rattle.sqlite.specs.Effect.{Database}
use Rattle.sqlite.specs.State.{State}
use Rattle.sqlite_trees.specs.Tree.{Trees}
use Rattle.part_store.specs.Entries.{Entries}
use Rattle.part_store.specs.Refusals.{HasFailed}
use Rattle.part_store.specs.Standing.{IsStored, Stands, listed}
use Rattle.part_store.specs.declared.entry.EntryRow.{EntryRow}
use Rattle.refusals.specs.declared.refusal.Refusal.{Refusal}
use Rattle.refusals.specs.declared.refusal.Refusal.TheVariants as refusals
use Rattle.depot_actions.specs.Causes.{HasCause, IsHindered, MayRefuse}
use Rattle.depot_actions.specs.DepotState.{Command, Deliver, Leaves, Listed, Reply}
use Rattle.depot_actions.specs.History.{AreSteps, Call}
use Rattle.depot_actions.specs.declared.deliveries.Delivery.{Delivery}

-- what a delivery asks for
abbrev pub command_of : Delivery → Command
command_of delivery = Deliver delivery.user.now delivery.message.now

-- the rows of new entries, as a reply
abbrev pub reply_of : Vec EntryRow Global → Reply
reply_of rows = Listed (map listed rows.items)

-- commands with their replies, as calls
abbrev pub calls_of : List Command → List Reply → List Call
calls_of [] replies = []
calls_of (command ∷ commands) [] = []
calls_of (command ∷ commands) (reply ∷ replies) = record { command = command; reply = Some reply } ∷ calls_of commands replies

-- a depot that holds this accepts the commands one after another, each with its reply, and holds that afterwards
pub record AcceptsAll (before : Entries) (commands : List Command) (replies : List Reply) (after : Entries) : Type 0 where
  pub each : length replies ≡ length commands
  pub steps : AreSteps (calls_of commands replies) before after

-- ---- on a store

-- the store, which was open, does the commands with these replies
abbrev pub DoesAll : List Command → List Reply → State → State → Type 0
DoesAll commands replies old new =
    IsTrue old.is_open × ((before : Entries) → Stands old.now before
    → (after : Entries) × AcceptsAll before commands replies after × Leaves before after old new)

-- the store, which was open if there is a command, of what they all leave
abbrev pub MayLeaveAll : List Command → State → Trees → Type 0
MayLeaveAll commands old trees =
    (0 < length commands → IsTrue old.is_open) × ((before : Entries) → Stands old.now before
    → (replies : List Reply) × (after : Entries) × AcceptsAll before commands replies after × IsStored trees after)

-- where a database stands for a state, another stands for what the commands, all accepted, make of it
abbrev pub IsReached : List Command → Database → Database → Type 0
IsReached commands was is =
    (before : Entries) → Stands was before
    → (replies : List Reply) × (after : Entries) × AcceptsAll before commands replies after × Stands is after

-- ---- where all are refused

-- the command at a place of the list, which counts from 0
pub record IsAt (commands : List Command) (place : ℕ) (command : Command) : Type 0 where
  pub earlier : List Command
  pub later : List Command
  pub are : commands ≡ earlier ++ command ∷ later
  pub number : place ≡ length earlier

-- The command at the place is refused by the database that those before it, all accepted, have led to: for a cause that it has there
-- and, if that is `Database`, only where the store can't work or the command is hindered there.
pub record IsRefusedAt (commands : List Command) (place : ℕ) (refusal : Refusal) (old new : State) : Type 0 where
  pub command : Command
  pub at : IsAt commands place command
  pub mid : Database
  pub reached : IsReached at.earlier old.now mid
  pub cause : HasCause refusal command (record old { now = mid })
  pub fault : refusal ≡ refusals.Database → (before : Entries) → Stands old.now before
      → HasFailed old new ⊎ ((held : Entries) × Stands mid held × IsHindered command held mid.trees)

-- all are accepted, and their commit, which comes after the last, is refused: of `Database` only where the store can't work
pub record IsUncommitted (commands : List Command) (place : ℕ) (refusal : Refusal) (old new : State) : Type 0 where
  pub number : place ≡ length commands
  pub mid : Database
  pub reached : IsReached commands old.now mid
  pub which : (refusal ≡ refusals.Memory) ⊎ (refusal ≡ refusals.Database)
  pub fault : refusal ≡ refusals.Database → (before : Entries) → Stands old.now before → HasFailed old new

-- one of the two
abbrev pub AreRefused : List Command → ℕ → Refusal → State → State → Type 0
AreRefused commands place refusal old new = IsRefusedAt commands place refusal old new ⊎ IsUncommitted commands place refusal old new

-- which refusal the command at a place may get, whatever the disk does
pub record MayRefuseAt (commands : List Command) (place : ℕ) (refusal : Refusal) : Type 0 where
  pub command : Command
  pub at : IsAt commands place command
  pub may : MayRefuse command refusal

-- or their commit
abbrev pub MayRefuseAll : List Command → ℕ → Refusal → Type 0
MayRefuseAll commands place refusal =
    MayRefuseAt commands place refusal
    ⊎ ((place ≡ length commands) × ((refusal ≡ refusals.Memory) ⊎ (refusal ≡ refusals.Database)))
