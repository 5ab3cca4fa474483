-- Commands one after another.
use Rattle.std.specs.Prelude.{◌≡◌, List, [], ◌∷◌, Option, None, Some}
use Rattle.sqlite_trees.specs.declared.store.Store.{Ghosts}
use Rattle.sqlite.specs.Held.{Held, state}
use Rattle.sqlite.specs.State.{State}
use Rattle.part_store.specs.Entries.{Entries}
use Rattle.part_store.specs.Standing.{LeavesUnchanged}
use Rattle.depot_actions.specs.DepotState.{Accepts, Command, Does, Reply}

-- a command, and its reply, or none where it was refused
pub record Call : Type 0 where
  pub command : Command
  pub reply : Option Reply

-- the store does a command with its reply, or is unchanged
abbrev pub Answers : Command → Option Reply → State → State → Type 0
Answers command None old new = LeavesUnchanged old new
Answers command (Some reply) old new = Does command reply old new

-- calls of a depot are answered one after another, also after a failure has shut its store
abbrev pub AreAnswered : {S : Type 0} → Ghosts S → List Call → Held S → Held S → Type 0
AreAnswered g [] old new = new ≡ old
AreAnswered {S} g (call ∷ calls) old new =
    (mid : Held S) × Answers call.command call.reply (state g old) (state g mid) × AreAnswered g calls mid new

-- an accepted command is a step, and a refused one changes nothing
abbrev pub IsStep : Command → Option Reply → Entries → Entries → Type 0
IsStep command None before after = after ≡ before
IsStep command (Some reply) before after = Accepts before command reply after

-- what a depot holds after calls, one after another
abbrev pub AreSteps : List Call → Entries → Entries → Type 0
AreSteps [] before after = after ≡ before
AreSteps (call ∷ calls) before after = (mid : Entries) × IsStep call.command call.reply before mid
    × AreSteps calls mid after
