-- Calls of a depot, one after another.
use Rattle.std.proofs.Common.{List, [], ◌∷◌, Option, Some, None, IsTrue, refl, sym, subst}
use Rattle.sqlite_trees.specs.declared.store.Store.{Ghosts}
use Rattle.sqlite.specs.Held.{Held, state}
use Rattle.sqlite.specs.State.{State}
use Rattle.part_store.specs.Entries.{Entries}
use Rattle.part_store.specs.Standing.{Stands}
use Rattle.depot_actions.specs.DepotState.{Command, Reply}
use Rattle.depot_actions.specs.History.{Answers, AreAnswered, AreSteps, Call, IsStep}
use Rattle.depot_actions.proofs.Commands.{stands_still}

record Stepped (command : Command) (reply : Option Reply) (before : Entries) (new : State) : Type 0 where
  after : Entries
  step : IsStep command reply before after
  stands : IsTrue new.is_open → Stands new.now after

one_answer : (command : Command) (reply : Option Reply) (old new : State) (before : Entries) → Answers command reply old new → (IsTrue old.is_open → Stands old.now before) → Stepped command reply before new
one_answer command None old new before spares given = record {
  after = before;
  step = refl;
  stands = λ is_open. stands_still old new before spares (given (spares.stays_closed is_open)) is_open;
}
one_answer command (Some reply) old new before does given =
    let done = does.1 before (given does.0) in
    record { after = done.0; step = done.1; stands = λ is_open. (done.2.stands is_open).0 }

pub answers_are_steps : {S : Type 0} (g : Ghosts S) (calls : List Call) (old new : Held S) (before : Entries) → AreAnswered g calls old new → (IsTrue (state g old).is_open → Stands (state g old).now before)
    → (after : Entries) × AreSteps calls before after × (IsTrue (state g new).is_open → Stands (state g new).now after)
answers_are_steps g [] old new before same given = (before, refl, subst (λ h. IsTrue (state g h).is_open → Stands (state g h).now before) (sym same) given)
answers_are_steps g (call ∷ calls) old new before (mid, answers, others) given =
    let one = one_answer call.command call.reply (state g old) (state g mid) before answers given in
    let more = answers_are_steps g calls mid new one.after others one.stands in
    (more.0, (one.after, one.step, more.1), more.2)
