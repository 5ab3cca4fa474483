use Rattle.sqlite.specs.Held.{state}
use Rattle.depot_actions.proofs.Surveying.{Looking}
use Rattle.depot_actions.proofs.inspecting.summaries.Given as goal

abbrev pub invariant-loop-row : goal.invariant-loop-row
invariant-loop-row g l = Looking l.rows l.row-index l.users.items (state g.S.Store l.initial.store) (state g.S.Store l.store)
