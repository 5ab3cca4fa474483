use Rattle.sqlite.specs.Held.{state}
use Rattle.depot_actions.proofs.KeepingRows.{KeepingEach}
use Rattle.depot_actions.proofs.cataloguing.keep_all.Given as goal

abbrev pub invariant-loop-row : goal.invariant-loop-row
invariant-loop-row g l = KeepingEach l.user l.rows l.row-index l.kept.items (state g.S.Store l.initial.store) (state g.S.Store l.store)
