use Rattle.depot_actions.proofs.StoreFaults.{failure_told}
use Rattle.depot_actions.specs.Causes.{IsUncounted}
use Rattle.sqlite.specs.Held.{state}
use Rattle.depot_actions.proofs.inspecting.entries_in.Goals as goal

pub returns-clause-cause : goal.returns-clause-cause
returns-clause-cause g c clean =
    failure_told IsUncounted (state g.S.Store c.args.store.now) (state g.S.Store c.entries_of.new.self) c.entries_of.result c.map_err.result c.map_err.ensures.cases (c.entries_of.ensures.refused.cause clean)
