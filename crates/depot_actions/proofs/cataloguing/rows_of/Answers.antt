use Rattle.depot_actions.proofs.StoreFaults.{failure_told}
use Rattle.depot_actions.specs.Causes.{IsIllegible}
use Rattle.sqlite.specs.Held.{state}
use Rattle.depot_actions.proofs.cataloguing.rows_of.Goals as goal

pub returns-clause-cause : goal.returns-clause-cause
returns-clause-cause g c clean =
    failure_told (IsIllegible c.args.user.now) (state g.S.Store c.args.store.now) (state g.S.Store c.sharing_entries_of.new.self) c.sharing_entries_of.result c.map_err.result c.map_err.ensures.cases (c.sharing_entries_of.ensures.refused.cause clean)
