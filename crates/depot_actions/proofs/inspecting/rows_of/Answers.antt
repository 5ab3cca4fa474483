use Rattle.depot_actions.proofs.StoreFaults.{failure_told}
use Rattle.depot_actions.specs.Causes.{IsUncounted}
use Rattle.std.proofs.lemmas.Result.{IfErr-weaker}
use Rattle.sqlite.specs.Held.{state}
use Rattle.depot_actions.proofs.inspecting.rows_of.Goals as goal

pub returns-clause-cause : goal.returns-clause-cause
returns-clause-cause g c clean named =
    let old = state g.S.Store c.args.store.now in
    let new = state g.S.Store c.users.new.self in
    failure_told IsUncounted old new c.users.result c.map_err.result c.map_err.ensures.cases (IfErr-weaker c.users.result _ _ (λ e h is before stands. h is before stands named) (c.users.ensures.refused.cause clean))
