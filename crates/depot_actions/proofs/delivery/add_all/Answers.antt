use Rattle.std.proofs.Common.{map}
use Rattle.std.proofs.lemmas.Result.{IfErr-weaker}
use Rattle.sqlite.specs.Held.{state}
use Rattle.part_store.specs.Refusals.{LackRoom}
use Rattle.part_store.specs.Standing.{draft_of}
use Rattle.depot_actions.proofs.StoreFaults.{fault_told, of_refusal, passed_on}
use Rattle.depot_actions.proofs.delivery.add_all.Goals as goal

pub returns-in_err-first-clause-cause : goal.returns-in_err-first-clause-cause
returns-in_err-first-clause-cause g c clean =
    let old = state g.S.Store c.args.tx.now.tx.now.conn.now in
    let new = state g.S.Store c.add_sharing_entries.new.self.tx.now.conn.now in
    let lack = LackRoom c.args.user.now (map draft_of c.args.entries.now) in
    passed_on c.from_residual-in_err-first.result _ _ c.from_residual-in_err-first.ensures.1
    (λ inside. of_refusal c.map_err.result _ _ c.in_err-first.was (fault_told lack old new c.add_sharing_entries.result c.map_err.result c.map_err.ensures.cases
    (IfErr-weaker c.add_sharing_entries.result _ _ (λ e h. h inside) (c.add_sharing_entries.ensures.refused.cause clean))))
