use Rattle.depot_actions.proofs.StoreFaults.{passed_on}
use Rattle.std.proofs.Common.{map}
use Rattle.part_store.specs.Standing.{pair_of}
use Rattle.depot_actions.proofs.Migrating.{renewed_more, stored_there}
use Rattle.depot_actions.proofs.renewing.renewed_programs.Goals as goal

pub loop-user-preserved : goal.loop-user-preserved
loop-user-preserved c =
    let found = c.in_ok-push_renewed.ensures.renewed in
    renewed_more c.args.stored.now c.loop-user.user-index c.loop-user-item.result c.deref.result.now c.deref-in-loop-user.result.now found.0 (map pair_of c.loop-user.renewed.items) (map pair_of c.push_renewed.new.renewed.items)
    c.loop-user-test.true c.loop-user-item.is c.deref.ensures c.deref-in-loop-user.ensures.value c.loop-user.invariant found.1 found.2

pub returns-in_err-push_renewed-clause-cause : goal.returns-in_err-push_renewed-clause-cause
returns-in_err-push_renewed-clause-cause c =
    let user = c.deref.result.now in
    let program = c.deref-in-loop-user.result.now in
    let there = stored_there c.args.stored.now c.loop-user.user-index c.loop-user-item.result user program c.loop-user-test.true c.loop-user-item.is c.deref.ensures c.deref-in-loop-user.ensures.value in
    passed_on c.from_residual.result _ _ c.from_residual.ensures.1 (λ is. ((user, program), there, c.in_err-push_renewed.ensures.refused.cause is))
