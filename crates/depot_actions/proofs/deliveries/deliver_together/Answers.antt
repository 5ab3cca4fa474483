use Rattle.std.proofs.Common.{Err, refl, subst}
use Rattle.part_store.specs.Transacting.{Transacts}
use Rattle.depot_actions.specs.Delivering.{DeliversEach}
use Rattle.depot_actions.proofs.Transacted.{together_done, together_lost, together_refused}
use Rattle.depot_actions.proofs.deliveries.deliver_together.Goals as goal

pub returns-in-Ok : goal.returns-in-Ok
returns-in-Ok g c = together_done g.S.Store c.args.store.now c.transact.new.self c.args.deliveries.now c.in-Ok.replies c.in-Ok.ensures

pub returns-in-Err-Refused : goal.returns-in-Err-Refused
returns-in-Err-Refused g c =
    let conn = c.args.store.now in
    let new = c.transact.new.self in
    let deliveries = c.args.deliveries.now in
    together_refused g.S.Store conn new deliveries c.in-Err-Refused.first
    (subst (λ e. Transacts g.S.Store conn new (Err e) (DeliversEach g.S.Store deliveries)) c.in-Err-Refused.field-0-is c.in-Err-Refused.ensures)

pub returns-in-Err-Uncommitted : goal.returns-in-Err-Uncommitted
returns-in-Err-Uncommitted g c =
    let conn = c.args.store.now in
    let new = c.transact.new.self in
    let deliveries = c.args.deliveries.now in
    together_lost g.S.Store conn new deliveries c.in-Err-Uncommitted.error _ refl c.refused.ensures
    (subst (λ e. Transacts g.S.Store conn new (Err e) (DeliversEach g.S.Store deliveries)) c.in-Err-Uncommitted.field-0-is c.in-Err-Uncommitted.ensures)
