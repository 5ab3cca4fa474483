use Rattle.std.proofs.Common.{Err, subst}
use Rattle.part_store.specs.Transacting.{Transacts}
use Rattle.depot_actions.specs.Delivering.{Delivers}
use Rattle.depot_actions.proofs.Transacted.{alone_done, alone_lost, alone_refused}
use Rattle.depot_actions.proofs.deliveries.deliver_alone.Goals as goal

pub returns-in-Ok : goal.returns-in-Ok
returns-in-Ok g c = alone_done g.S.Store c.args.store.now c.transact.new.self c.args.user.now c.args.message.now c.in-Ok.rows c.in-Ok.ensures

pub returns-in-Err-Refused : goal.returns-in-Err-Refused
returns-in-Err-Refused g c =
    let conn = c.args.store.now in
    let new = c.transact.new.self in
    let user = c.args.user.now in
    let message = c.args.message.now in
    alone_refused g.S.Store conn new user message c.in-Err-Refused.refusal
    (subst (λ e. Transacts g.S.Store conn new (Err e) (Delivers g.S.Store user message)) c.in-Err-Refused.field-0-is c.in-Err-Refused.ensures)

pub returns-in-Err-Uncommitted : goal.returns-in-Err-Uncommitted
returns-in-Err-Uncommitted g c =
    let conn = c.args.store.now in
    let new = c.transact.new.self in
    let user = c.args.user.now in
    let message = c.args.message.now in
    alone_lost g.S.Store conn new user message c.in-Err-Uncommitted.error c.refused.result c.refused.ensures
    (subst (λ e. Transacts g.S.Store conn new (Err e) (Delivers g.S.Store user message)) c.in-Err-Uncommitted.field-0-is c.in-Err-Uncommitted.ensures)
