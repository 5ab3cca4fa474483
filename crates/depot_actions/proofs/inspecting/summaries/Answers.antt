use Rattle.depot_actions.proofs.StoreFaults.{later_fault, passed_on}
use Rattle.depot_actions.specs.Causes.{IsUncounted}
use Rattle.sqlite.specs.State.{HasCleanDisk}
use Rattle.std.proofs.Common.{arith}
use Rattle.sqlite.specs.Held.{state}
use Rattle.depot_actions.proofs.Surveying.{all_looked, one_looked}
use Rattle.depot_actions.proofs.inspecting.summaries.Goals as goal

pub loop-row-preserved : goal.loop-row-preserved
loop-row-preserved g c =
    let old = state g.S.Store c.args.store.now in
    let mid = state g.S.Store c.loop-row.store in
    let new = state g.S.Store c.summary.new.store in
    one_looked c.args.rows.now c.loop-row.row-index c.row-item.result c.loop-row.users.items c.push.new.self.items c.in_ok-user.user old mid new c.loop-row-test.true c.row-item.is c.in_ok-push.ensures.items
    c.loop-row.invariant c.summary.ensures.reads.survives c.summary.ensures.reads.unchanged c.in_ok-user.ensures.reads.was_open c.in_ok-user.ensures.answer

pub returns-clause-answer : goal.returns-clause-answer
returns-clause-answer g c clean before stands =
    all_looked c.args.rows.now c.loop-row.row-index c.loop-row.users.items (state g.S.Store c.args.store.now) (state g.S.Store c.loop-row.store) c.loop-row-test.false c.loop-row.invariant clean before stands

pub returns-in_err-user-clause-cause : goal.returns-in_err-user-clause-cause
returns-in_err-user-clause-cause g c clean =
    let old = state g.S.Store c.args.store.now in
    let mid = state g.S.Store c.loop-row.store in
    let new = state g.S.Store c.summary.new.store in
    let early : HasCleanDisk mid = omega (arith, clean, c.summary.ensures.reads.survives.clean) in
    passed_on c.from_residual.result _ _ c.from_residual.ensures.1
    (later_fault IsUncounted old mid new _ (c.loop-row.invariant.unchanged early) c.loop-row.invariant.survives c.summary.ensures.reads.survives clean (c.in_err-user.ensures.cause clean))
