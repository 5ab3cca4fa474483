use Rattle.depot_actions.proofs.Surveying.{survived_then}
use Rattle.depot_actions.proofs.Delivering.{unchanged_twice}
use Rattle.depot_actions.proofs.StoreFaults.{later_fault, passed_on}
use Rattle.depot_actions.specs.Causes.{IsUncounted}
use Rattle.sqlite.specs.State.{HasCleanDisk}
use Rattle.sqlite.specs.Held.{state}
use Rattle.std.proofs.Common.{arith}
use Rattle.depot_actions.proofs.inspecting.look_over.Goals as goal

pub returns-in_err-users-clause-cause : goal.returns-in_err-users-clause-cause
returns-in_err-users-clause-cause g c clean named =
    let old = state g.S.Store c.args.store.now in
    let mid = state g.S.Store c.rows_of.new.store in
    let new = state g.S.Store c.summaries.new.store in
    let early : HasCleanDisk mid = omega (arith, clean, c.summaries.ensures.survives.clean) in
    passed_on c.from_residual-in_err-users.result _ _ c.from_residual-in_err-users.ensures.1
    (later_fault IsUncounted old mid new _ (c.rows_of.ensures.reads.unchanged early) c.rows_of.ensures.reads.survives c.summaries.ensures.survives clean (c.in_err-users.ensures.cause clean))

pub returns-in_err-contents-clause-cause : goal.returns-in_err-contents-clause-cause
returns-in_err-contents-clause-cause g c clean named =
    let old = state g.S.Store c.args.store.now in
    let one = state g.S.Store c.rows_of.new.store in
    let mid = state g.S.Store c.summaries.new.store in
    let new = state g.S.Store c.total_of.new.store in
    let late : HasCleanDisk mid = omega (arith, clean, c.total_of.ensures.reads.survives.clean) in
    let early : HasCleanDisk one = omega (arith, late, c.summaries.ensures.survives.clean) in
    let both = survived_then old one mid c.rows_of.ensures.reads.survives c.summaries.ensures.survives in
    let spares = unchanged_twice old one mid c.rows_of.ensures.reads.survives.counts c.summaries.ensures.survives.counts (c.rows_of.ensures.reads.unchanged early) (c.summaries.ensures.unchanged late) in
    passed_on c.from_residual-in_err-contents.result _ _ c.from_residual-in_err-contents.ensures.1
    (later_fault IsUncounted old mid new _ spares both c.total_of.ensures.reads.survives clean (c.in_err-contents.ensures.cause clean))
