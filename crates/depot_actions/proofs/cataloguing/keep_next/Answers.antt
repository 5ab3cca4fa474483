use Rattle.depot_actions.proofs.StoreFaults.{passed_on}
use Rattle.depot_actions.specs.Cataloguing.{IsUnkept}
use Rattle.sqlite.specs.Held.{state}
use Rattle.depot_actions.proofs.KeepingRows.{no_fault, read_kept}
use Rattle.depot_actions.proofs.cataloguing.keep_next.Goals as goal

pub returns-in_err-one-clause-cause : goal.returns-in_err-one-clause-cause
returns-in_err-one-clause-cause g c clean =
    let old = state g.S.Store c.args.store.now in
    passed_on c.from_residual.result _ _ c.from_residual.ensures.1 (no_fault (IsUnkept c.args.user.now c.args.row.now) old old _ c.in_err-one.ensures.refused)

pub returns-in-Some-clause-answer : goal.returns-in-Some-clause-answer
returns-in-Some-clause-answer g c clean = λ before x standing at label shares. (rw c.in-Some.is at c.in_ok-one.ensures.shared) x label shares

pub returns-in-None-clause-answer : goal.returns-in-None-clause-answer
returns-in-None-clause-answer g c clean =
    read_kept c.args.user.now c.args.row.now (state g.S.Store c.args.store.now) c.args.kept.now c.keep_one.result (c.keep_one.ensures.reads.was_open clean) (c.keep_one.ensures.answer clean)

pub returns-in-None-clause-unchanged : goal.returns-in-None-clause-unchanged
returns-in-None-clause-unchanged g c = c.keep_one.ensures.reads.unchanged

pub returns-in-None-clause-survives : goal.returns-in-None-clause-survives
returns-in-None-clause-survives g c = c.keep_one.ensures.reads.survives
