use Rattle.std.proofs.Common.{inl, refl, arith, rules}
use Rattle.sqlite.specs.Held.{state}
use Rattle.sqlite.specs.State.{HasCleanDisk}
use Rattle.part_store.proofs.NoRoom.{content_unplaced}
use Rattle.part_store.proofs.Readable.{octets_readable}
use Rattle.part_store.proofs.Runs.{err_then, if_ok, passed}
use Rattle.part_store.proofs.Filed.{stocked_found, other_found, stocked_none, stocked_there}
use Rattle.part_store.proofs.filing.stock.Goals as goal

pub returns-then-is_there-clause-stocked : goal.returns-then-is_there-clause-stocked
returns-then-is_there-clause-stocked g c clean is before stands known =
    stocked_there (state g.S.Store c.args.tx.now.conn.now) c.args.digest.now c.args.octets.now before stands (known c.if-is_there.true)

pub returns-in-Some-clause-stocked : goal.returns-in-Some-clause-stocked
returns-in-Some-clause-stocked g c clean =
    if_ok c.are_these.result _ _ (λ done same is before stands _.
    stocked_found (state g.S.Store c.args.tx.now.conn.now) (state g.S.Store c.find.new.tx.conn.now) c.args.digest.now c.args.octets.now c.in-Some.row c.args.octets.now
    (rw c.in-Some.is at (c.in_ok-row.ensures.step clean)) (same is) refl before stands) c.are_these.ensures.same

pub returns-in-Some-clause-other : goal.returns-in-Some-clause-other
returns-in-Some-clause-other g c clean =
    if_ok c.are_these.result _ _ (λ done other is.
    other_found (state g.S.Store c.args.tx.now.conn.now) (state g.S.Store c.find.new.tx.conn.now) c.args.digest.now c.args.octets.now c.in-Some.row (other is).0
    (rw c.in-Some.is at (c.in_ok-row.ensures.step clean)) (other is).1 (other is).2) c.are_these.ensures.other

pub returns-in_ok-add-in-None-clause-stocked : goal.returns-in_ok-add-in-None-clause-stocked
returns-in_ok-add-in-None-clause-stocked g c clean is before stands _ =
    stocked_none (state g.S.Store c.args.tx.now.conn.now) (state g.S.Store c.find.new.tx.conn.now) (state g.S.Store c.add.new.tx.conn.now) c.args.digest.now c.args.octets.now
    (rw c.in-None.is at (c.in_ok-row.ensures.step (search rules))) (c.in_ok-add-in-None.ensures.step clean) before stands

pub returns-in_err-row-clause-cause : goal.returns-in_err-row-clause-cause
returns-in_err-row-clause-cause g c clean =
    passed c.from_residual.result _ _ c.from_residual.ensures.1 (λ is _ before stands. inl (c.in_err-row.ensures.fault clean is stands.schema))

pub returns-in-Some-clause-cause : goal.returns-in-Some-clause-cause
returns-in-Some-clause-cause g c clean =
    err_then c.are_these.result _ _ (λ e never is _ before stands.
    let there = octets_readable (state g.S.Store c.args.tx.now.conn.now) (state g.S.Store c.find.new.tx.conn.now) before stands c.in-Some.row c.args.digest.now (rw c.in-Some.is at (c.in_ok-row.ensures.step clean)) in
    absurd (never there.0 there.1.0 there.1.1)) c.are_these.ensures.cause

pub returns-in_err-add-in-None-clause-cause : goal.returns-in_err-add-in-None-clause-cause
returns-in_err-add-in-None-clause-cause g c clean =
    let old = state g.S.Store c.args.tx.now.conn.now in
    let mid = state g.S.Store c.find.new.tx.conn.now in
    let new = state g.S.Store c.add.new.tx.conn.now in
    let early : HasCleanDisk mid = omega (arith, clean, c.add.ensures.survives.clean) in
    passed c.from_residual-in_err-add-in-None.result _ _ c.from_residual-in_err-add-in-None.ensures.1
    (content_unplaced old mid new c.args.digest.now c.args.octets.now _ (rw c.in-None.is at (c.in_ok-row.ensures.step early)) c.find.ensures.survives c.add.ensures.survives clean (c.in_err-add-in-None.ensures.fault clean))
