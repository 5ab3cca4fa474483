use Rattle.std.proofs.Common.{arith}
use Rattle.sqlite.specs.State.{HasCleanDisk}
use Rattle.sqlite.specs.Held.{state}
use Rattle.part_store.proofs.Afterwards.{wrote, wrote_twice}
use Rattle.part_store.proofs.Causes.{octets_refused, row_refused}
use Rattle.part_store.proofs.Finding.{entry_there}
use Rattle.part_store.proofs.Runs.{passed}
use Rattle.part_store.proofs.Removing.{entry_taken_out}
use Rattle.part_store.proofs.store.take_entry.Goals as goal

pub returns-clause-taken : goal.returns-clause-taken
returns-clause-taken g c clean _ =
    let old = state g.S.Store c.args.tx.now.conn.now in
    let one = state g.S.Store c.digest_of.new.tx.conn.now in
    let two = state g.S.Store c.remove.new.tx.conn.now in
    let new = state g.S.Store c.remove_unnamed.new.tx.conn.now in
    let late : HasCleanDisk two = omega (arith, c.remove_unnamed.ensures.survives.clean) in
    let early : HasCleanDisk one = omega (arith, late, c.remove.ensures.survives.clean) in
    let told = rw c.in-Some.is at (c.in_ok-digest.ensures.answer early) in
    entry_taken_out old one two new c.args.user.now c.args.number c.in-Some.digest.items told (c.in_ok-digest.ensures.within.same early) (c.digest_of.ensures.within.kept early) (c.in_ok-remove.ensures.step late)
    (rw c.deref.ensures.value at (c.in_ok-remove_unnamed.ensures.step clean))

pub returns-clause-there : goal.returns-clause-there
returns-clause-there g c clean _ before stands =
    let old = state g.S.Store c.args.tx.now.conn.now in
    let one = state g.S.Store c.digest_of.new.tx.conn.now in
    let two = state g.S.Store c.remove.new.tx.conn.now in
    let late : HasCleanDisk two = omega (arith, c.remove_unnamed.ensures.survives.clean) in
    let early : HasCleanDisk one = omega (arith, late, c.remove.ensures.survives.clean) in
    let told = rw c.in-Some.is at (c.in_ok-digest.ensures.answer early) in
    let x = entry_there old.now.trees before c.args.user.now c.args.number c.in-Some.digest.items stands.tables (told before stands) in
    (x.0, x.1)

pub returns-in_err-remove-clause-cause : goal.returns-in_err-remove-clause-cause
returns-in_err-remove-clause-cause g c clean =
    let old = state g.S.Store c.args.tx.now.conn.now in
    let one = state g.S.Store c.digest_of.new.tx.conn.now in
    let two = state g.S.Store c.remove.new.tx.conn.now in
    let early : HasCleanDisk one = omega (arith, clean, c.remove.ensures.survives.clean) in
    passed c.from_residual-in_err-remove.result _ _ c.from_residual-in_err-remove.ensures.1
    (row_refused old one two _ (c.in_ok-digest.ensures.within.same early) (c.in_ok-digest.ensures.within.inside early) c.digest_of.ensures.within.survives c.remove.ensures.survives clean (c.in_err-remove.ensures.fault clean))

pub returns-in_err-remove_unnamed-clause-cause : goal.returns-in_err-remove_unnamed-clause-cause
returns-in_err-remove_unnamed-clause-cause g c clean =
    let old = state g.S.Store c.args.tx.now.conn.now in
    let one = state g.S.Store c.digest_of.new.tx.conn.now in
    let two = state g.S.Store c.remove.new.tx.conn.now in
    let new = state g.S.Store c.remove_unnamed.new.tx.conn.now in
    let late : HasCleanDisk two = omega (arith, clean, c.remove_unnamed.ensures.survives.clean) in
    let early : HasCleanDisk one = omega (arith, late, c.remove.ensures.survives.clean) in
    passed c.from_residual-in_err-remove_unnamed.result _ _ c.from_residual-in_err-remove_unnamed.ensures.1
    (octets_refused old one two new c.args.user.now c.args.number _ (c.in_ok-digest.ensures.within.same early) (c.in_ok-digest.ensures.within.inside early) (c.in_ok-remove.ensures.step late) c.digest_of.ensures.within.survives
    c.remove.ensures.survives c.remove_unnamed.ensures.survives clean (c.in_err-remove_unnamed.ensures.fault clean))

pub returns-in_err-remove-clause-within : goal.returns-in_err-remove-clause-within
returns-in_err-remove-clause-within g c = wrote g.S.Store c.in_ok-digest.ensures.within _ c.remove.ensures

pub returns-in_err-remove_unnamed-clause-within : goal.returns-in_err-remove_unnamed-clause-within
returns-in_err-remove_unnamed-clause-within g c = wrote_twice g.S.Store c.in_ok-digest.ensures.within _ c.remove.ensures c.remove_unnamed.ensures

pub returns-clause-within : goal.returns-clause-within
returns-clause-within g c = wrote_twice g.S.Store c.in_ok-digest.ensures.within _ c.remove.ensures c.remove_unnamed.ensures
