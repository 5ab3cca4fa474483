use Rattle.std.proofs.Common.{arith, map, sym, ◌∙◌}
use Rattle.sqlite.specs.Held.{state}
use Rattle.sqlite.specs.State.{HasCleanDisk}
use Rattle.part_store.specs.Scrubbing.{damaged_line}
use Rattle.part_store.proofs.Afterwards.{both_kept, both_survive, undone}
use Rattle.part_store.proofs.Runs.{passed}
use Rattle.part_store.proofs.Scanned.{scanned_more}
use Rattle.part_store.proofs.Scrubs.{all_found, naming_blamed, user_more}
use Rattle.part_store.proofs.scrubbing.entries_naming.Goals as goal

pub loop-row-preserved : goal.loop-row-preserved
loop-row-preserved g c =
    let old = state g.S.Store c.list_users.new.tx.conn.now in
    let mid = state g.S.Store c.loop-row.tx.conn.now in
    let new = state g.S.Store c.add_naming.new.tx.conn.now in
    let users = c.deref-row-items.result.now in
    record {
      same_reference = c.add_naming.ensures.within.same_reference ∙ c.loop-row.invariant.same_reference;
      so_far = scanned_more _ _ old mid new c.loop-row.invariant.so_far c.add_naming.ensures.within.survives c.in_ok-add_naming.ensures.within.same c.add_naming.ensures.within.kept
          (λ clean before stands was are up. user_more mid.now.trees before users c.loop-row.row-index c.row-item.result (map damaged_line c.loop-row.found.items) (map damaged_line c.add_naming.new.found.items) c.loop-row-test.true c.row-item.is up (was are up)
          (rw c.as_str.ensures.value at (c.in_ok-add_naming.ensures.answer clean before stands are)));
    }

pub returns-clause-answer : goal.returns-clause-answer
returns-clause-answer g c clean before stands are =
    let old = state g.S.Store c.args.tx.now.conn.now in
    let mid = state g.S.Store c.list_users.new.tx.conn.now in
    let new = state g.S.Store c.loop-row.tx.conn.now in
    let users = c.deref-row-items.result.now in
    let early : HasCleanDisk mid = omega (arith, c.loop-row.invariant.so_far.survives.clean) in
    all_found old mid new users c.loop-row.row-index c.args.digests.now.items (map damaged_line c.loop-row.found.items) (c.in_ok-users.ensures.within.same early) (omega (arith, c.loop-row-test.false)) clean c.loop-row.invariant.so_far before stands
    (rw (sym c.deref-row-items.ensures.value) at (c.in_ok-users.ensures.answer early before stands)) are

pub returns-in_err-add_naming-clause-cause : goal.returns-in_err-add_naming-clause-cause
returns-in_err-add_naming-clause-cause g c clean =
    let old = state g.S.Store c.args.tx.now.conn.now in
    let mid = state g.S.Store c.list_users.new.tx.conn.now in
    let now = state g.S.Store c.loop-row.tx.conn.now in
    let new = state g.S.Store c.add_naming.new.tx.conn.now in
    let late : HasCleanDisk now = omega (arith, clean, c.add_naming.ensures.within.survives.clean) in
    let early : HasCleanDisk mid = omega (arith, late, c.loop-row.invariant.so_far.survives.clean) in
    passed c.from_residual-in_err-add_naming.result _ _ c.from_residual-in_err-add_naming.ensures.1
    (naming_blamed _ old mid now new _ c.list_users.ensures.within.survives (c.in_ok-users.ensures.within.same early) c.loop-row.invariant.so_far c.add_naming.ensures.within.survives clean (c.in_err-add_naming.ensures.cause clean))

pub returns-in_err-add_naming-clause-within : goal.returns-in_err-add_naming-clause-within
returns-in_err-add_naming-clause-within g c =
    let old = state g.S.Store c.args.tx.now.conn.now in
    let one = state g.S.Store c.list_users.new.tx.conn.now in
    let mid = state g.S.Store c.loop-row.tx.conn.now in
    let new = state g.S.Store c.add_naming.new.tx.conn.now in
    let reads = c.in_ok-users.ensures.within in
    let so_far = c.loop-row.invariant.so_far in
    let last = c.add_naming.ensures.within in
    let survives = both_survive one mid new so_far.survives last.survives in
    record {
      same_reference = last.same_reference ∙ c.loop-row.invariant.same_reference ∙ reads.same_reference;
      schema = λ _. undone c.from_residual-in_err-add_naming.result _ _ c.from_residual-in_err-add_naming.ensures.1;
      kept = both_kept old one new reads.survives survives reads.kept (λ clean has. (reads.same clean has).0) (both_kept one mid new so_far.survives last.survives so_far.kept (λ clean has. (so_far.stays clean has).0) last.kept);
      survives = both_survive old one new reads.survives survives;
    }

pub returns-clause-within : goal.returns-clause-within
returns-clause-within g c =
    let old = state g.S.Store c.args.tx.now.conn.now in
    let one = state g.S.Store c.list_users.new.tx.conn.now in
    let new = state g.S.Store c.loop-row.tx.conn.now in
    let reads = c.in_ok-users.ensures.within in
    let so_far = c.loop-row.invariant.so_far in
    record {
      same_reference = c.loop-row.invariant.same_reference ∙ reads.same_reference;
      schema = λ clean has.
          let early : HasCleanDisk one = omega (arith, so_far.survives.clean) in
          (so_far.stays clean (reads.same early has).0).0;
      kept = both_kept old one new reads.survives so_far.survives reads.kept (λ clean has. (reads.same clean has).0) so_far.kept;
      survives = both_survive old one new reads.survives so_far.survives;
    }
