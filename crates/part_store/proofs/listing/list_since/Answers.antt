use Rattle.std.proofs.Common.{◌∙◌, arith, sym}
use Rattle.sqlite.specs.State.{HasCleanDisk}
use Rattle.sqlite.specs.Held.{state}
use Rattle.part_store.proofs.Afterwards.{asked, both_kept, both_survive, works_after}
use Rattle.part_store.proofs.Showing.{all_read, one_read}
use Rattle.part_store.proofs.ListedFailing.{listing_blamed}
use Rattle.part_store.proofs.Runs.{passed}
use Rattle.part_store.proofs.listing.list_since.Goals as goal

pub loop-row-preserved : goal.loop-row-preserved
loop-row-preserved g c =
    let old = state g.S.Store c.list.new.tx.conn.now in
    let mid = state g.S.Store c.loop-row.tx.conn.now in
    let new = state g.S.Store c.read_row.new.tx.conn.now in
    let rows = c.deref-row-items.result.now in
    record {
      same_reference = c.read_row.ensures.within.same_reference ∙ c.loop-row.invariant.same_reference;
      so_far = one_read rows c.loop-row.row-index c.row-item.result c.loop-row.listed.items c.push.new.self.items c.in_ok-entry.entry old mid new c.loop-row-test.true c.row-item.is c.in_ok-push.ensures.items c.loop-row.invariant.so_far
          c.read_row.ensures.within.survives c.in_ok-entry.ensures.within.same c.read_row.ensures.within.kept c.in_ok-entry.ensures.answer;
    }

pub returns-clause-answer : goal.returns-clause-answer
returns-clause-answer g c clean before stands =
    let old = state g.S.Store c.args.tx.now.conn.now in
    let mid = state g.S.Store c.list.new.tx.conn.now in
    let new = state g.S.Store c.loop-row.tx.conn.now in
    let early : HasCleanDisk mid = omega (arith, c.loop-row.invariant.so_far.survives.clean) in
    let reads = rw (sym c.deref-row-items.ensures.value) at (c.in_ok-rows.ensures.step early) in
    all_read old mid new c.args.user.now c.args.number c.deref-row-items.result.now c.loop-row.row-index c.loop-row.listed.items reads c.loop-row-test.false clean c.loop-row.invariant.so_far before stands

pub returns-in_err-entry-clause-cause : goal.returns-in_err-entry-clause-cause
returns-in_err-entry-clause-cause g c clean =
    let old = state g.S.Store c.args.tx.now.conn.now in
    let one = state g.S.Store c.list.new.tx.conn.now in
    let mid = state g.S.Store c.loop-row.tx.conn.now in
    let new = state g.S.Store c.read_row.new.tx.conn.now in
    let rows = c.deref-row-items.result.now in
    let early : HasCleanDisk mid = omega (arith, clean, c.read_row.ensures.within.survives.clean) in
    let first : HasCleanDisk one = omega (arith, early, c.loop-row.invariant.so_far.survives.clean) in
    let reads = rw (sym c.deref-row-items.ensures.value) at (c.in_ok-rows.ensures.step first) in
    passed c.from_residual-in_err-entry.result _ _ c.from_residual-in_err-entry.ensures.1
    (listing_blamed old one mid new c.args.user.now c.args.number rows c.loop-row.row-index c.row-item.result c.loop-row.listed.items _ reads c.list.ensures.survives c.loop-row-test.true c.row-item.is
    c.loop-row.invariant.so_far c.read_row.ensures.within.survives clean (c.in_err-entry.ensures.cause clean))

pub returns-in_err-entry-clause-within : goal.returns-in_err-entry-clause-within
returns-in_err-entry-clause-within g c =
    let one = state g.S.Store c.list.new.tx.conn.now in
    let mid = state g.S.Store c.loop-row.tx.conn.now in
    let new = state g.S.Store c.read_row.new.tx.conn.now in
    let so_far = c.loop-row.invariant.so_far in
    let row = c.read_row.ensures.within in
    works_after g.S.Store (asked g.S.Store c.in_ok-rows.ensures) _ (row.same_reference ∙ c.loop-row.invariant.same_reference)
    (both_kept one mid new so_far.survives row.survives so_far.kept (λ clean has. (so_far.stays clean has).0) row.kept) (both_survive one mid new so_far.survives row.survives)

pub returns-in_err-push-clause-within : goal.returns-in_err-push-clause-within
returns-in_err-push-clause-within g c =
    let one = state g.S.Store c.list.new.tx.conn.now in
    let mid = state g.S.Store c.loop-row.tx.conn.now in
    let new = state g.S.Store c.read_row.new.tx.conn.now in
    let so_far = c.loop-row.invariant.so_far in
    let row = c.read_row.ensures.within in
    works_after g.S.Store (asked g.S.Store c.in_ok-rows.ensures) _ (row.same_reference ∙ c.loop-row.invariant.same_reference)
    (both_kept one mid new so_far.survives row.survives so_far.kept (λ clean has. (so_far.stays clean has).0) row.kept) (both_survive one mid new so_far.survives row.survives)

pub returns-clause-within : goal.returns-clause-within
returns-clause-within g c = works_after g.S.Store (asked g.S.Store c.in_ok-rows.ensures) _ c.loop-row.invariant.same_reference c.loop-row.invariant.so_far.kept c.loop-row.invariant.so_far.survives
