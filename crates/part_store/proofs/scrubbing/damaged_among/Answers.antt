use Rattle.std.proofs.Common.{List, ap, arith, subst, sym, ◌∙◌}
use Rattle.std.specs.List.{AllByRecursion}
use Rattle.std.proofs.lemmas.List.{take_all}
use Rattle.sqlite_value.specs.Order.{Row}
use Rattle.sqlite_rules.proofs.ListLemmas.{all_has, has_at}
use Rattle.sqlite.specs.Held.{state}
use Rattle.part_store.specs.Scanning.{ShowsContent, damaged_in}
use Rattle.part_store.proofs.Damaged.{noted_more}
use Rattle.part_store.proofs.Runs.{passed}
use Rattle.part_store.proofs.Scanned.{scan_blamed, scanned_more}
use Rattle.part_store.proofs.scrubbing.damaged_among.Goals as goal

pub loop-row-preserved : goal.loop-row-preserved
loop-row-preserved g c =
    let old = state g.S.Store c.args.tx.now.conn.now in
    let mid = state g.S.Store c.loop-row.tx.conn.now in
    let new = state g.S.Store c.note_damaged.new.tx.conn.now in
    let rows = c.deref-row-items.result.now in
    record {
      same_reference = c.note_damaged.ensures.within.same_reference ∙ c.loop-row.invariant.same_reference;
      so_far = scanned_more _ _ old mid new c.loop-row.invariant.so_far c.note_damaged.ensures.within.survives c.in_ok-note_damaged.ensures.within.same c.note_damaged.ensures.within.kept
          (λ clean before stands was shows. noted_more mid.now.trees rows c.loop-row.row-index c.row-item.result c.loop-row.digests.items c.note_damaged.new.digests.items c.loop-row-test.true c.row-item.is shows (was shows)
          (c.in_ok-note_damaged.ensures.answer clean before stands));
    }

pub returns-clause-answer : goal.returns-clause-answer
returns-clause-answer g c clean before stands shows =
    let db = (state g.S.Store c.args.tx.now.conn.now).now.trees in
    let rows = c.deref-row-items.result.now in
    c.loop-row.invariant.so_far.read clean before stands (subst (λ (rs : List Row). AllByRecursion (ShowsContent db) rs) (sym c.deref-row-items.ensures.value) shows)
    ∙ ap (damaged_in db) (take_all c.loop-row.row-index rows (omega (arith, c.loop-row-test.false)) ∙ c.deref-row-items.ensures.value)

pub returns-in_err-note_damaged-clause-cause : goal.returns-in_err-note_damaged-clause-cause
returns-in_err-note_damaged-clause-cause g c clean =
    let old = state g.S.Store c.args.tx.now.conn.now in
    let mid = state g.S.Store c.loop-row.tx.conn.now in
    let new = state g.S.Store c.note_damaged.new.tx.conn.now in
    let rows = c.deref-row-items.result.now in
    passed c.from_residual.result _ _ c.from_residual.ensures.1 (λ shows.
    scan_blamed _ old mid new _ c.loop-row.invariant.so_far c.note_damaged.ensures.within.survives clean (λ same.
    let shown = all_has (ShowsContent old.now.trees) rows c.row-item.result (subst (λ (rs : List Row). AllByRecursion (ShowsContent old.now.trees) rs) (sym c.deref-row-items.ensures.value) shows)
    (has_at rows c.loop-row.row-index c.row-item.result c.loop-row-test.true c.row-item.is) in
    c.in_err-note_damaged.ensures.cause clean (subst (λ t. ShowsContent t c.row-item.result) (sym same) shown)))
