use Rattle.depot_actions.proofs.StoreFaults.{later_fault, passed_on, weaker_fault}
use Rattle.depot_actions.specs.Cataloguing.{IsUnkept, SharesKept}
use Rattle.depot_actions.specs.Causes.{IsIllegible}
use Rattle.part_store.specs.Entries.{entries_of}
use Rattle.part_store.specs.Sharing.{AreSharing}
use Rattle.sqlite.specs.State.{HasCleanDisk}
use Rattle.std.proofs.Common.{arith, subst, sym}
use Rattle.sqlite.specs.Held.{state}
use Rattle.depot_actions.proofs.KeepingRows.{all_kept, one_kept, unkept_row}
use Rattle.depot_actions.proofs.cataloguing.keep_all.Goals as goal

pub loop-row-preserved : goal.loop-row-preserved
loop-row-preserved g c =
    let old = state g.S.Store c.args.store.now in
    let mid = state g.S.Store c.loop-row.store in
    let new = state g.S.Store c.keep_next.new.store in
    one_kept c.args.user.now c.args.rows.now c.loop-row.row-index c.row-item.result c.loop-row.kept.items c.push.new.self.items c.in_ok-one.one old mid new c.loop-row-test.true c.row-item.is c.in_ok-push.ensures.items
    c.loop-row.invariant c.keep_next.ensures.survives c.keep_next.ensures.unchanged
    (λ clean before x standing at label shares. c.in_ok-one.ensures.answer clean before x standing at label (subst (λ kept. SharesKept kept c.row-item.result.first x) (sym c.deref.ensures.value) shares))

pub returns-clause-answer : goal.returns-clause-answer
returns-clause-answer g c clean before standing =
    all_kept c.args.user.now c.args.rows.now c.loop-row.row-index c.loop-row.kept.items (state g.S.Store c.args.store.now) (state g.S.Store c.loop-row.store) c.loop-row-test.false c.loop-row.invariant clean before standing

pub returns-in_err-one-clause-cause : goal.returns-in_err-one-clause-cause
returns-in_err-one-clause-cause g c clean =
    let old = state g.S.Store c.args.store.now in
    let mid = state g.S.Store c.loop-row.store in
    let new = state g.S.Store c.keep_next.new.store in
    let user = c.args.user.now in
    let early : HasCleanDisk mid = omega (arith, clean, c.keep_next.ensures.survives.clean) in
    passed_on c.from_residual-in_err-one.result _ _ c.from_residual-in_err-one.ensures.1
    (weaker_fault (IsUnkept user c.row-item.result) (λ before db. AreSharing c.args.rows.now (entries_of user before) → IsIllegible user before db) old new _
    (λ before stands unkept are. unkept_row user c.args.rows.now c.loop-row.row-index c.row-item.result before old.now.trees c.loop-row-test.true c.row-item.is stands.tables.numbers unkept are)
    (later_fault (IsUnkept user c.row-item.result) old mid new _ (c.loop-row.invariant.unchanged early) c.loop-row.invariant.survives c.keep_next.ensures.survives clean (c.in_err-one.ensures.cause clean)))
