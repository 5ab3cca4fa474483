use Rattle.depot_actions.proofs.StoreFaults.{later_fault, passed_on, weaker_fault}
use Rattle.catalog.specs.Keeping.{known_as}
use Rattle.depot_actions.specs.Causes.{IsIllegible}
use Rattle.depot_actions.specs.DepotState.{filed_of}
use Rattle.part_store.specs.Entries.{entries_of}
use Rattle.part_store.specs.Sharing.{AreSharing}
use Rattle.sqlite.specs.State.{HasCleanDisk}
use Rattle.std.proofs.Common.{◌∙◌, ap, arith, map, subst, sym}
use Rattle.sqlite.specs.Held.{state}
use Rattle.depot_actions.proofs.KeepingRows.{settled_after}
use Rattle.depot_actions.proofs.Commands.{stands_still}
use Rattle.depot_actions.proofs.cataloguing.catalog_of.Goals as goal

pub returns-in_err-kept-clause-cause : goal.returns-in_err-kept-clause-cause
returns-in_err-kept-clause-cause g c clean =
    let old = state g.S.Store c.args.store.now in
    let mid = state g.S.Store c.rows_of.new.store in
    let new = state g.S.Store c.keep_all.new.store in
    let user = c.args.user.now in
    let early : HasCleanDisk mid = omega (arith, clean, c.keep_all.ensures.survives.clean) in
    passed_on c.from_residual-in_err-kept.result _ _ c.from_residual-in_err-kept.ensures.1
    (weaker_fault (λ before db. AreSharing c.deref.result.now (entries_of user before) → IsIllegible user before db) (IsIllegible user) old new _
    (λ before stands illegible. illegible (subst (λ rows. AreSharing rows (entries_of user before)) (sym c.deref.ensures.value) (c.in_ok-rows.ensures.answer early before stands)))
    (later_fault (λ before db. AreSharing c.deref.result.now (entries_of user before) → IsIllegible user before db) old mid new _ (c.rows_of.ensures.reads.unchanged early) c.rows_of.ensures.reads.survives c.keep_all.ensures.survives clean
    (c.in_err-kept.ensures.cause clean)))

pub returns-clause-answer : goal.returns-clause-answer
returns-clause-answer g c clean =
    let old = state g.S.Store c.args.store.now in
    let mid = state g.S.Store c.rows_of.new.store in
    let new = state g.S.Store c.keep_all.new.store in
    let user = c.args.user.now in
    let early : HasCleanDisk mid = omega (arith, clean, c.keep_all.ensures.survives.clean) in
    let reads = c.rows_of.ensures.reads in (
      c.in_ok-rows.ensures.reads.was_open early,
      λ before stands. (
        c.in_ok-catalog_text.ensures (map filed_of (entries_of user before))
            (ap (map known_as) c.deref-2.ensures.value
            ∙ c.in_ok-kept.ensures.answer clean before (stands_still old mid before (reads.unchanged early) stands)
            (subst (λ rows. AreSharing rows (entries_of user before)) (sym c.deref.ensures.value) (c.in_ok-rows.ensures.answer early before stands))),
        settled_after old mid new before stands (reads.unchanged early) (c.keep_all.ensures.unchanged clean) (reads.settled early),
      ),
    )
