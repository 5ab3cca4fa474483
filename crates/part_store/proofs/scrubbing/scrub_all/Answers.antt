use Rattle.std.proofs.Common.{◌^◌, ◌≤◌, arith, inl, inr, refl, rules, subst}
use Rattle.sqlite.specs.Held.{state}
use Rattle.sqlite.specs.State.{HasCleanDisk}
use Rattle.part_store.proofs.Afterwards.{asked, went_on, went_on_twice}
use Rattle.part_store.proofs.Runs.{passed}
use Rattle.part_store.proofs.Scrubs.{entries_blamed, reading_blamed, scrubbed, shows_one, stands_one, stands_two}
use Rattle.part_store.proofs.Shown.{sizes_show}
use Rattle.part_store.proofs.Sums.{octets_shown}
use Rattle.part_store.proofs.scrubbing.scrub_all.Goals as goal

pub returns-clause-answer : goal.returns-clause-answer
returns-clause-answer g c clean before stands =
    let old = state g.S.Store c.args.tx.now.conn.now in
    let one = state g.S.Store c.list.new.tx.conn.now in
    let two = state g.S.Store c.damaged_among.new.tx.conn.now in
    let rows = c.in_ok-rows.rows.items in
    let late : HasCleanDisk two = omega (arith, c.entries_naming.ensures.within.survives.clean) in
    let early : HasCleanDisk one = omega (arith, late, c.damaged_among.ensures.within.survives.clean) in
    let reads = c.in_ok-rows.ensures.step early in
    let stays = c.in_ok-digests.ensures.same late in
    scrubbed old one two rows reads before stands stays c.in_ok-contents.contents c.in_ok-digests.digests.items c.len-damaged.result c.in_ok-entries.entries.items c.in_ok-contents.ensures.shown.0 c.in_ok-contents.ensures.shown.1
    (c.in_ok-digests.ensures.answer late before (stands_one old one two rows reads before stands) (shows_one old one two rows reads before stands)) (search rules)
    (c.in_ok-entries.ensures.answer clean before (stands_two old one two rows reads before stands stays)) _ refl refl refl

pub returns-in_err-rows-clause-cause : goal.returns-in_err-rows-clause-cause
returns-in_err-rows-clause-cause g c clean = passed c.from_residual.result _ _ c.from_residual.ensures.1 (λ _ is before stands. inl (c.in_err-rows.ensures.fault clean is stands.schema))

pub returns-in_err-contents-clause-cause : goal.returns-in_err-contents-clause-cause
returns-in_err-contents-clause-cause g c clean =
    let old = state g.S.Store c.args.tx.now.conn.now in
    let new = state g.S.Store c.list.new.tx.conn.now in
    let rows = c.in_ok-rows.rows.items in
    let step = c.in_ok-rows.ensures.step clean in
    passed c.from_residual-in_err-contents.result _ _ c.from_residual-in_err-contents.ensures.1 (λ _ is before stands.
    inr (subst (λ n. 2 ^ 64 ≤ n) (octets_shown old new rows step before stands) (c.in_err-contents.ensures.cause is (sizes_show old new before stands rows step))))

pub returns-in_err-digests-clause-cause : goal.returns-in_err-digests-clause-cause
returns-in_err-digests-clause-cause g c clean =
    let old = state g.S.Store c.args.tx.now.conn.now in
    let one = state g.S.Store c.list.new.tx.conn.now in
    let new = state g.S.Store c.damaged_among.new.tx.conn.now in
    let early : HasCleanDisk one = omega (arith, clean, c.damaged_among.ensures.within.survives.clean) in
    passed c.from_residual-in_err-digests.result _ _ c.from_residual-in_err-digests.ensures.1
    (reading_blamed old one new c.in_ok-rows.rows.items _ (c.in_ok-rows.ensures.step early) c.list.ensures.survives c.damaged_among.ensures.within.survives clean (c.in_err-digests.ensures.cause clean))

pub returns-in_err-entries-clause-cause : goal.returns-in_err-entries-clause-cause
returns-in_err-entries-clause-cause g c clean =
    let old = state g.S.Store c.args.tx.now.conn.now in
    let one = state g.S.Store c.list.new.tx.conn.now in
    let two = state g.S.Store c.damaged_among.new.tx.conn.now in
    let new = state g.S.Store c.entries_naming.new.tx.conn.now in
    let late : HasCleanDisk two = omega (arith, clean, c.entries_naming.ensures.within.survives.clean) in
    let early : HasCleanDisk one = omega (arith, late, c.damaged_among.ensures.within.survives.clean) in
    passed c.from_residual-in_err-entries.result _ _ c.from_residual-in_err-entries.ensures.1
    (entries_blamed old one two new c.in_ok-rows.rows.items _ (c.in_ok-rows.ensures.step early) (c.in_ok-digests.ensures.same late) c.list.ensures.survives c.damaged_among.ensures.within.survives c.entries_naming.ensures.within.survives
    clean (c.in_err-entries.ensures.cause clean))

pub returns-in_err-digests-clause-within : goal.returns-in_err-digests-clause-within
returns-in_err-digests-clause-within g c = went_on g.S.Store (asked g.S.Store c.in_ok-rows.ensures) _ c.damaged_among.ensures.within

pub returns-in_err-entries-clause-within : goal.returns-in_err-entries-clause-within
returns-in_err-entries-clause-within g c = went_on_twice g.S.Store (asked g.S.Store c.in_ok-rows.ensures) _ c.in_ok-digests.ensures.within c.entries_naming.ensures.within

pub returns-clause-within : goal.returns-clause-within
returns-clause-within g c = went_on_twice g.S.Store (asked g.S.Store c.in_ok-rows.ensures) _ c.in_ok-digests.ensures.within c.entries_naming.ensures.within
