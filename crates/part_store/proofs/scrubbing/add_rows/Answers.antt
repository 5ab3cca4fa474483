use Rattle.std.proofs.Common.{◌∙◌, ◌++◌, ◌∷◌, [], List, ap, arith, map, subst, sym, take}
use Rattle.std.specs.List.{AllByRecursion}
use Rattle.std.proofs.lemmas.List.{append_assoc, take_all}
use Rattle.sqlite_value.specs.Order.{Row}
use Rattle.sqlite_rules.proofs.ListLemmas.{all_has, has_at}
use Rattle.part_store.specs.Readings.{IsReadable}
use Rattle.part_store.specs.Scanning.{lines_shown}
use Rattle.part_store.specs.Scrubbing.{damaged_line}
use Rattle.part_store.proofs.Referring.{lines_more}
use Rattle.part_store.proofs.Runs.{passed}
use Rattle.part_store.proofs.scrubbing.add_rows.Goals as goal

pub loop-row-preserved : goal.loop-row-preserved
loop-row-preserved c =
    let rows = c.deref-row-items.result.now in
    let digests = c.args.digests.now.items in
    let user = c.args.user.now in
    let place = c.loop-row.row-index in
    let one = lines_shown user digests (c.row-item.result ∷ []) in
    let before = map damaged_line c.args.found.now.items in
    c.in_ok-add_row.ensures.shown ∙ ap (λ ls. ls ++ one) c.loop-row.invariant ∙ append_assoc before (lines_shown user digests (take place rows)) one
    ∙ sym (ap (λ ls. before ++ ls) (lines_more user digests rows place c.row-item.result c.loop-row-test.true c.row-item.is))

pub returns-clause-shown : goal.returns-clause-shown
returns-clause-shown c =
    let rows = c.deref-row-items.result.now in
    c.loop-row.invariant ∙ ap (λ rs. map damaged_line c.args.found.now.items ++ lines_shown c.args.user.now c.args.digests.now.items rs)
    (take_all c.loop-row.row-index rows (omega (arith, c.loop-row-test.false)) ∙ c.deref-row-items.ensures.value)

pub returns-in_err-add_row-clause-cause : goal.returns-in_err-add_row-clause-cause
returns-in_err-add_row-clause-cause c =
    let rows = c.deref-row-items.result.now in
    passed c.from_residual.result _ _ c.from_residual.ensures.1 (λ is readable.
    c.in_err-add_row.ensures.cause is (all_has IsReadable rows c.row-item.result (subst (λ (rs : List Row). AllByRecursion IsReadable rs) (sym c.deref-row-items.ensures.value) readable)
    (has_at rows c.loop-row.row-index c.row-item.result c.loop-row-test.true c.row-item.is)))
