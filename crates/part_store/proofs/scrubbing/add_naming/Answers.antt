use Rattle.std.proofs.Common.{subst}
use Rattle.std.specs.List.{AllZip}
use Rattle.sqlite.specs.Held.{state}
use Rattle.part_store.specs.Readings.{Shows}
use Rattle.part_store.specs.Scanning.{lines_shown}
use Rattle.part_store.proofs.Referring.{listed_all, of_user, rows_readable}
use Rattle.part_store.proofs.Runs.{err_then, on_ok_then, passed}
use Rattle.part_store.proofs.Showing.{all_since, answer_shows}
use Rattle.part_store.proofs.scrubbing.add_naming.Goals as goal

pub returns-clause-answer : goal.returns-clause-answer
returns-clause-answer g c clean =
    let old = state g.S.Store c.args.tx.now.conn.now in
    let new = state g.S.Store c.list.new.tx.conn.now in
    let user = c.args.user.now in
    let rows = c.in_ok-rows.rows.items in
    let digests = c.args.digests.now.items in
    let reads = c.in_ok-rows.ensures.step clean in
    on_ok_then c.add_rows.result _ _ (λ added before stands are. (
      lines_shown user digests rows,
      added,
      of_user old.now.trees before stands.tables user rows (listed_all old.now.trees before user rows stands.tables (reads stands.schema).change.1) digests are
          (subst (AllZip (Shows old.now.trees) rows) (all_since user before stands.tables.numbers) (answer_shows old new user 0 rows reads before stands)),
    ))
    c.add_rows.ensures.shown

pub returns-clause-cause : goal.returns-clause-cause
returns-clause-cause g c clean =
    let old = state g.S.Store c.args.tx.now.conn.now in
    let new = state g.S.Store c.list.new.tx.conn.now in
    let user = c.args.user.now in
    let rows = c.in_ok-rows.rows.items in
    err_then c.add_rows.result _ _ (λ e unread is before stands.
    absurd (unread is (rows_readable old.now.trees before user rows stands.tables (subst (AllZip (Shows old.now.trees) rows) (all_since user before stands.tables.numbers)
    (answer_shows old new user 0 rows (c.in_ok-rows.ensures.step clean) before stands))))) c.add_rows.ensures.cause

pub returns-in_err-rows-clause-cause : goal.returns-in_err-rows-clause-cause
returns-in_err-rows-clause-cause g c clean = passed c.from_residual.result _ _ c.from_residual.ensures.1 (λ is before stands. c.in_err-rows.ensures.fault clean is stands.schema)
