use Rattle.std.proofs.Common.{◌^◌, ◌≤◌, inr, subst}
use Rattle.sqlite.specs.Held.{state}
use Rattle.part_store.proofs.Queries.{tells}
use Rattle.part_store.proofs.Sums.{is_total, octets_shown}
use Rattle.part_store.proofs.Shown.{sizes_show}
use Rattle.part_store.proofs.totals.count_contents.Goals as goal

pub returns : goal.returns
returns g c =
    let old = state g.S.Store c.args.tx.now.conn.now in
    let new = state g.S.Store c.list.new.tx.conn.now in
    let rows = c.in_ok-rows.rows.items in
    tells g.S.Store c.args.tx.now.conn c.list.new.tx.conn c.in_ok-rows.rows _ c.in_ok-rows.ensures c.total_of.result _ _ c.total_of.ensures _ _
    (λ step total shown. is_total old new rows total step shown.0 shown.1)
    (λ step e more is before stands. inr (subst (λ n. 2 ^ 64 ≤ n) (octets_shown old new rows step before stands) (more is (sizes_show old new before stands rows step))))
