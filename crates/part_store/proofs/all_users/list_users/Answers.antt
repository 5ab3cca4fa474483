use Rattle.std.proofs.Common.{map, ◌∙◌}
use Rattle.sqlite.specs.Held.{state}
use Rattle.part_store.specs.UserLines.{line_of}
use Rattle.part_store.proofs.Queries.{tells}
use Rattle.part_store.proofs.UserList.{are_users, lines_shown}
use Rattle.part_store.proofs.Shown.{users_show}
use Rattle.part_store.proofs.all_users.list_users.Goals as goal

pub returns : goal.returns
returns g c =
    let old = state g.S.Store c.args.tx.now.conn.now in
    let new = state g.S.Store c.list.new.tx.conn.now in
    let rows = c.in_ok-rows.rows.items in
    tells g.S.Store c.args.tx.now.conn c.list.new.tx.conn c.in_ok-rows.rows _ c.in_ok-rows.ensures c.users_in.result _ _ c.users_in.ensures _ _
    (λ step users shown. are_users old new rows (map line_of users.items) step (lines_shown users.items ∙ shown))
    (λ step e unshown is before stands named. absurd (unshown is (users_show old new before stands rows named step)))
