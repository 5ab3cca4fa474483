use Rattle.std.proofs.Common.{rules, subst}
use Rattle.sqlite.specs.Held.{state}
use Rattle.part_store.specs.Entries.{entries_since}
use Rattle.part_store.specs.Readings.{Shows}
use Rattle.part_store.specs.Sharing.{AreSharing}
use Rattle.part_store.specs.Tables.{contents_tree}
use Rattle.part_store.proofs.Queries.{tells}
use Rattle.part_store.proofs.Referring.{rows_readable}
use Rattle.part_store.proofs.Showing.{all_since, answer_shows}
use Rattle.std.specs.List.{AllZip}
use Rattle.part_store.proofs.listing.list_sharing.Goals as goal

pub returns : goal.returns
returns g c =
    let old = state g.S.Store c.args.tx.now.conn.now in
    let new = state g.S.Store c.list.new.tx.conn.now in
    let rows = c.in_ok-rows.rows.items in
    let user = c.args.user.now in
    tells g.S.Store c.args.tx.now.conn c.list.new.tx.conn c.in_ok-rows.rows _ c.in_ok-rows.ensures c.sharing_in.result _ _ c.sharing_in.ensures _ _
    (λ step sharing shown before stands.
    subst (AreSharing sharing.items) (all_since user before stands.tables.numbers)
    (shown old.now.trees (entries_since user 0 before) stands.tables.single (answer_shows old new user 0 rows step before stands)))
    (λ step e unshown is before stands.
    let shows = subst (AllZip (Shows old.now.trees) rows) (all_since user before stands.tables.numbers) (answer_shows old new user 0 rows step before stands) in
    absurd (unshown is (rows_readable old.now.trees before user rows stands.tables shows)))
