use Rattle.std.proofs.Common.{filter_map, map, subst, take}
use Rattle.catalog.specs.Index.{IsIndex}
use Rattle.catalog.specs.Keeping.{known_as}
use Rattle.catalog.specs.Making.{message_in, parts_above}
use Rattle.catalog.proofs.CatalogLemmas.{got_at, more_picked}
use Rattle.catalog.proofs.catalog.messages_for.Goals as goal

pub loop-entry-preserved : goal.loop-entry-preserved
loop-entry-preserved c =
    let at = c.loop-entry.entry-index in
    let parts = parts_above c.args.after c.args.entries.now in
    let got = got_at c.args.kept.now at c.entry-item.result c.loop-entry-test.true c.entry-item.is in
    subst (IsIndex c.add_message.new.index parts) (more_picked known_as message_in c.args.kept.now at c.entry-item.result got)
    (c.in_ok-add_message.ensures parts (filter_map message_in (map known_as (take at c.args.kept.now))) c.loop-entry.invariant)
