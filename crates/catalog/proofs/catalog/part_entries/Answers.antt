use Rattle.std.proofs.Common.{◌++◌, ap, filter_map, ◌∷◌, [], ◌∙◌}
use Rattle.catalog.specs.Keeping.{known_as}
use Rattle.catalog.specs.Making.{part_in}
use Rattle.catalog.proofs.CatalogLemmas.{got_at, more_picked}
use Rattle.catalog.proofs.catalog.part_entries.Goals as goal

pub loop-entry-preserved : goal.loop-entry-preserved
loop-entry-preserved c =
    let at = c.loop-entry.entry-index in
    let got = got_at c.args.kept.now at c.entry-item.result c.loop-entry-test.true c.entry-item.is in
    c.in_ok-add_part_entry.ensures ∙ ap (λ l. l ++ filter_map part_in (known_as c.entry-item.result ∷ [])) c.loop-entry.invariant
    ∙ more_picked known_as part_in c.args.kept.now at c.entry-item.result got
