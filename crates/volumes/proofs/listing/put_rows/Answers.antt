use Rattle.std.proofs.Common.{◌++◌, map, ap, ◌∙◌}
use Rattle.std.proofs.lemmas.List.{map-append}
use Rattle.part_store.specs.Standing.{listed}
use Rattle.volumes.proofs.listing.put_rows.Goals as goal

pub returns-clause-rows : goal.returns-clause-rows
returns-clause-rows g c = λ sound earlier v later holds at.
    ap (map listed) c.in_ok-put_all.ensures
    ∙ map-append listed c.args.rows.now.items c.in_ok-more.more.items
    ∙ ap (λ xs. map listed c.args.rows.now.items ++ xs) (c.in_ok-more.ensures.rows sound earlier v later holds at)
