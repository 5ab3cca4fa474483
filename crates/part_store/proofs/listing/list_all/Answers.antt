use Rattle.std.proofs.Common.{map, ap, ◌∙◌}
use Rattle.part_store.specs.Entries.{listing_of}
use Rattle.part_store.proofs.Runs.{if_ok}
use Rattle.part_store.proofs.Showing.{all_since}
use Rattle.part_store.proofs.listing.list_all.Goals as goal

pub returns-clause-answer : goal.returns-clause-answer
returns-clause-answer g c clean =
    if_ok c.list_since.result _ _ (λ rows told before stands. told before stands ∙ ap (map listing_of) (all_since c.args.user.now before stands.tables.numbers)) (c.list_since.ensures.answer clean)
