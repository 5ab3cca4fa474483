use Rattle.bytecode_listing.proofs.Worded.{number_seen, seen_small}
use Rattle.bytecode_listing.proofs.wording.number_of.Goals as goal

pub returns-clause-number : goal.returns-clause-number
returns-clause-number c = number_seen c.args.facet c.args.word.now c.words.result.now c.words.ensures c.place_in.result c.place_in.ensures

pub returns-clause-small : goal.returns-clause-small
returns-clause-small c =
    seen_small c.args.facet c.args.word.now c.place_in.result (number_seen c.args.facet c.args.word.now c.words.result.now c.words.ensures c.place_in.result c.place_in.ensures)
