use Rattle.sieve_explain.proofs.Pieces.{pieces_split}
use Rattle.sieve_explain.proofs.characters.split_first.Goals as goal

pub returns-clause-pieces : goal.returns-clause-pieces
returns-clause-pieces c =
    pieces_split c.args.text.now c.around.result.0.now c.around.result.1.now c.decode-found.result.0 c.decode-found.result.1 c.octets_after_first-more.result
    c.requires c.decode-found.ensures.char c.decode-found.ensures.size c.octets_after_first-more.ensures c.around.ensures.before c.around.ensures.after
