use Rattle.sieve_explain.proofs.Pieces.{octets_split}
use Rattle.sieve_explain.proofs.characters.first_octets.Goals as goal

pub returns : goal.returns
returns c =
    octets_split c.args.text.now c.around.result.0.now c.decode-found.result.0 c.decode-found.result.1 c.octets_after_first.result c.decode-found.ensures.char c.decode-found.ensures.size
    c.octets_after_first.ensures c.around.ensures.before
