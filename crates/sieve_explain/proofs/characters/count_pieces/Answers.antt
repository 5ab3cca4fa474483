use Rattle.std.proofs.Common.{◌≡◌, length, rules}
use Rattle.sieve_explain.specs.Characters.{pieces}
use Rattle.sieve_explain.proofs.Pieces.{count_end}
use Rattle.sieve_explain.proofs.characters.count_pieces.Goals as goal

pub returns : goal.returns
returns c =
    let none : length c.pieces.rest.now ≡ 0 = search rules in
    count_end c.pieces.rest.now c.pieces.count (length (pieces c.args.text.now)) none c.pieces.invariant.0
