use Rattle.std.proofs.Common.{◌≡◌, drop, length, rules}
use Rattle.sieve_explain.specs.Characters.{pieces}
use Rattle.sieve_explain.proofs.Pieces.{drop_end}
use Rattle.sieve_explain.proofs.characters.pieces_from.Goals as goal

pub returns-else-not-is_empty : goal.returns-else-not-is_empty
returns-else-not-is_empty c =
    let none : length c.pieces.rest.now ≡ 0 = search rules in
    drop_end c.pieces.rest.now (drop c.args.number (pieces c.args.text.now)) c.pieces.left none c.pieces.invariant
