use Rattle.std.proofs.Common.{◌≡◌, drop}
use Rattle.sieve_explain.specs.Characters.{pieces}
use Rattle.sieve_explain.proofs.characters.pieces_from.Given as goal

abbrev pub invariant-pieces : goal.invariant-pieces
invariant-pieces l = drop l.left (pieces l.rest) ≡ drop l.number (pieces l.text)

abbrev pub decreases-pieces : goal.decreases-pieces
decreases-pieces l = l.left
