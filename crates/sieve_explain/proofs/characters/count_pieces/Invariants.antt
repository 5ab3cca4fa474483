use Rattle.std.proofs.Common.{◌≡◌, ◌+◌, ◌≤◌, length}
use Rattle.sieve_explain.specs.Characters.{pieces}
use Rattle.sieve_explain.proofs.characters.count_pieces.Given as goal

abbrev pub invariant-pieces : goal.invariant-pieces
invariant-pieces l = (l.count + length (pieces l.rest) ≡ length (pieces l.text)) × (l.count + length l.rest ≤ length l.text)

abbrev pub decreases-pieces : goal.decreases-pieces
decreases-pieces l = length l.rest
