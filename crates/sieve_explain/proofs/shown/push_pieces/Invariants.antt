use Rattle.std.proofs.Common.{◌≡◌, ◌++◌, take}
use Rattle.sieve_explain.specs.Characters.{pieces}
use Rattle.sieve_explain.specs.Shown.{shown}
use Rattle.sieve_explain.proofs.shown.push_pieces.Given as goal

abbrev pub invariant-pieces : goal.invariant-pieces
invariant-pieces l = l.out.items ++ shown l.style (take l.left (pieces l.rest)) ≡ l.initial.out.items ++ shown l.style (take l.most (pieces l.text))

abbrev pub decreases-pieces : goal.decreases-pieces
decreases-pieces l = l.left
