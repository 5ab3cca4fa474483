use Rattle.std.proofs.Common.{◌≡◌, ◌++◌, length}
use Rattle.std.specs.Prelude.{flat_map}
use Rattle.sieve_references.specs.References.{segments}
use Rattle.sieve_check.specs.FormOf.{meant}
use Rattle.sieve_check.proofs.strings.expanded.Given as goal

abbrev pub invariant-pieces : goal.invariant-pieces
invariant-pieces l = l.all.items ++ flat_map meant (segments l.rest) ≡ flat_map meant (segments l.string)

abbrev pub decreases-pieces : goal.decreases-pieces
decreases-pieces l = length l.rest
