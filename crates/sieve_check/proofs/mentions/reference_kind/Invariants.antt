use Rattle.std.proofs.Common.{◌≡◌, length}
use Rattle.sieve_references.specs.References.{segments}
use Rattle.sieve_check.specs.Rules.{reference_kind}
use Rattle.sieve_check.proofs.mentions.reference_kind.Given as goal

abbrev pub invariant-segments : goal.invariant-segments
invariant-segments l = reference_kind (segments l.rest) ≡ reference_kind (segments l.string)

abbrev pub decreases-segments : goal.decreases-segments
decreases-segments l = length l.rest
