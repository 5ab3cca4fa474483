use Rattle.std.proofs.Common.{◌≡◌, length}
use Rattle.sieve_references.specs.References.{segments}
use Rattle.sieve_check.specs.Rules.{long_name}
use Rattle.sieve_check.proofs.mentions.long_name.Given as goal

abbrev pub invariant-segments : goal.invariant-segments
invariant-segments l = long_name (segments l.rest) ≡ long_name (segments l.string)

abbrev pub decreases-segments : goal.decreases-segments
decreases-segments l = length l.rest
