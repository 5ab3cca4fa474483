use Rattle.std.proofs.Common.{◌≡◌, length}
use Rattle.std.specs.List.{list_any}
use Rattle.sieve_references.specs.References.{segments}
use Rattle.sieve_check.specs.Rules.{is_wrong}
use Rattle.sieve_check.proofs.references.has_wrong_reference.Given as goal

abbrev pub invariant-segments : goal.invariant-segments
invariant-segments l = list_any is_wrong (segments l.rest) ≡ list_any is_wrong (segments l.string)

abbrev pub decreases-segments : goal.decreases-segments
decreases-segments l = length l.rest
