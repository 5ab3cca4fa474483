use Rattle.std.proofs.Common.{◌≡◌, ◌+◌, length}
use Rattle.std.specs.List.{list_any}
use Rattle.octets.specs.Limits.{max_segments}
use Rattle.sieve_references.specs.References.{segments}
use Rattle.sieve_check.specs.Rules.{is_long}
use Rattle.sieve_check.proofs.references.has_large_references.Given as goal

abbrev pub invariant-segments : goal.invariant-segments
invariant-segments l =
    (l.left + length (segments l.string) ≡ max_segments + length (segments l.rest))
    × (list_any is_long (segments l.rest) ≡ list_any is_long (segments l.string))

abbrev pub decreases-segments : goal.decreases-segments
decreases-segments l = length l.rest
