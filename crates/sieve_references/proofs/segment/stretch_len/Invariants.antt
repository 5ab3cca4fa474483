use Rattle.std.proofs.Common.{◌≡◌, ◌+◌, length}
use Rattle.sieve_references.specs.Reading.{octets_before}
use Rattle.sieve_references.proofs.segment.stretch_len.Given as goal

abbrev pub invariant-dollars : goal.invariant-dollars
invariant-dollars l = (length l.text ≡ l.len + length l.rest) × (octets_before l.text ≡ l.len + octets_before l.rest)

abbrev pub decreases-dollars : goal.decreases-dollars
decreases-dollars l = length l.rest
