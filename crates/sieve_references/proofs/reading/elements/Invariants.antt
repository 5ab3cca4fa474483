use Rattle.std.proofs.Common.{◌≡◌, length}
use Rattle.sieve_references.specs.Reading.{elements}
use Rattle.sieve_references.proofs.reading.elements.Given as goal

abbrev pub invariant-elements : goal.invariant-elements
invariant-elements l = elements l.rest ≡ elements l.text

abbrev pub decreases-elements : goal.decreases-elements
decreases-elements l = length l.rest
