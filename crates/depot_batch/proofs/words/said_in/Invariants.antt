use Rattle.std.proofs.Common.{◌≡◌, length}
use Rattle.depot_batch.specs.Words.{Plain, said_from}
use Rattle.depot_batch.proofs.WordLemmas.{after_said}
use Rattle.depot_batch.proofs.words.said_in.Given as goal

abbrev pub invariant-octets : goal.invariant-octets
invariant-octets l = said_from Plain l.octets ≡ after_said l.said.items (said_from Plain l.rest)

abbrev pub decreases-octets : goal.decreases-octets
decreases-octets l = length l.rest
