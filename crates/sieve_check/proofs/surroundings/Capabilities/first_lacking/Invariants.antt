use Rattle.std.proofs.Common.{◌≡◌, drop}
use Rattle.sieve_check.specs.Surroundings.{first_lacking}
use Rattle.sieve_check.proofs.surroundings.Capabilities.first_lacking.Given as goal

abbrev pub invariant-loop-capability : goal.invariant-loop-capability
invariant-loop-capability l = first_lacking (drop l.capability-index l.needed) l.self ≡ first_lacking l.needed l.self
