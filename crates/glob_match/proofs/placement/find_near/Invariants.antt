use Rattle.std.proofs.Common.{◌≡◌, ◌-◌, ◌<◌, ℕ, false, drop}
use Rattle.glob_match.specs.Containment.{begins_with}
use Rattle.glob_match.specs.Tokens.{tokens_of}
use Rattle.glob_match.proofs.placement.find_near.Given as goal

abbrev pub invariant-places : goal.invariant-places
invariant-places l = (j : ℕ) → j < l.place → begins_with l.comparator (tokens_of l.segment) (drop j l.value) ≡ false

abbrev pub decreases-places : goal.decreases-places
decreases-places l = l.end - l.place
