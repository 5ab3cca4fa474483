use Rattle.std.proofs.Common.{◌≡◌, ◌≤◌, ◌-◌, true, length, take}
use Rattle.glob_match.specs.Comparison.{is_match}
use Rattle.glob_match.specs.declared.comparator.Comparator.TheVariants.{Casemap}
use Rattle.glob_match.proofs.fold.equal_folded.Given as goal

abbrev pub invariant-lanes : goal.invariant-lanes
invariant-lanes l = (l.place ≤ length l.value) × (is_match Casemap (take l.place l.value) (take l.place l.key) ≡ true)

abbrev pub decreases-lanes : goal.decreases-lanes
decreases-lanes l = length l.value - l.place
