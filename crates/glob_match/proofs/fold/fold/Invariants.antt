use Rattle.std.proofs.Common.{◌≡◌, ◌≤◌, ◌-◌, length, map, take}
use Rattle.std.specs.Char.{to_ascii_uppercase}
use Rattle.glob_match.proofs.fold.fold.Given as goal

abbrev pub invariant-lanes : goal.invariant-lanes
invariant-lanes l = (l.place ≤ length l.text) × (take l.place l.folded ≡ map to_ascii_uppercase (take l.place l.text))

abbrev pub decreases-lanes : goal.decreases-lanes
decreases-lanes l = length l.text - l.place
