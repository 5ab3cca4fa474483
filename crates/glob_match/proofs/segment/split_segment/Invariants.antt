use Rattle.std.proofs.Common.{◌≡◌, ◌+◌, ◌-◌, length, drop}
use Rattle.glob_match.proofs.Segmented.{star_place}
use Rattle.glob_match.proofs.segment.split_segment.Given as goal

abbrev pub invariant-octets : goal.invariant-octets
invariant-octets l = star_place l.key ≡ l.place + star_place (drop l.place l.key)

abbrev pub decreases-octets : goal.decreases-octets
decreases-octets l = length l.key - l.place
