use Rattle.std.proofs.Common.{List, ◌-◌, ◌≤◌, length}
use Rattle.part_store.specs.Entries.{Entries}
use Rattle.volumes.specs.Holding.{Keeps}
use Rattle.volumes.specs.Places.{lasts_of}
use Rattle.volumes.specs.Volumes.{AreVolumes}
use Rattle.volumes.proofs.Halving.{HasHalved, IsBetween}
use Rattle.volumes.proofs.searching.place_of.Given as goal

abbrev pub invariant-halves : goal.invariant-halves
invariant-halves g l =
    let k = g.V.Volumes.holding in
    record {
      keeps : Keeps k l.initial.volumes l.volumes;
      order : l.low ≤ l.high;
      within : l.high ≤ l.count;
      between : k.is_sound l.volumes → (vs : List Entries) → k.holds l.initial.volumes vs → AreVolumes vs → l.count ≤ length vs → IsBetween l.count l.number (lasts_of l.user vs) l.low l.high;
      halved : HasHalved l.count (l.high - l.low) (k.opened l.initial.volumes) (k.opened l.volumes);
    }

abbrev pub decreases-halves : goal.decreases-halves
decreases-halves g l = l.high - l.low
