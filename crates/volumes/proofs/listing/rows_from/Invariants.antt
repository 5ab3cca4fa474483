use Rattle.std.proofs.Common.{◌-◌, map}
use Rattle.part_store.specs.Standing.{listed}
use Rattle.volumes.specs.Holding.{Keeps}
use Rattle.volumes.proofs.Listed.{AreListedUpTo}
use Rattle.volumes.proofs.listing.rows_from.Given as goal

abbrev pub invariant-volumes : goal.invariant-volumes
invariant-volumes g l =
    let k = g.V.Volumes.holding in
    record {
      rows : AreListedUpTo k l.initial.volumes l.volumes l.user l.number l.first l.count l.place (map listed l.rows.items);
      keeps : Keeps k l.initial.volumes l.volumes;
    }

abbrev pub decreases-volumes : goal.decreases-volumes
decreases-volumes g l = l.count - l.place
