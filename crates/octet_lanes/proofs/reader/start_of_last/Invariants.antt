use Rattle.std.proofs.Common.{◌≡◌, ◌+◌, ◌≤◌, drop, length}
use Rattle.octet_lanes.specs.Encoding.{values_among}
use Rattle.octet_lanes.proofs.reader.start_of_last.Given as goal

abbrev pub invariant-values : goal.invariant-values
invariant-values l = record {
  within : l.start ≤ 32;
  values : length (values_among (drop l.start l.classes)) + l.left ≡ l.n;
}

abbrev pub decreases-values : goal.decreases-values
decreases-values l = l.start
