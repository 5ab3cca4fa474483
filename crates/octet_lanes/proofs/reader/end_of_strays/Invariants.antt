use Rattle.std.proofs.Common.{◌-◌, ◌≡◌, ◌≢◌, ◌<◌, ◌≤◌, ℕ, slice_index}
use Rattle.octet_lanes.specs.Encoding.{padding, stray}
use Rattle.octet_lanes.proofs.reader.end_of_strays.Given as goal

abbrev pub invariant-strays : goal.invariant-strays
invariant-strays l = record {
  start : l.start ≤ l.end;
  within : l.end ≤ 32;
  strays : (i : ℕ) → l.start ≤ i → i < l.end → (slice_index l.classes i ≡ stray) × (slice_index l.block i ≢ padding);
}

abbrev pub decreases-strays : goal.decreases-strays
decreases-strays l = 32 - l.end
