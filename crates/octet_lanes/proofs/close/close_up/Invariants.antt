use Rattle.std.proofs.Common.{◌≡◌, ◌-◌, ◌*◌, ◌≤◌, ◌++◌, length, take, replicate}
use Rattle.octet_lanes.specs.Encoding.{stray, values_among}
use Rattle.octet_lanes.proofs.close.close_up.Given as goal

abbrev pub invariant-loop-eighth : goal.invariant-loop-eighth
invariant-loop-eighth l = record {
  number : l.n ≡ length (values_among (take (l.eighth * 8) l.classes));
  room : l.n ≤ l.eighth * 8;
  closed : l.closed ≡ values_among (take (l.eighth * 8) l.classes) ++ replicate (40 - l.n) stray;
}
