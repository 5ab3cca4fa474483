use Rattle.std.proofs.Common.{◌≡◌, ◌-◌, ◌≤◌, length, take}
use Rattle.quoted_printable.specs.Private.{AreFor}
use Rattle.quoted_printable.proofs.decode.first_octets.Given as goal

abbrev pub invariant-octets : goal.invariant-octets
invariant-octets l = record {
  long : length l.octets ≡ 32;
  are : AreFor l.text (take l.n l.octets) l.rest;
  few : l.n ≤ 32;
}

abbrev pub decreases-octets : goal.decreases-octets
decreases-octets l = 32 - l.n
