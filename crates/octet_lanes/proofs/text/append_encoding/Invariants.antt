use Rattle.std.proofs.Common.{◌≡◌, ◌++◌, length}
use Rattle.octet_lanes.specs.Encoding.{encoding_of}
use Rattle.octet_lanes.specs.Held.{IsGrown}
use Rattle.octet_lanes.proofs.text.append_encoding.Given as goal

abbrev pub invariant-whole : goal.invariant-whole
invariant-whole l = record {
  text : l.out.items ++ encoding_of l.alphabet l.rest ≡ l.fn.out.items ++ encoding_of l.alphabet l.octets;
  grown : IsGrown l.fn.out.items l.out.items;
}

abbrev pub decreases-whole : goal.decreases-whole
decreases-whole l = length l.rest
