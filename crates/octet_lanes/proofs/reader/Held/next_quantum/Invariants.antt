use Rattle.std.proofs.Common.{◌≡◌, ◌<◌, ◌≤◌, ◌^◌, ◌++◌, false, length}
use Rattle.std.specs.List.{All}
use Rattle.octet_lanes.specs.Encoding.{contains_padding, quantum, text_bits, width}
use Rattle.octet_lanes.specs.Held.{held_bits}
use Rattle.octet_lanes.proofs.reader.Held.next_quantum.Given as goal

abbrev pub invariant-octets : goal.invariant-octets
invariant-octets l = record {
  long : length l.self.values ≡ 32;
  few : l.self.n ≤ quantum l.alphabet;
  more : l.fn.self.n ≤ l.self.n;
  small : All (λ value. value < 2 ^ width l.alphabet) l.self.values;
  goes_on : l.self.ended ≡ false;
  bits : held_bits l.alphabet l.self ++ text_bits l.alphabet l.rest ≡ held_bits l.alphabet l.fn.self ++ text_bits l.alphabet l.text;
  ended : contains_padding l.rest ≡ contains_padding l.text;
  shorter : (length l.rest ≤ length l.text) × (l.fn.self.n < l.self.n → length l.rest < length l.text);
}

abbrev pub decreases-octets : goal.decreases-octets
decreases-octets l = length l.rest
