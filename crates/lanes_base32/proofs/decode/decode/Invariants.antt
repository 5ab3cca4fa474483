use Rattle.std.proofs.Common.{◌++◌, ℕ, List, length}
use Rattle.octet_lanes.specs.Encoding.{IsOctets, Spells}
use Rattle.lanes_base32.proofs.decode.decode.Given as goal

abbrev pub invariant-whole : goal.invariant-whole
invariant-whole l = record {
  spelled : (octets : List ℕ) → Spells l.alphabet l.rest octets → Spells l.alphabet l.text (l.out.items ++ octets);
  left : (octets : List ℕ) → IsOctets octets → Spells l.alphabet l.text octets → (more : List ℕ) × IsOctets more × Spells l.alphabet l.rest more;
}

abbrev pub decreases-whole : goal.decreases-whole
decreases-whole l = length l.rest
