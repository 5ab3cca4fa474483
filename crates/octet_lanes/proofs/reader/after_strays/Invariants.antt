use Rattle.std.proofs.Common.{◌≡◌, length}
use Rattle.octet_lanes.specs.Encoding.{contains_padding, text_bits}
use Rattle.octet_lanes.proofs.reader.after_strays.Given as goal

abbrev pub invariant-strays : goal.invariant-strays
invariant-strays l = record {
  bits : text_bits l.alphabet l.rest ≡ text_bits l.alphabet l.text;
  ended : contains_padding l.rest ≡ contains_padding l.text;
}

abbrev pub decreases-strays : goal.decreases-strays
decreases-strays l = length l.rest
