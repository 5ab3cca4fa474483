use Rattle.std.proofs.Common.{◌≡◌, ◌++◌, ◌≤◌, length}
use Rattle.octet_lanes.specs.Encoding.{all_bits, contains_padding, text_bits}
use Rattle.octet_lanes.specs.Held.{IsGrown}
use Rattle.octet_lanes.proofs.reader.append_runs.Given as goal

abbrev pub invariant-runs : goal.invariant-runs
invariant-runs l = record {
  bits : all_bits 8 l.out.items ++ text_bits l.alphabet l.rest ≡ all_bits 8 l.fn.out.items ++ text_bits l.alphabet l.text;
  ended : contains_padding l.rest ≡ contains_padding l.text;
  shorter : length l.rest ≤ length l.text;
  grown : IsGrown l.fn.out.items l.out.items;
}

abbrev pub decreases-runs : goal.decreases-runs
decreases-runs l = length l.rest
