use Rattle.std.proofs.Common.{◌≡◌, ◌++◌, ◌||◌, length}
use Rattle.octet_lanes.specs.Encoding.{all_bits, contains_padding}
use Rattle.octet_lanes.specs.Held.{IsGrown, IsHeld, kept_bits, taken_bits}
use Rattle.octet_lanes.proofs.reader.Held.read.Given as goal

abbrev pub invariant-quanta : goal.invariant-quanta
invariant-quanta l = record {
  held : IsHeld l.alphabet l.self;
  bits : all_bits 8 l.out.items ++ (kept_bits l.alphabet l.self ++ taken_bits l.alphabet l.self.ended l.rest)
      ≡ all_bits 8 l.fn.out.items ++ (kept_bits l.alphabet l.fn.self ++ taken_bits l.alphabet l.fn.self.ended l.piece);
  ended : (l.self.ended || contains_padding l.rest) ≡ (l.fn.self.ended || contains_padding l.piece);
  grown : IsGrown l.fn.out.items l.out.items;
}

abbrev pub decreases-quanta : goal.decreases-quanta
decreases-quanta l = length l.rest
