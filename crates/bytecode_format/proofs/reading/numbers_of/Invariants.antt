use Rattle.std.proofs.Common.{◌≡◌, ◌-◌}
use Rattle.std.specs.Int.{w64}
use Rattle.bytecode_format.specs.Readers.{number_at, many_at}
use Rattle.bytecode_format.proofs.Loop.{with_prefix}
use Rattle.bytecode_format.proofs.reading.numbers_of.Given as goal

abbrev pub invariant-table : goal.invariant-table
invariant-table l = with_prefix l.numbers.items (many_at (number_at w64) (l.count - l.counter) l.rest) ≡ many_at (number_at w64) l.count l.octets
