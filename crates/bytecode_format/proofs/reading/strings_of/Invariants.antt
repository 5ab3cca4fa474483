use Rattle.std.proofs.Common.{◌≡◌, ◌-◌}
use Rattle.bytecode_format.specs.Readers.{string_at, many_at}
use Rattle.bytecode_format.proofs.Loop.{with_prefix}
use Rattle.bytecode_format.proofs.reading.strings_of.Given as goal

abbrev pub invariant-table : goal.invariant-table
invariant-table l = with_prefix l.strings.items (many_at string_at (l.count - l.counter) l.rest) ≡ many_at string_at l.count l.octets
