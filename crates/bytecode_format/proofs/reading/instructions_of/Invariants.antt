use Rattle.std.proofs.Common.{◌≡◌, ◌-◌}
use Rattle.bytecode_format.specs.Readers.{instruction_at, many_at}
use Rattle.bytecode_format.proofs.Loop.{with_prefix}
use Rattle.bytecode_format.proofs.reading.instructions_of.Given as goal

abbrev pub invariant-table : goal.invariant-table
invariant-table l = with_prefix l.instructions.items (many_at instruction_at (l.count - l.counter) l.rest) ≡ many_at instruction_at l.count l.octets
