use Rattle.std.proofs.Common.{◌≡◌, ◌++◌, take}
use Rattle.std.specs.List.{flat_map}
use Rattle.bytecode_format.specs.Spelling.{instruction}
use Rattle.bytecode_format.proofs.writing.put_instructions.Given as goal

abbrev pub invariant-table : goal.invariant-table
invariant-table l = l.out.items ≡ l.initial.out.items ++ flat_map instruction (take l.i-index l.instructions)
