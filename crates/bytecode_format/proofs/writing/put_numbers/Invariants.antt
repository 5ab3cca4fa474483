use Rattle.std.proofs.Common.{◌≡◌, ◌++◌, take}
use Rattle.std.specs.List.{flat_map}
use Rattle.bytecode_format.specs.Spelling.{eight_octets}
use Rattle.bytecode_format.proofs.writing.put_numbers.Given as goal

abbrev pub invariant-table : goal.invariant-table
invariant-table l = l.out.items ≡ l.initial.out.items ++ flat_map eight_octets (take l.number-index l.numbers)
