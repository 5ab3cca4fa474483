use Rattle.std.proofs.Common.{◌≡◌, ◌≤◌, ◌*◌, length, take}
use Rattle.std.specs.List.{flat_map}
use Rattle.bytecode_format.specs.Spelling.{string}
use Rattle.bytecode_format.proofs.building.strings_len.Given as goal

abbrev pub invariant-table : goal.invariant-table
invariant-table l = (l.total ≡ length (flat_map string (take l.text-index l.strings))) × (l.total ≤ l.text-index * 16386)
