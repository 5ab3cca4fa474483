use Rattle.std.proofs.Common.{◌≡◌, ◌++◌, take}
use Rattle.std.specs.List.{flat_map}
use Rattle.bytecode_listing.specs.Listing.{number_line}
use Rattle.bytecode_listing.proofs.writing.put_numbers.Given as goal

abbrev pub invariant-table : goal.invariant-table
invariant-table l = l.out.items ≡ l.initial.out.items ++ flat_map number_line (take l.number-index l.numbers)
