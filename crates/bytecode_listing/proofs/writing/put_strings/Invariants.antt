use Rattle.std.proofs.Common.{◌≡◌, ◌++◌, take, All}
use Rattle.std.specs.List.{flat_map}
use Rattle.bytecode_listing.specs.Listing.{AreOctets, string_line}
use Rattle.bytecode_listing.proofs.writing.put_strings.Given as goal

abbrev pub invariant-table : goal.invariant-table
invariant-table l = record {
  lines : l.out.items ≡ l.initial.out.items ++ flat_map string_line (take l.text-index l.strings);
  octets : All AreOctets (take l.text-index l.strings);
}
