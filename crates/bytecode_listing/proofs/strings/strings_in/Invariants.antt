use Rattle.std.proofs.Common.{◌≡◌, take, drop}
use Rattle.bytecode_listing.specs.Labels.{strings_in}
use Rattle.bytecode_listing.proofs.strings.strings_in.Given as goal

abbrev pub invariant-table : goal.invariant-table
invariant-table l = l.strings ≡ take l.text-index l.table

abbrev pub invariant-lines : goal.invariant-lines
invariant-lines l = strings_in l.strings (drop l.line-index l.lines) ≡ strings_in l.table l.lines
