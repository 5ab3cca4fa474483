use Rattle.std.proofs.Common.{◌≡◌, ◌++◌, drop}
use Rattle.bytecode_listing.specs.Listing.{instruction_lines}
use Rattle.bytecode_listing.specs.Noted.{notes_in}
use Rattle.bytecode_listing.proofs.writing.put_instructions.Given as goal

abbrev pub invariant-table : goal.invariant-table
invariant-table l = l.out.items ++ instruction_lines (notes_in l.notes) l.program l.place (drop l.place l.instructions) ≡ l.initial.out.items ++ instruction_lines (notes_in l.notes) l.program 0 l.instructions
