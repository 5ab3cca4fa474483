use Rattle.std.proofs.Common.{◌≡◌, take}
use Rattle.catalog.specs.Making.{parts_above}
use Rattle.catalog.proofs.catalog.entries_above.Given as goal

abbrev pub invariant-loop-entry : goal.invariant-loop-entry
invariant-loop-entry l = l.above.items ≡ parts_above l.after (take l.entry-index l.entries)
