use Rattle.std.proofs.Common.{filter_map, map, take}
use Rattle.catalog.specs.Index.{IsIndex}
use Rattle.catalog.specs.Keeping.{known_as}
use Rattle.catalog.specs.Making.{message_in, parts_above}
use Rattle.catalog.proofs.catalog.messages_for.Given as goal

abbrev pub invariant-loop-entry : goal.invariant-loop-entry
invariant-loop-entry l = IsIndex l.index (parts_above l.after l.entries) (filter_map message_in (map known_as (take l.entry-index l.kept)))
