use Rattle.std.proofs.Common.{◌≡◌, filter_map, map, take}
use Rattle.catalog.specs.Keeping.{known_as}
use Rattle.catalog.specs.Making.{part_in}
use Rattle.catalog.proofs.catalog.part_entries.Given as goal

abbrev pub invariant-loop-entry : goal.invariant-loop-entry
invariant-loop-entry l = l.parts.items ≡ filter_map part_in (map known_as (take l.entry-index l.kept))
