use Rattle.std.proofs.Common.{◌≡◌, ◌++◌, map, take}
use Rattle.part_store.specs.Scanning.{lines_shown}
use Rattle.part_store.specs.Scrubbing.{damaged_line}
use Rattle.part_store.proofs.scrubbing.add_rows.Given as goal

abbrev pub invariant-loop-row : goal.invariant-loop-row
invariant-loop-row l = map damaged_line l.found.items ≡ map damaged_line l.initial.found.items ++ lines_shown l.user l.digests.items (take l.row-index l.row-items)
