use Rattle.std.proofs.Common.{◌≡◌, map, take}
use Rattle.part_store.specs.Standing.{listed}
use Rattle.serde_json.specs.View.{view}
use Rattle.depot_batch.specs.Said.{entry_value}
use Rattle.depot_batch.proofs.values.entries_value.Given as goal

abbrev pub invariant-loop-row : goal.invariant-loop-row
invariant-loop-row l = map view l.items.items ≡ map entry_value (map listed (take l.row-index l.rows))
