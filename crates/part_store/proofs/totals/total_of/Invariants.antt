use Rattle.std.proofs.Common.{◌≡◌, take, sum_by}
use Rattle.sqlite_value.specs.Order.{column}
use Rattle.part_store.specs.Readings.{number_of}
use Rattle.part_store.proofs.totals.total_of.Given as goal

abbrev pub invariant-loop-row : goal.invariant-loop-row
invariant-loop-row l = l.octets ≡ sum_by (λ r. number_of (column r 1)) (take l.row-index l.rows.items)
