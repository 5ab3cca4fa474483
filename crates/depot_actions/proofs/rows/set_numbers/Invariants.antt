use Rattle.std.proofs.Common.{◌≡◌, ◌+◌, min}
use Rattle.octets.specs.Limits.{max_entry_number}
use Rattle.depot_actions.proofs.Numbering.{numbered_up_to}
use Rattle.depot_actions.proofs.rows.set_numbers.Given as goal

abbrev pub invariant-loop-row : goal.invariant-loop-row
invariant-loop-row l =
    record {
      number : l.number ≡ min (l.first + l.row-index) max_entry_number;
      rows : l.row-items ≡ numbered_up_to l.first l.row-index l.fn.rows.items;
    }
