use Rattle.std.proofs.Common.{◌≡◌, ◌≤◌, ◌-◌, ◌++◌, vec_len}
use Rattle.std.specs.List.{All, concat}
use Rattle.depot_batch.specs.Effects.{most_together}
use Rattle.depot_batch.specs.Lines.{IsDeliveryLine}
use Rattle.depot_batch.specs.Private.{lines_of}
use Rattle.depot_batch.proofs.ahead.deliveries_in.Given as goal

abbrev pub invariant-lines : goal.invariant-lines
invariant-lines l = record {
  whole : All IsDeliveryLine (lines_of l.lines.items);
  few : vec_len l.lines ≤ most_together;
  are : l.octets ≡ concat (lines_of l.lines.items) ++ l.rest;
}

abbrev pub decreases-lines : goal.decreases-lines
decreases-lines l = most_together - vec_len l.lines
