use Rattle.std.proofs.Common.{◌≡◌, map, take}
use Rattle.std.specs.List.{flat_map}
use Rattle.depot_batch.specs.Private.{filed_by}
use Rattle.depot_batch.specs.Said.{InFull, filed_in}
use Rattle.depot_batch.proofs.values.filed_lines.Given as goal

abbrev pub invariant-replies : goal.invariant-replies
invariant-replies l = l.lines.items ≡ flat_map (filed_in InFull) (map filed_by (take l.rows-index l.replies))
