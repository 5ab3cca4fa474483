use Rattle.std.proofs.Common.{map, take}
use Rattle.std.specs.List.{flat_map}
use Rattle.devices.specs.Pages.{Wrote}
use Rattle.depot_batch.specs.Private.{filed_by}
use Rattle.depot_batch.specs.Said.{InLines, filed_in}
use Rattle.depot_batch.proofs.together.print_filed.Given as goal

abbrev pub invariant-replies : goal.invariant-replies
invariant-replies g l = Wrote (flat_map (filed_in InLines) (map filed_by (take l.rows-index l.replies))) l.initial.page l.page
