use Rattle.std.proofs.Common.{map, take}
use Rattle.std.specs.List.{flat_map}
use Rattle.devices.specs.Pages.{Wrote}
use Rattle.depot_batch.specs.Private.{filed_by}
use Rattle.depot_batch.specs.Said.{InShort, filed_in}
use Rattle.depot_batch.proofs.made.print_short.Given as goal

abbrev pub invariant-replies : goal.invariant-replies
invariant-replies g l = Wrote (flat_map (filed_in InShort) (map filed_by (take l.index l.replies))) l.initial.page l.page
