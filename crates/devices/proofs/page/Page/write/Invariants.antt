use Rattle.std.proofs.Common.{◌-◌, ◌≤◌, length, take}
use Rattle.devices.specs.Pages.{Wrote}
use Rattle.devices.proofs.page.Page.write.Given as goal

abbrev pub invariant-pieces : goal.invariant-pieces
invariant-pieces g l = (l.done ≤ length l.octets) × Wrote (take l.done l.octets) l.initial.self l.self

abbrev pub decreases-pieces : goal.decreases-pieces
decreases-pieces g l = length l.octets - l.done
