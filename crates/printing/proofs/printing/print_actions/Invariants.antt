use Rattle.std.proofs.Common.{take}
use Rattle.std.specs.List.{flat_map}
use Rattle.devices.specs.Pages.{Wrote}
use Rattle.printing.specs.Printed.{action_text, line}
use Rattle.printing.proofs.printing.print_actions.Given as goal

abbrev pub invariant-actions : goal.invariant-actions
invariant-actions g l = Wrote (flat_map (λ a. line (action_text a)) (take l.action-index l.actions)) l.initial.page l.page
