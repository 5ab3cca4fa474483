use Rattle.std.proofs.Common.{take}
use Rattle.std.specs.List.{flat_map}
use Rattle.devices.specs.Pages.{Wrote}
use Rattle.printing.specs.Printed.{line}
use Rattle.depot_cli.specs.Printed.{damaged_text}
use Rattle.depot_cli.proofs.scrubbing.print_damaged.Given as goal

abbrev pub invariant-entries : goal.invariant-entries
invariant-entries g l = Wrote (flat_map (λ e. line (damaged_text e)) (take l.entry-index l.entries)) l.initial.page l.page
