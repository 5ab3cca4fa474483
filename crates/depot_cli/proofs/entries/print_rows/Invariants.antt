use Rattle.std.proofs.Common.{map, take}
use Rattle.std.specs.List.{flat_map}
use Rattle.devices.specs.Pages.{Wrote}
use Rattle.part_store.specs.Standing.{listed}
use Rattle.printing.specs.Printed.{line}
use Rattle.depot_cli.specs.Printed.{entry_text}
use Rattle.depot_cli.proofs.entries.print_rows.Given as goal

abbrev pub invariant-rows : goal.invariant-rows
invariant-rows g l = Wrote (flat_map (λ e. line (entry_text l.detail e)) (map listed (take l.row-index l.rows))) l.initial.page l.page
