use Rattle.std.proofs.Common.{take}
use Rattle.devices.specs.Pages.{Wrote}
use Rattle.printing.specs.Printed.{escaped}
use Rattle.printing.proofs.printing.print_escaped.Given as goal

abbrev pub invariant-octets : goal.invariant-octets
invariant-octets g l = Wrote (escaped l.setting (take l.octet-index l.octets)) l.initial.page l.page
