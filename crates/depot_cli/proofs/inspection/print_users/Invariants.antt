use Rattle.std.proofs.Common.{take}
use Rattle.devices.specs.Pages.{Wrote}
use Rattle.depot_cli.specs.Printed.{users_text}
use Rattle.depot_cli.proofs.inspection.print_users.Given as goal

abbrev pub invariant-users : goal.invariant-users
invariant-users g l = Wrote (users_text (take l.user-index l.users)) l.initial.page l.page
