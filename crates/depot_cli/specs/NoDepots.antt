-- Why what isn't opened as it is is no depot.
use Rattle.std.specs.Prelude.{Option, None, Some}
use Rattle.part_store.specs.declared.looking.Unopened.{Unopened}
use Rattle.part_store.specs.declared.looking.Unopened.TheVariants as unopened
use Rattle.depot_cli.specs.declared.no_depot.NoDepot.{NoDepot}
use Rattle.depot_cli.specs.declared.no_depot.NoDepot.TheVariants as why

-- why there is no depot; nothing is known of that where memory was refused
abbrev pub no_depot_of : Unopened → Option NoDepot
no_depot_of unopened.Memory = None
no_depot_of unopened.Held = Some why.Held
no_depot_of unopened.Closed = Some why.Closed
no_depot_of unopened.Damaged = Some why.Damaged
no_depot_of unopened.OtherTables = Some why.OtherTables
no_depot_of unopened.Disk = Some why.Disk
