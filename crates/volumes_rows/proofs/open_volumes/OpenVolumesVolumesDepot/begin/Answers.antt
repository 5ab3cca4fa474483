use Rattle.std.proofs.Common.{refl}
use Rattle.volumes_rows.proofs.Slots.{is_made}
use Rattle.volumes_rows.proofs.open_volumes.OpenVolumesVolumesDepot.begin.Goals as goal

pub returns-in-Some-clause-made : goal.returns-in-Some-clause-made
returns-in-Some-clause-made g c = is_made g.S.Store c.args.self.now _ c.open.result refl refl c.open.ensures
