use Rattle.std.proofs.Common.{◌∙◌}
use Rattle.volumes_rows.proofs.Slots.{counted}
use Rattle.volumes_rows.proofs.open_volumes.OpenVolumesVolumesDepot.count.Goals as goal

pub returns : goal.returns
returns g c = λ vs shows. counted g.S.Store c.args.self.now.depots.items c.len.result (c.len.ensures ∙ c.args.self.now.depots.ok.0) vs shows
