use Rattle.std.proofs.Common.{refl}
use Rattle.volumes_rows.proofs.Slots.{is_added}
use Rattle.volumes_rows.proofs.open_volumes.OpenVolumes.add.Goals as goal

pub returns : goal.returns
returns g c = is_added g.S.Store c.args.self.now _ c.args.depot refl c.in_ok-push.ensures.items
