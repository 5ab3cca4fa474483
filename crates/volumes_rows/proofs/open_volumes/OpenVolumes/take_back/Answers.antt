use Rattle.std.proofs.Common.{refl}
use Rattle.volumes_rows.proofs.Slots.{comes_back, is_lost}
use Rattle.volumes_rows.proofs.open_volumes.OpenVolumes.take_back.Goals as goal

pub returns-then-put_into-clause-closed : goal.returns-then-put_into-clause-closed
returns-then-put_into-clause-closed g c = comes_back g.S.Store c.args.place c.args.self.now _ c.args.depot refl (c.put_into.ensures c.if-put_into.true)

pub returns-clause-closed : goal.returns-clause-closed
returns-clause-closed g c = is_lost g.S.Store c.args.place c.args.self.now _ c.args.depot refl
