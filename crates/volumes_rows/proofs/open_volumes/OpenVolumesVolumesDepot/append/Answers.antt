use Rattle.std.proofs.Common.{refl}
use Rattle.std.proofs.lemmas.Result.{IfOk-at_ok}
use Rattle.volumes_rows.proofs.Slots.{is_not_added}
use Rattle.volumes_rows.proofs.open_volumes.OpenVolumesVolumesDepot.append.Goals as goal

pub returns-in-Err : goal.returns-in-Err
returns-in-Err g c = is_not_added g.S.Store c.args.self.now _ c.args.depot refl
