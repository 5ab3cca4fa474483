use Rattle.std.proofs.Common.{refl}
use Rattle.volumes_rows.proofs.Slots.{lent, stays}
use Rattle.volumes_rows.proofs.open_volumes.OpenVolumes.lend.Goals as goal

pub returns-clause-lent : goal.returns-clause-lent
returns-clause-lent g c = lent g.S.Store c.args.place c.args.self.now _ c.take_from.result refl c.take_from.ensures.taken

pub returns-clause-none : goal.returns-clause-none
returns-clause-none g c = λ none. stays g.S.Store c.args.self.now _ refl (c.take_from.ensures.none none)
