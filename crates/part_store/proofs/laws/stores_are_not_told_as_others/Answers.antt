use Rattle.part_store.proofs.Opened.{others_never}
use Rattle.part_store.proofs.laws.stores_are_not_told_as_others.Goals as goal

pub returns : goal.returns
returns g c = others_never
