use Rattle.std.proofs.Common.{refl}
use Rattle.depot_folder.proofs.Unheld.{nothing_there}
use Rattle.depot_folder.proofs.volume.make_volume.Goals as goal

pub returns-in-Ok-clause-empty : goal.returns-in-Ok-clause-empty
returns-in-Ok-clause-empty c = λ clean. c.in-Ok.ensures.empty clean (nothing_there _ refl)
