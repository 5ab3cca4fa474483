use Rattle.depot_batch.proofs.Folding.{turns_went}
use Rattle.depot_batch.proofs.laws.batches_are_a_fold.Goals as goal

pub returns : goal.returns
returns g c = turns_went g.S.Store
