use Rattle.depot_batch.proofs.Taking.{all_taken}
use Rattle.depot_batch.proofs.laws.lines_are_taken_as_answered.Goals as goal

pub returns : goal.returns
returns g c = all_taken g.S.Store
