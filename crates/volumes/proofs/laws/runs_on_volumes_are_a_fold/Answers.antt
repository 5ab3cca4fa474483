use Rattle.volumes.proofs.Lifting.{past_folds}
use Rattle.volumes.proofs.laws.runs_on_volumes_are_a_fold.Goals as goal

pub returns : goal.returns
returns c = past_folds
