use Rattle.depot_actions.proofs.Crashing.{sessions_fold}
use Rattle.depot_actions.proofs.laws.runs_are_a_fold.Goals as goal

pub returns : goal.returns
returns c = sessions_fold
