use Rattle.depot_actions.proofs.Folding.{answers_are_steps}
use Rattle.depot_actions.proofs.laws.commands_are_a_fold.Goals as goal

pub returns : goal.returns
returns g c = answers_are_steps g.S.Store
