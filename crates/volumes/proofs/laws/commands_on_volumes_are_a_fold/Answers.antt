use Rattle.volumes.proofs.Stepping.{events_are_steps}
use Rattle.volumes.proofs.laws.commands_on_volumes_are_a_fold.Goals as goal

pub returns : goal.returns
returns c = events_are_steps
