use Rattle.depot_actions.proofs.SameRuns.{no_actions_change}
use Rattle.depot_actions.proofs.laws.migrations_change_no_actions.Goals as goal

pub returns : goal.returns
returns c = no_actions_change
