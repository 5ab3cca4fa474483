use Rattle.depot_actions.proofs.SameRuns.{migrated_runs}
use Rattle.depot_actions.proofs.laws.migrated_programs_run_as_before.Goals as goal

pub returns : goal.returns
returns c = migrated_runs
