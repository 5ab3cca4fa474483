use Rattle.depot_batch.proofs.Folding.{left_by_turns}
use Rattle.depot_batch.proofs.laws.crashes_leave_one_turn_whole.Goals as goal

pub returns : goal.returns
returns g c = left_by_turns g.S.Store
