use Rattle.depot_batch.proofs.Progress.{twice_at_most}
use Rattle.depot_batch.proofs.laws.turns_are_at_most_twice_the_lines.Goals as goal

pub returns : goal.returns
returns c = twice_at_most
