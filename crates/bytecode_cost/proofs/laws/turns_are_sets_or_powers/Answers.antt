use Rattle.bytecode_cost.proofs.Chains.{turns_are}
use Rattle.bytecode_cost.proofs.laws.turns_are_sets_or_powers.Goals as goal

pub returns : goal.returns
returns c = turns_are
