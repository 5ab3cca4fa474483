use Rattle.bytecode_cost.proofs.Chains.{chains_below}
use Rattle.bytecode_cost.proofs.laws.chains_within_powers.Goals as goal

pub returns : goal.returns
returns c = chains_below
