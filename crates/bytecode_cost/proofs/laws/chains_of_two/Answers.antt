use Rattle.bytecode_cost.proofs.Chains.{two_chains}
use Rattle.bytecode_cost.proofs.laws.chains_of_two.Goals as goal

pub returns : goal.returns
returns c = two_chains
