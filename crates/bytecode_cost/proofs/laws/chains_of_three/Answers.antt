use Rattle.bytecode_cost.proofs.Chains.{three_chains}
use Rattle.bytecode_cost.proofs.laws.chains_of_three.Goals as goal

pub returns : goal.returns
returns c = three_chains
