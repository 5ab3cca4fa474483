use Rattle.bytecode_cost.proofs.Chains.{one_chain}
use Rattle.bytecode_cost.proofs.laws.chains_of_one.Goals as goal

pub returns : goal.returns
returns c = one_chain
