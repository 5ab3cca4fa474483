use Rattle.bytecode_cost.proofs.Chains.{budget_below}
use Rattle.bytecode_cost.proofs.laws.chains_never_cost_more.Goals as goal

pub returns : goal.returns
returns c = budget_below
