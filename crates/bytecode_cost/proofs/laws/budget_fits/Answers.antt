use Rattle.bytecode_cost.proofs.Powers.{budget_bound}
use Rattle.bytecode_cost.proofs.laws.budget_fits.Goals as goal

pub returns : goal.returns
returns c = budget_bound
