use Rattle.bytecode_cost.proofs.Chains.{budget_more, turns_more}
use Rattle.bytecode_cost.proofs.laws.budgets_grow_with_the_message.Goals as goal

pub returns-clause-budget : goal.returns-clause-budget
returns-clause-budget c = budget_more

pub returns-clause-turns : goal.returns-clause-turns
returns-clause-turns c = turns_more
