use Rattle.bytecode_verifier.proofs.Versions.{budget_in, budget_no_larger}
use Rattle.bytecode_verifier.proofs.laws.budgets_do_not_grow_in_version_two.Goals as goal

pub returns-clause-sums : goal.returns-clause-sums
returns-clause-sums c = λ code. budget_in code 2

pub returns-clause-values : goal.returns-clause-values
returns-clause-values c = budget_no_larger
