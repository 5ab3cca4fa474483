use Rattle.bytecode_verifier.proofs.Budgets.{budget_small}
use Rattle.bytecode_verifier.proofs.laws.budgets_fit_every_message.Goals as goal

pub returns : goal.returns
returns c = λ code fits is n p few parts. budget_small code fits n p few parts
