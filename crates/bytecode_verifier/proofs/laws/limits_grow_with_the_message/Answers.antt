use Rattle.bytecode_cost.proofs.Chains.{budget_more}
use Rattle.bytecode_verifier.specs.Budget.{budget_of}
use Rattle.bytecode_verifier.proofs.Numbers.{entries_more, octets_more}
use Rattle.bytecode_verifier.proofs.laws.limits_grow_with_the_message.Goals as goal

pub returns-clause-charge : goal.returns-clause-charge
returns-clause-charge c = λ code. budget_more (budget_of code)

pub returns-clause-entries : goal.returns-clause-entries
returns-clause-entries c = entries_more

pub returns-clause-octets : goal.returns-clause-octets
returns-clause-octets c = octets_more
