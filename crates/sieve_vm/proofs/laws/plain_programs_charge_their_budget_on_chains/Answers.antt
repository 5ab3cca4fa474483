use Rattle.sieve_vm.proofs.PlainRuns.{charges_all}
use Rattle.sieve_vm.proofs.laws.plain_programs_charge_their_budget_on_chains.Goals as goal

pub returns : goal.returns
returns c = λ code mail is known two plain chain end over. charges_all code mail is known two plain chain end over
