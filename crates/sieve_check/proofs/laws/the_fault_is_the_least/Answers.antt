use Rattle.sieve_check.proofs.LeastFault.{least_first}
use Rattle.sieve_check.proofs.laws.the_fault_is_the_least.Goals as goal

pub returns : goal.returns
returns c = least_first
