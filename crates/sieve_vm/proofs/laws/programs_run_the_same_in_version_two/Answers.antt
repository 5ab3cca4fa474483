use Rattle.sieve_vm.proofs.Versions.{same_step, ends_later, ends_before}
use Rattle.sieve_vm.proofs.laws.programs_run_the_same_in_version_two.Goals as goal

pub returns-clause-step : goal.returns-clause-step
returns-clause-step c = λ code mail is s. same_step code mail is s

pub returns-clause-ends : goal.returns-clause-ends
returns-clause-ends c = λ code mail is end over. ends_later code mail is end over

pub returns-clause-no_other : goal.returns-clause-no_other
returns-clause-no_other c = λ code mail is end over. ends_before code mail is end over
