use Rattle.sieve_vm.proofs.Bounds.{falls_along, falls_at_end}
use Rattle.bytecode_verifier.proofs.Nesting.{nesting}
use Rattle.sieve_vm.proofs.Falls.{potential-start}
use Rattle.sieve_vm.proofs.laws.potential_falls_by_each_charge.Goals as goal

pub returns-clause-start : goal.returns-clause-start
returns-clause-start c = λ code mail is. potential-start code mail (nesting code is)

pub returns-clause-step : goal.returns-clause-step
returns-clause-step c = λ code mail n s after r. falls_along code mail r.accepted r.known n s after r.run

pub returns-clause-end : goal.returns-clause-end
returns-clause-end c = λ code mail n s end r. falls_at_end code mail r.accepted r.known n s end r.run
