use Rattle.std.proofs.Common.{arith}
use Rattle.sieve_vm.proofs.Bounds.{spent, last_step}
use Rattle.sieve_vm.proofs.laws.runs_stay_within_the_budget.Goals as goal

pub returns-clause-charge : goal.returns-clause-charge
returns-clause-charge c = λ code mail n s r. omega (arith, (spent code mail r.accepted r.known n s r.run).0)

pub returns-clause-steps : goal.returns-clause-steps
returns-clause-steps c = λ code mail n s r. let both = spent code mail r.accepted r.known n s r.run in omega (arith, both.0, both.1)

pub returns-clause-ends : goal.returns-clause-ends
returns-clause-ends c = λ code mail n s end r halts. last_step code mail r.accepted r.known n s end r.run halts
