use Rattle.sieve_vm.proofs.Bounds.{never_traps}
use Rattle.sieve_vm.proofs.laws.accepted_programs_never_trap.Goals as goal

pub returns : goal.returns
returns c = λ code mail n s r. never_traps code mail r.accepted r.known n s r.run
