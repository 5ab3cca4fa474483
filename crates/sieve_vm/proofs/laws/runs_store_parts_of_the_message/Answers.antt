use Rattle.sieve_vm.proofs.Bounds.{stored}
use Rattle.sieve_vm.proofs.laws.runs_store_parts_of_the_message.Goals as goal

pub returns : goal.returns
returns c = λ code mail n s r. stored code mail r.accepted r.known n s r.run
