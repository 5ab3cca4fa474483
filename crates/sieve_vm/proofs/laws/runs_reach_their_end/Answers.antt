use Rattle.sieve_vm.proofs.Bounds.{reaches_its_end}
use Rattle.sieve_vm.proofs.laws.runs_reach_their_end.Goals as goal

pub returns : goal.returns
returns c = λ code mail is known. reaches_its_end code mail is known
