use Rattle.sieve_vm.proofs.Listed.{listed_on_the_way}
use Rattle.sieve_vm.proofs.laws.runs_list_what_is_counted.Goals as goal

pub returns : goal.returns
returns c = λ code mail n s r counted. listed_on_the_way counted code mail r.accepted r.known n s r.run
