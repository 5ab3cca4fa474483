use Rattle.sieve_vm.proofs.Looking.{one_finds}
use Rattle.sieve_vm.proofs.laws.what_is_sought_is_found_once.Goals as goal

pub returns : goal.returns
returns c = λ from looks are sought part. one_finds sought part from looks are
