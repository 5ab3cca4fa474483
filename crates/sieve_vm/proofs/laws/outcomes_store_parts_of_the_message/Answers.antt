use Rattle.sieve_vm.proofs.Bounds.{outcome_stores}
use Rattle.sieve_vm.proofs.laws.outcomes_store_parts_of_the_message.Goals as goal

pub returns : goal.returns
returns c = λ code mail actions charged is known. outcome_stores code mail is known actions charged
