use Rattle.sieve_vm.proofs.Listed.{final_few, final_stores}
use Rattle.sieve_vm.proofs.laws.outcomes_have_few_actions.Goals as goal

pub returns-clause-actions : goal.returns-clause-actions
returns-clause-actions c = λ code mail actions charged is known outcome. final_few code mail is known actions charged outcome

pub returns-clause-stores : goal.returns-clause-stores
returns-clause-stores c = λ code mail actions charged is known outcome. final_stores code mail is known actions charged outcome
