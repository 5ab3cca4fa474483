use Rattle.sieve_vm.proofs.Bounds.{outcome_stores}
use Rattle.depot_actions.proofs.checked_program.CheckedProgram.actions_on.Goals as goal

pub returns-clause-parts : goal.returns-clause-parts
returns-clause-parts c = outcome_stores _ c.args.message.now c.self.invariant.accepted c.size-size.ensures.mail _ _ c.in_ok-run.ensures
