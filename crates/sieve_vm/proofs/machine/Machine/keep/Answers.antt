use Rattle.std.proofs.Common.{[], ◌∷◌, ◌++◌}
use Rattle.bytecode_format.specs.declared.action.Action.TheVariants as action
use Rattle.sieve_vm.proofs.machine.Machine.keep.Goals as goal

pub returns-clause-done : goal.returns-clause-done
returns-clause-done c = (c.discard.ensures.flow, λ mail s stands. c.discard.ensures.stands mail (record s { actions = s.actions ++ action.Keep ∷ [] }) (c.in_ok-list.ensures.done mail s stands))
