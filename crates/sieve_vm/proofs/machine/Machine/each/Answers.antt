use Rattle.sieve_vm.proofs.machine.Machine.each.Goals as goal

pub returns-then-open-clause-visits : goal.returns-then-open-clause-visits
returns-then-open-clause-visits c = (_, c.open.ensures.opens)

pub returns-else-open-clause-visits : goal.returns-else-open-clause-visits
returns-else-open-clause-visits c = (_, c.open.ensures.opens)
