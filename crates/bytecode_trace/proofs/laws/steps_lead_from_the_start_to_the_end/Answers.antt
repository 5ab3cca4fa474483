use Rattle.std.proofs.Common.{arith}
use Rattle.sieve_vm.specs.Potential.{limit_of}
use Rattle.sieve_vm.specs.State.{start}
use Rattle.sieve_vm.proofs.Bounds.{last_step}
use Rattle.bytecode_trace.proofs.Following.{steps_along}
use Rattle.bytecode_trace.proofs.laws.steps_lead_from_the_start_to_the_end.Goals as goal

pub returns-clause-lead : goal.returns-clause-lead
returns-clause-lead c = λ code mail is known end over.
    let within = last_step code mail is known over.steps over.last end over.run over.halts in
    (steps_along code mail over.steps (limit_of code mail) (start code) over.last end (omega (arith, within)) over.run over.halts).0

pub returns-clause-number : goal.returns-clause-number
returns-clause-number c = λ code mail is known end over.
    let within = last_step code mail is known over.steps over.last end over.run over.halts in
    (steps_along code mail over.steps (limit_of code mail) (start code) over.last end (omega (arith, within)) over.run over.halts).1
