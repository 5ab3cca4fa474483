use Rattle.std.proofs.Common.{◌≡◌, refl, arith}
use Rattle.sieve_vm.specs.Potential.{limit_of}
use Rattle.sieve_vm.specs.State.{start}
use Rattle.sieve_vm.proofs.Bounds.{last_step}
use Rattle.sieve_vm.proofs.SoundSteps.{start_is_reached}
use Rattle.bytecode_trace.proofs.Charging.{charged_in_all}
use Rattle.bytecode_trace.proofs.laws.charges_of_steps_are_that_of_the_run.Goals as goal

pub returns : goal.returns
returns c = λ code mail actions charged is known outcome.
    let over = outcome.over in
    let within = last_step code mail is known over.steps over.last outcome.end over.run over.halts in
    let all = charged_in_all code mail is known over.steps (limit_of code mail) (start code) over.last outcome.end (omega (arith, within)) (start_is_reached code mail is known) over.run over.halts in
    let free : (start code).charge ≡ 0 = refl in
    omega (arith, all, outcome.charge_is, free)
