use Rattle.sieve_vm.specs.Potential.{limit_of}
use Rattle.sieve_vm.specs.State.{start}
use Rattle.sieve_vm.proofs.SoundSteps.{start_is_reached}
use Rattle.bytecode_trace.proofs.Charging.{all_charged}
use Rattle.bytecode_trace.proofs.laws.steps_charge_what_their_instructions_cost.Goals as goal

pub returns : goal.returns
returns c = λ code mail is known. all_charged code mail is known (limit_of code mail) (start code) (start_is_reached code mail is known)
