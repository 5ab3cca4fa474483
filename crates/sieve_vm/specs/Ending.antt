-- What a run comes to.
use Rattle.std.specs.Prelude.{◌≡◌, ℕ, List}
use Rattle.bytecode_format.specs.declared.action.Action.{Action}
use Rattle.bytecode_format.specs.Actions.{final_actions}
use Rattle.bytecode_format.specs.Code.{Code}
use Rattle.mime_decode.specs.Mail.{Mail}
use Rattle.sieve_vm.specs.State.{State}
use Rattle.sieve_vm.specs.Runs.{RunEnds}

-- the run of the program on the message ends with these final actions and this charge
pub record IsOutcome (code : Code) (mail : Mail) (actions : List Action) (charged : ℕ) : Type 0 where
  pub end : State
  pub over : RunEnds code mail end
  pub actions_are : actions ≡ final_actions end.actions end.implicit_keep
  pub charge_is : charged ≡ end.charge
