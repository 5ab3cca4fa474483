-- What a run has come to after so many steps.
use Rattle.std.specs.Prelude.{ℕ, zero, suc, Bool, true, false, Option, Some, None}
use Rattle.bytecode_format.specs.Code.{Code}
use Rattle.mime_decode.specs.Mail.{Mail}
use Rattle.sieve_vm.specs.State.{State, Turn, goes, ends, traps, start}
use Rattle.sieve_vm.specs.Machine.{step}

-- one step further; from an end there is none
abbrev pub further : Code → Mail → Turn → Turn
further code mail (goes state) = step code mail state
further code mail (ends state) = ends state
further code mail traps = traps

-- what the run of a program on a message has come to after so many steps
abbrev pub come_to : Code → Mail → ℕ → Turn
come_to code mail zero = goes (start code)
come_to code mail (suc steps) = further code mail (come_to code mail steps)

-- a run on its way: its program, its message, and how many steps were taken
pub record Moment : Type 0 where
  pub code : Code
  pub mail : Mail
  pub steps : ℕ

-- what it has come to
abbrev pub turn_at : Moment → Turn
turn_at moment = come_to moment.code moment.mail moment.steps

-- whether it goes on from there
abbrev pub goes_on : Turn → Bool
goes_on (goes state) = true
goes_on (ends state) = false
goes_on traps = false

-- the state that it has come to
abbrev pub state_in : Turn → Option State
state_in (goes state) = Some state
state_in (ends state) = Some state
state_in traps = None

abbrev pub state_at : Moment → Option State
state_at moment = state_in (turn_at moment)
