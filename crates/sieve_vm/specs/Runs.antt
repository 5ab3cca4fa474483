-- Runs: lists of steps.
use Rattle.std.specs.Prelude.{◌≡◌, ℕ, zero, suc}
use Rattle.bytecode_format.specs.Code.{Code}
use Rattle.bytecode_verifier.specs.Acceptance.{IsAccepted}
use Rattle.mime_decode.specs.Mail.{Mail, IsMail}
use Rattle.sieve_vm.specs.State.{State, goes, ends, start}
use Rattle.sieve_vm.specs.Machine.{step}

-- so many steps lead from one state to the other
abbrev pub Run : Code → Mail → ℕ → State → State → Type 0
Run code mail zero from to = from ≡ to
Run code mail (suc n) from to = (between : State) × (step code mail from ≡ goes between) × Run code mail n between to

-- the run of an accepted program on a message comes to this state in so many steps
pub record Reaches (code : Code) (mail : Mail) (steps : ℕ) (state : State) : Type 0 where
  pub accepted : IsAccepted code
  pub known : IsMail mail
  pub run : Run code mail steps (start code) state

-- the run of a program on a message comes to this end
pub record RunEnds (code : Code) (mail : Mail) (end : State) : Type 0 where
  pub steps : ℕ
  pub last : State
  pub run : Run code mail steps (start code) last
  pub halts : step code mail last ≡ ends end
