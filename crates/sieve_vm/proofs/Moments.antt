-- What a run has come to after so many steps, and how the machine stands for it.
use Rattle.std.proofs.Common.{◌≡◌, ℕ, zero, suc, ◌+◌, ◌^◌, ◌<◌, ◌≤◌, true, false, Some, refl, sym, ap, subst, ◌∙◌, arith}
use Rattle.bytecode_format.specs.Code.{Code}
use Rattle.bytecode_format.specs.Spelling.{IsProgram}
use Rattle.bytecode_verifier.specs.Acceptance.{IsAccepted}
use Rattle.mime_decode.specs.Mail.{Mail, IsMail}
use Rattle.sieve_vm.specs.declared.machine.Machine.{Machine}
use Rattle.sieve_vm.specs.declared.machine.Turn as machine
use Rattle.sieve_vm.specs.State.{State, Turn, goes, ends, traps, start}
use Rattle.sieve_vm.specs.Machine.{step}
use Rattle.sieve_vm.specs.Moment.{further, come_to, goes_on, state_in}
use Rattle.sieve_vm.specs.Runs.{Run, RunEnds}
use Rattle.sieve_vm.specs.Potential.{limit_of}
use Rattle.sieve_vm.specs.Standing.{Represents, Stands, IsIn}
use Rattle.sieve_vm.specs.Going.{StandsFor, at_start}
use Rattle.sieve_vm.proofs.Bounds.{Run-push, spent, last_step, never_traps}
use Rattle.sieve_vm.proofs.Steps.{limit_small}

-- the steps that lead to a state are a run
pub run_to : (code : Code) (mail : Mail) (n : ℕ) (s : State) → come_to code mail n ≡ goes s → Run code mail n (start code) s
run_to code mail zero s e = cc
run_to code mail (suc n) s e = go (come_to code mail n) refl e (λ before is. run_to code mail n before is)
  where
    go : (t : Turn) → come_to code mail n ≡ t → further code mail t ≡ goes s → ((before : State) → come_to code mail n ≡ goes before → Run code mail n (start code) before) → Run code mail (suc n) (start code) s
    go (goes before) is one first = Run-push code mail n (start code) before s (first before is) one
    go (ends end) is one first = absurd cc
    go traps is one first = absurd cc

-- and those that lead to an end are a run that ends
pub run_ends : (code : Code) (mail : Mail) (n : ℕ) (end : State) → come_to code mail n ≡ ends end → RunEnds code mail end
run_ends code mail zero end e = absurd cc
run_ends code mail (suc n) end e = go (come_to code mail n) refl e (λ is. run_ends code mail n end is)
  where
    go : (t : Turn) → come_to code mail n ≡ t → further code mail t ≡ ends end → (come_to code mail n ≡ ends end → RunEnds code mail end) → RunEnds code mail end
    go (goes last) is one before = record { steps = n; last = last; run = run_to code mail n last is; halts = one }
    go (ends other) is one before = before (is ∙ one)
    go traps is one before = absurd cc

module _ (code : Code) (mail : Mail) (is : IsAccepted code) (known : IsMail mail) where
  -- where a run goes on there is a step within the budget
  pub steps_within : (n : ℕ) (s : State) → come_to code mail n ≡ goes s → suc n ≤ limit_of code mail
  steps_within n s at = go (step code mail s) refl
    where
      run : Run code mail n (start code) s
      run = run_to code mail n s at

      go : (t : Turn) → step code mail s ≡ t → suc n ≤ limit_of code mail
      go (goes next) one =
          let all = spent code mail is known (suc n) next (Run-push code mail n (start code) s next run one) in
          omega (arith, all.0, all.1)
      go (ends end) one = last_step code mail is known n s end run one
      go traps one = absurd (never_traps code mail is known n s run one)

-- how the machine stands for a turn
pub stands_as : (mail : Mail) (t : Turn) (turn : machine.Turn) (m : Machine) → StandsFor mail t turn m → turn.goes_on ≡ goes_on t
stands_as mail (goes s) turn m stands = stands.0
stands_as mail (ends s) turn m stands = stands.0
stands_as mail traps turn m stands = absurd stands

pub stands_at : (mail : Mail) (t : Turn) (turn : machine.Turn) (m : Machine) → StandsFor mail t turn m → (s : State) × (state_in t ≡ Some s) × Stands mail s turn.position m
stands_at mail (goes s) turn m stands = (s, refl, stands.1)
stands_at mail (ends s) turn m stands = (s, refl, stands.1)
stands_at mail traps turn m stands = absurd stands

-- it stands for the state that the turn has
pub stands_in : (mail : Mail) (t : Turn) (turn : machine.Turn) (m : Machine) (s : State) → StandsFor mail t turn m → state_in t ≡ Some s → Stands mail s turn.position m
stands_in mail t turn m s stands e =
    let at = stands_at mail t turn m stands in
    let same : at.0 ≡ s = (let both : Some at.0 ≡ Some s = sym at.1 ∙ e in cc) in
    subst (λ x. Stands mail x turn.position m) same at.2

-- where it goes on, the machine is in a state of the run
pub going_at : (code : Code) (mail : Mail) (n : ℕ) (turn : machine.Turn) (m : Machine) → StandsFor mail (come_to code mail n) turn m → goes_on (come_to code mail n) ≡ true → (s : State) × (come_to code mail n ≡ goes s) × IsIn code mail s turn.position m
going_at code mail n turn m = go (come_to code mail n) refl
  where
    go : (t : Turn) → come_to code mail n ≡ t → StandsFor mail t turn m → goes_on t ≡ true → (s : State) × (t ≡ goes s) × IsIn code mail s turn.position m
    go (goes s) is h on = (s, refl, record { steps = n; run = run_to code mail n s is; stands = h.1 })
    go (ends s) is h on = absurd (cc)
    go traps is h on = absurd h

-- and where it doesn't, at the run's end
pub over_at : (code : Code) (mail : Mail) (n : ℕ) (turn : machine.Turn) (m : Machine) → StandsFor mail (come_to code mail n) turn m → goes_on (come_to code mail n) ≡ false → (s : State) × RunEnds code mail s × Stands mail s turn.position m
over_at code mail n turn m = go (come_to code mail n) refl
  where
    go : (t : Turn) → come_to code mail n ≡ t → StandsFor mail t turn m → goes_on t ≡ false → (s : State) × RunEnds code mail s × Stands mail s turn.position m
    go (goes s) is h over = absurd (cc)
    go (ends s) is h over = (s, run_ends code mail n s is, h.1)
    go traps is h over = absurd h

-- before the first step it stands for the start
pub stands_first : (code : Code) (mail : Mail) (turn : machine.Turn) (m : Machine) → turn ≡ at_start → Represents mail (start code) m → StandsFor mail (come_to code mail 0) turn m
stands_first code mail turn m is there = subst (λ x. StandsFor mail (goes (start code)) x m) (sym is) (refl, record { place = refl; charge = refl; holds = there })

-- so after a step the machine stands for what the run has come to with it
pub stands_next : (code : Code) (mail : Mail) (n : ℕ) (s : State) (turn : machine.Turn) (m : Machine) → come_to code mail n ≡ goes s → StandsFor mail (step code mail s) turn m → StandsFor mail (come_to code mail (suc n)) turn m
stands_next code mail n s turn m at stands = subst (λ t. StandsFor mail t turn m) (sym (ap (further code mail) at)) stands

-- the number of steps fits the machine's counter
pub counts : (code : Code) (mail : Mail) (n : ℕ) (s : State) → IsProgram code → IsAccepted code → IsMail mail → come_to code mail n ≡ goes s → n + 1 < 2 ^ 128
counts code mail n s fits is known at = omega (arith, steps_within code mail is known n s at, limit_small code mail fits known)
