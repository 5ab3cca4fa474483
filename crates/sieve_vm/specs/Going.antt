-- Private: how the machine stands for what a run has come to.
use Rattle.std.specs.Prelude.{◌≡◌, ℕ, ◌+◌, true, false}
use Rattle.std.proofs.Props.{props}
use Rattle.mime_decode.specs.Mail.{Mail}
use Rattle.sieve_vm.specs.declared.machine.Flow.{Flow}
use Rattle.sieve_vm.specs.declared.machine.Flow.TheVariants.{On, To, Ends}
use Rattle.sieve_vm.specs.declared.machine.Machine.{Machine}
use Rattle.sieve_vm.specs.declared.machine.Position.{Position}
use Rattle.sieve_vm.specs.declared.machine.Turn as code
use Rattle.sieve_vm.specs.State.{Turn, goes, ends, traps}
use Rattle.sieve_vm.specs.Standing.{Stands}

-- before the first instruction
abbrev pub at_start : code.Turn
at_start = record { position = record { place = 0; charged = 0 }; goes_on = true }

-- where a run is after an instruction of this charge, which was at the position, and whether it goes on from there
abbrev pub gone : Position → ℕ → Flow → code.Turn
gone position cost On = record { position = record { place = position.place + 1; charged = position.charged + cost }; goes_on = true }
gone position cost (To place) = record { position = record { place = place; charged = position.charged + cost }; goes_on = true }
gone position cost Ends = record { position = record { place = position.place; charged = position.charged + cost }; goes_on = false }

-- the machine and its position stand for what a turn comes to, and it is said whether the run goes on from there
abbrev pub StandsFor : Mail → Turn → code.Turn → Machine → Type 0
StandsFor mail (goes state) turn machine = (turn.goes_on ≡ true) × Stands mail state turn.position machine
StandsFor mail (ends state) turn machine = (turn.goes_on ≡ false) × Stands mail state turn.position machine
StandsFor mail traps turn machine = ⊥

-- that is a fact with one proof at most
pub StandsFor-prop : (mail : Mail) (run : Turn) (turn : code.Turn) (machine : Machine) → IsProp (StandsFor mail run turn machine)
StandsFor-prop mail (goes state) turn machine = Prim.hlevel props
StandsFor-prop mail (ends state) turn machine = Prim.hlevel props
StandsFor-prop mail traps turn machine = Prim.hlevel props
