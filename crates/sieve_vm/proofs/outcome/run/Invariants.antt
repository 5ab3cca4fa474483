use Rattle.std.proofs.Common.{ℕ, ◌-◌}
use Rattle.sieve_vm.specs.Going.{StandsFor}
use Rattle.sieve_vm.specs.Moment.{come_to}
use Rattle.sieve_vm.specs.Potential.{limit_of}
use Rattle.sieve_vm.proofs.outcome.run.Given as goal

-- the machine stands for what the run has come to after so many steps
abbrev pub invariant-steps : goal.invariant-steps
invariant-steps l = (n : ℕ) × StandsFor l.message (come_to l.program l.message n) l.turn l.machine

-- what is left of the budget
abbrev pub decreases-steps : goal.decreases-steps
decreases-steps l = limit_of l.program l.message - l.turn.position.charged
