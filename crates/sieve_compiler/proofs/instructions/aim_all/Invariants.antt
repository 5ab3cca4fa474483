use Rattle.std.proofs.Common.{◌≡◌}
use Rattle.sieve_compiler.proofs.AimingLemmas.{aimed_up_to}
use Rattle.sieve_compiler.proofs.instructions.aim_all.Given as goal

abbrev pub invariant-loop-instruction : goal.invariant-loop-instruction
invariant-loop-instruction l = l.instructions ≡ aimed_up_to l.target l.instruction-index l.initial.instructions
