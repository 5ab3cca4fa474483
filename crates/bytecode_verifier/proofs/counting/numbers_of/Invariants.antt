use Rattle.std.proofs.Common.{◌≡◌}
use Rattle.bytecode_verifier.specs.Pass.{numbers_below}
use Rattle.bytecode_verifier.proofs.counting.numbers_of.Given as goal

-- the numbers are those of the instructions below the place
abbrev pub invariant-loop-place : goal.invariant-loop-place
invariant-loop-place l = l.numbers ≡ numbers_below l.counted l.program l.place
