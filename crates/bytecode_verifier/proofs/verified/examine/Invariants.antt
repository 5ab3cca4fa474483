use Rattle.bytecode_verifier.specs.Pass.{HasPassed}
use Rattle.bytecode_verifier.proofs.verified.examine.Given as goal

abbrev pub invariant-loop-place : goal.invariant-loop-place
invariant-loop-place l = HasPassed l.program l.place l.pass
