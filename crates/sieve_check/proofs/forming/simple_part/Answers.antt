use Rattle.std.proofs.Common.{inl, inr}
use Rattle.sieve_check.specs.Refusing.{context_of}
use Rattle.sieve_check.proofs.FormSteps.{no_part_with_test, no_part_with_tests}
use Rattle.sieve_check.proofs.forming.simple_part.Goals as goal

pub returns-in-WithTest : goal.returns-in-WithTest
returns-in-WithTest c malformed =
    let s = context_of c.args.surroundings.now in
    elim c.in-WithTest.is [
      | inl w ↦ no_part_with_test s c.args.invocation.now w.0 w.1 w.2
      | inr w ↦ no_part_with_tests s c.args.invocation.now w.0 w.1 w.2 w.3
    ]
