use Rattle.std.proofs.Common.{◌≡◌, ◌+◌, length, map, drop}
use Rattle.sieve_check.specs.Bounded.{AreBoundedTests}
use Rattle.sieve_check.specs.TypedView.{test_form, tests_of}
use Rattle.sieve_compiler.specs.Lengths.{tests_length}
use Rattle.sieve_compiler.specs.Coding.{tests_code}
use Rattle.sieve_compiler.proofs.Leftovers.{Left}
use Rattle.sieve_compiler.proofs.coder.Coder.+tests.Given as goal

abbrev pub invariant-put_tests-tests : goal.invariant-put_tests-tests
invariant-put_tests-tests l = record {
  bounded : AreBoundedTests (tests_of (map test_form (drop l.i l.others)));
  room : length l.self.instructions.items + tests_length (tests_of (map test_form (drop l.i l.others))) ≡ length l.initial.self.instructions.items + tests_length (tests_of (map test_form l.others));
  code : Left l.initial.self l.self
      (λ tables place. tests_code tables place (tests_of (map test_form (drop l.i l.others))) l.list.deciding l.list.exit.asked l.list.following l.list.exit.target)
      (λ tables place. tests_code tables place (tests_of (map test_form l.others)) l.list.deciding l.list.exit.asked l.list.following l.list.exit.target);
}
