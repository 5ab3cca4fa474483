use Rattle.std.proofs.Common.{◌≡◌, ◌+◌, map, drop}
use Rattle.sieve_check.specs.TypedView.{test_form, tests_of}
use Rattle.sieve_compiler.specs.Lengths.{tests_length}
use Rattle.sieve_compiler.proofs.lengths.+test_lengths.Given as goal

abbrev pub invariant-tests_length-tests : goal.invariant-tests_length-tests
invariant-tests_length-tests l = l.total + tests_length (tests_of (map test_form (drop l.test-index l.tests))) ≡ tests_length (tests_of (map test_form l.tests))
