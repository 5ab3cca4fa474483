use Rattle.std.proofs.Common.{◌≡◌, map, drop}
use Rattle.sieve_check.specs.TypedView.{test_form, tests_of}
use Rattle.sieve_compiler.specs.Growing.{tests_uses, with_uses}
use Rattle.sieve_compiler.proofs.tables.Tables.+test_uses.Given as goal

-- the numbers that are left, after those that were added, give the same table as all of them
abbrev pub invariant-add_tests-tests : goal.invariant-add_tests-tests
invariant-add_tests-tests l = with_uses l.self (tests_uses (tests_of (map test_form (drop l.test-index l.tests)))) ≡ with_uses l.initial.self (tests_uses (tests_of (map test_form l.tests)))
