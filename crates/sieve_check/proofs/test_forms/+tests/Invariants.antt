use Rattle.std.proofs.Common.{◌≡◌, drop, map}
use Rattle.std.specs.Prelude.{option_map}
use Rattle.sieve_parser.specs.View.{invocation_tree, more_tests_of}
use Rattle.sieve_check.specs.FormOf.{more_forms_of}
use Rattle.sieve_check.specs.TypedView.{test_form}
use Rattle.sieve_check.proofs.TestLists.{tests_onto}
use Rattle.sieve_check.proofs.test_forms.+tests.Given as goal

abbrev pub invariant-tests-list : goal.invariant-tests-list
invariant-tests-list l = option_map (tests_onto (map test_form l.tests.items)) (more_forms_of l.required (more_tests_of (map invocation_tree (drop l.invocation-index l.list)))) ≡ more_forms_of l.required (more_tests_of (map invocation_tree l.list))
