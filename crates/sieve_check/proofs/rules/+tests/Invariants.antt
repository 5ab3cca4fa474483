use Rattle.std.proofs.Common.{drop, map}
use Rattle.sieve_parser.specs.View.{invocation_tree, more_tests_of}
use Rattle.sieve_check.specs.Refusing.{context_of}
use Rattle.sieve_check.specs.Rules.{more_visits}
use Rattle.sieve_check.proofs.Visits.{AreLeft}
use Rattle.sieve_check.proofs.rules.+tests.Given as goal

abbrev pub invariant-tests-list : goal.invariant-tests-list
invariant-tests-list l =
    AreLeft l.findings (more_visits (context_of l.surroundings) (more_tests_of (map invocation_tree (drop l.tree-index l.list))))
    l.initial.findings (more_visits (context_of l.surroundings) (more_tests_of (map invocation_tree l.list)))
