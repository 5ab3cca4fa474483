use Rattle.std.proofs.Common.{◌+◌, ◌-◌, ◌*◌, ◌≤◌, length}
use Rattle.sieve_parser.specs.Lexemes.{lexemes}
use Rattle.sieve_parser.specs.View.{invocation_tree}
use Rattle.sieve_parser.proofs.TestSteps.{AreTestsSoFar}
use Rattle.sieve_parser.proofs.invocation.+tests.Given as goal

abbrev pub decreases-invocation : goal.decreases-invocation
decreases-invocation l = 3 * (33 - l.depth) + 2

abbrev pub decreases-test_list : goal.decreases-test_list
decreases-test_list l = 3 * (33 - l.depth) + 1

abbrev pub decreases-test_at : goal.decreases-test_at
decreases-test_at l = 3 * (33 - l.depth)

abbrev pub invariant-test_list-tests : goal.invariant-test_list-tests
invariant-test_list-tests l = (l.next ≤ length (lexemes l.script l.tokens)) × AreTestsSoFar (lexemes l.script l.tokens) l.at l.depth (invocation_tree l.first) l.next l.rest.items

abbrev pub decreases-test_list-tests : goal.decreases-test_list-tests
decreases-test_list-tests l = length (lexemes l.script l.tokens) - l.next
