use Rattle.std.proofs.Common.{◌∙◌, ap, map}
use Rattle.sieve_parser.specs.Tree.{no_test, one_test, test_list}
use Rattle.sieve_parser.specs.View.{invocation_tree, more_tests_of}
use Rattle.sieve_parser.proofs.TestSteps.{tree_plain, tree_test, tree_tests}
use Rattle.sieve_check.proofs.surroundings.head_in.Goals as goal

pub returns-in-Plain : goal.returns-in-Plain
returns-in-Plain c = (no_test, ap invocation_tree c.in-Plain.is ∙ tree_plain c.in-Plain.head)

pub returns-in-WithTest : goal.returns-in-WithTest
returns-in-WithTest c = let w = c.in-WithTest in (one_test (invocation_tree w.field-1.value), ap invocation_tree w.is ∙ tree_test w.head w.field-1)

pub returns-in-WithTests : goal.returns-in-WithTests
returns-in-WithTests c =
    let w = c.in-WithTests in
    (test_list (invocation_tree w.field-1.value) (more_tests_of (map invocation_tree w.field-2.items)), ap invocation_tree w.is ∙ tree_tests w.head w.field-1 w.field-2)
