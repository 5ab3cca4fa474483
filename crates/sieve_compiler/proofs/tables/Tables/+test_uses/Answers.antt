use Rattle.std.proofs.Common.{◌∙◌}
use Rattle.sieve_compiler.proofs.NumberingLemmas.{list_added, test_added}
use Rattle.sieve_compiler.proofs.tables.Tables.+test_uses.Goals as goal

pub add_test-returns-in_ok-add_test-in-AllOf : goal.add_test-returns-in_ok-add_test-in-AllOf
add_test-returns-in_ok-add_test-in-AllOf t c =
    list_added c.add_tests.result c.args.self.now c.add_test-in-AllOf.new.self c.add_tests.new.self c.args.test.now c.in-AllOf.first c.in-AllOf.others c.deref-in-AllOf.result.now c.deref-in-AllOf-2.result.now
    c.in-AllOf.is c.deref-in-AllOf.ensures c.deref-in-AllOf-2.ensures.value c.in_ok-add_test-in-AllOf.ensures c.add_tests.ensures

pub add_tests-tests-preserved : goal.add_tests-tests-preserved
add_tests-tests-preserved t c =
    test_added c.tests.self c.add_test.new.self c.args.tests.now c.tests.test-index c.test-item.result c.tests-test.true c.test-item.is c.in_ok-add_test.ensures ∙ c.tests.invariant
