use Rattle.std.proofs.Common.{false, true, ap, ◌∙◌}
use Rattle.sieve_check.specs.TypedView.{test_form}
use Rattle.sieve_check.proofs.Forms.{form_all_of, form_any_of}
use Rattle.sieve_compiler.proofs.PuttingLemmas.{list_put}
use Rattle.sieve_compiler.proofs.coder.Coder.+tests.Goals as goal

pub put_test-returns-in_ok-put_tests-in-AllOf-clause-code : goal.put_test-returns-in_ok-put_tests-in-AllOf-clause-code
put_test-returns-in_ok-put_tests-in-AllOf-clause-code t c =
    list_put c.args.self.now c.put_test-in-AllOf.new.self c.put_tests.new.self false c.args.exit c.before-in-AllOf.result c.list_exit-list.result
    c.args.test.now c.in-AllOf.first.value c.deref-in-AllOf.result.now c.deref-in-AllOf-3.result.now c.in-AllOf.others.items c.deref-in-AllOf-2.result.now c.deref-in-AllOf-4.result.now c.deref-in-AllOf-5.result.now c.in-AllOf.at
    (ap test_form c.in-AllOf.is ∙ form_all_of c.in-AllOf.first c.in-AllOf.others c.in-AllOf.at) c.deref-in-AllOf.ensures c.deref-in-AllOf-3.ensures c.deref-in-AllOf-2.ensures.value c.deref-in-AllOf-4.ensures.value c.deref-in-AllOf-5.ensures.value
    c.list_exit-list.ensures.deciding c.list_exit-list.ensures.exit c.list_exit-list.ensures.following c.before-in-AllOf.ensures.asked c.before-in-AllOf.ensures.target c.in_ok-put_test-in-AllOf.ensures.code c.in_ok-put_tests-in-AllOf.ensures.code

pub put_test-returns-in_ok-put_tests-in-AnyOf-clause-code : goal.put_test-returns-in_ok-put_tests-in-AnyOf-clause-code
put_test-returns-in_ok-put_tests-in-AnyOf-clause-code t c =
    list_put c.args.self.now c.put_test-in-AnyOf.new.self c.put_tests-in-AnyOf.new.self true c.args.exit c.before-in-AnyOf.result c.list_exit-list-in-AnyOf.result
    c.args.test.now c.in-AnyOf.first.value c.deref-in-AnyOf.result.now c.deref-in-AnyOf-3.result.now c.in-AnyOf.others.items c.deref-in-AnyOf-2.result.now c.deref-in-AnyOf-4.result.now c.deref-in-AnyOf-5.result.now c.in-AnyOf.at
    (ap test_form c.in-AnyOf.is ∙ form_any_of c.in-AnyOf.first c.in-AnyOf.others c.in-AnyOf.at) c.deref-in-AnyOf.ensures c.deref-in-AnyOf-3.ensures c.deref-in-AnyOf-2.ensures.value c.deref-in-AnyOf-4.ensures.value c.deref-in-AnyOf-5.ensures.value
    c.list_exit-list-in-AnyOf.ensures.deciding c.list_exit-list-in-AnyOf.ensures.exit c.list_exit-list-in-AnyOf.ensures.following c.before-in-AnyOf.ensures.asked c.before-in-AnyOf.ensures.target c.in_ok-put_test-in-AnyOf.ensures.code c.in_ok-put_tests-in-AnyOf.ensures.code
