use Rattle.std.proofs.Common.{rules, ◌≡◌, ◌∙◌, None, Some, sym, ap, map}
use Rattle.std.specs.Prelude.{option_map}
use Rattle.std.proofs.lemmas.List.{drop_all}
use Rattle.sieve_parser.specs.View.{invocation_tree}
use Rattle.sieve_check.specs.declared.form_error.FormError.TheVariants.{Malformed}
use Rattle.sieve_check.specs.FormOf.{one, bracketed, test_form_of, more_forms_of}
use Rattle.sieve_check.specs.Forming.{head_test}
use Rattle.sieve_check.specs.Signatures.{◌>>=◌}
use Rattle.sieve_check.specs.TypedView.{test_form}
use Rattle.sieve_check.proofs.FromIndex.{others_of}
use Rattle.sieve_check.proofs.FormSteps.{form_with_test, form_with_tests, no_others, test_missing, tests_more}
use Rattle.sieve_check.proofs.TestLists.{tests_onto, onto_nothing}
use Rattle.sieve_check.proofs.test_forms.+tests.Goals as goal

pub tests-returns-in_err-test : goal.tests-returns-in_err-test
tests-returns-in_err-test t c =
    let required = c.args.required in
    let none : c.in_err-test.field-0.0 ≡ Malformed → more_forms_of required (others_of c.args.list.now) ≡ None = λ malformed.
    sym c.list.invariant
    ∙ test_missing required c.args.list.now c.list.invocation-index c.invocation-item.result c.list-test.true c.invocation-item.is c.list.tests.items (c.in_err-test.ensures malformed) in
    search rules

pub tests-list-preserved : goal.tests-list-preserved
tests-list-preserved t c =
    rw c.in_ok-push.ensures.items (tests_more c.args.required c.args.list.now c.list.invocation-index c.invocation-item.result c.list-test.true c.invocation-item.is c.list.tests.items c.in_ok-test.test c.in_ok-test.ensures ∙ c.list.invariant)

pub tests-returns : goal.tests-returns
tests-returns t c =
    sym c.list.invariant
    ∙ ap (λ xs. option_map (tests_onto (map test_form c.list.tests.items)) (more_forms_of c.args.required (others_of xs))) (drop_all c.list.invocation-index c.args.list.now c.list-test.false)
    ∙ ap Some (onto_nothing (map test_form c.list.tests.items))

pub test-returns-in_ok-inner-in-WithTest : goal.test-returns-in_ok-inner-in-WithTest
test-returns-in_ok-inner-in-WithTest t c =
    let w = c.in-WithTest in
    let required = c.args.required in
    let inner = sym (ap (λ x. test_form_of required (invocation_tree x)) c.deref.ensures) ∙ c.in_ok-inner-in-WithTest.ensures in
    rw (form_with_test required c.args.invocation.now w.head w.inner w.is ∙ ap (λ o. option_map one o >>= λ inner. head_test required w.head inner) inner) (c.negated.ensures required)

pub test-returns-in_err-others-in-WithTests : goal.test-returns-in_err-others-in-WithTests
test-returns-in_err-others-in-WithTests t c =
    let w = c.in-WithTests in
    let required = c.args.required in
    let none : c.in_err-others-in-WithTests.field-0.0 ≡ Malformed → test_form_of required (invocation_tree c.args.invocation.now) ≡ None = λ malformed.
    form_with_tests required c.args.invocation.now w.head w.first w.others w.is
    ∙ ap (λ o. (test_form_of required (invocation_tree w.first.value) >>= λ f. option_map (bracketed f) o) >>= λ inner. head_test required w.head inner)
    (sym (ap (λ xs. more_forms_of required (others_of xs)) c.deref-in-WithTests.ensures.value) ∙ c.in_err-others-in-WithTests.ensures malformed)
    ∙ no_others (test_form_of required (invocation_tree w.first.value)) (λ inner. head_test required w.head inner) in
    search rules

pub test-returns-in_ok-first-in-WithTests : goal.test-returns-in_ok-first-in-WithTests
test-returns-in_ok-first-in-WithTests t c =
    let w = c.in-WithTests in
    let required = c.args.required in
    let first = sym (ap (λ x. test_form_of required (invocation_tree x)) c.deref-in-WithTests-2.ensures) ∙ c.in_ok-first-in-WithTests.ensures in
    let others = sym (ap (λ xs. more_forms_of required (others_of xs)) c.deref-in-WithTests.ensures.value) ∙ c.in_ok-others-in-WithTests.ensures in
    rw (form_with_tests required c.args.invocation.now w.head w.first w.others w.is
    ∙ ap (λ o. (o >>= λ f. option_map (bracketed f) (more_forms_of required (others_of w.others.items))) >>= λ inner. head_test required w.head inner) first
    ∙ ap (λ o. option_map (bracketed (test_form c.in_ok-first-in-WithTests.first)) o >>= λ inner. head_test required w.head inner) others)
    (c.combined.ensures required)
