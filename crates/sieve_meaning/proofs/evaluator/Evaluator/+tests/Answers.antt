use Rattle.std.proofs.Common.{◌≡◌, ◌+◌, ◌∙◌, refl, true, false, not, ap, sym, subst, map, drop, ◌++◌}
use Rattle.std.specs.Result.{MatchResult}
use Rattle.std.proofs.lemmas.List.{drop_all}
use Rattle.sieve_check.specs.Typed.{TestForm, no_test, test, asks, negation, all_of, any_of}
use Rattle.sieve_check.specs.TypedView.{strings_form, test_form, tests_of}
use Rattle.sieve_check.proofs.Forms.{form_all_of, form_any_of}
use Rattle.sieve_meaning.specs.Private.{Gives}
use Rattle.sieve_meaning.specs.Meaning.{Effects, turned, test_does, all_do, any_do}
use Rattle.sieve_meaning.specs.Traced.{event, negated, all_held, any_held, on_true, on_false, test_events, all_events, any_events}
use Rattle.sieve_meaning.proofs.MeaningLemmas.{first_test, tests_bounded}
use Rattle.sieve_meaning.proofs.Shapes.{form_asks, form_not}
use Rattle.sieve_meaning.proofs.Steps.{AllRemain, AnyRemain, all_asked, all_decided, all_step, all_stop, all_told, any_asked, any_decided, any_step, any_stop, compound, first_stops, goes_stopped, one_stops, others_stop, passed_on, told_if, told_unless}
use Rattle.sieve_meaning.proofs.evaluator.Evaluator.+tests.Goals as goal

pub all_true-list-preserved : goal.all_true-list-preserved
all_true-list-preserved g t c = (
  tests_bounded c.args.list.now c.list.test-index c.test-item.result c.list-test.true c.test-item.is c.list.invariant.0,
  λ e stands start before told.
      let heard = g.W.Watching.has_heard in
      let mail = c.args.subject.message.now in
      let part = c.args.subject.part in
      let ts = c.args.list.now in
      let whole = tests_of (map test_form ts) in
      let first = test_form c.test-item.result in
      let rest = tests_of (map test_form (drop (c.list.test-index + 1) ts)) in
      let h = subst (λ r. AllRemain (λ xs. heard start xs c.list.watcher) mail part whole e before r c.list.self) (first_test ts c.list.test-index c.test-item.result c.list-test.true c.test-item.is) (c.list.invariant.1 e stands start before told) in
      all_step _ (λ xs. heard start xs c.is_true.new.watcher) mail part whole e before first rest c.in_ok-is_true.field-0 c.list.self c.is_true.new.self h (c.in_ok-is_true.ensures h.effects h.stands start h.events h.told) c.if-not-branch.false,
)

pub all_true-returns-then-not-branch : goal.all_true-returns-then-not-branch
all_true-returns-then-not-branch g t c = λ e stands start before told.
    let heard = g.W.Watching.has_heard in
    let stops = g.W.Watching.has_stopped in
    let mail = c.args.subject.message.now in
    let part = c.args.subject.part in
    let ts = c.args.list.now in
    let whole = tests_of (map test_form ts) in
    let first = test_form c.test-item.result in
    let rest = tests_of (map test_form (drop (c.list.test-index + 1) ts)) in
    let h = subst (λ r. AllRemain (λ xs. heard start xs c.list.watcher) mail part whole e before r c.list.self) (first_test ts c.list.test-index c.test-item.result c.list-test.true c.test-item.is) (c.list.invariant.1 e stands start before told) in
    all_stop _ (λ xs. heard start xs c.is_true.new.watcher) mail part whole e before first rest c.in_ok-is_true.field-0 c.list.self c.is_true.new.self h (c.in_ok-is_true.ensures h.effects h.stands start h.events h.told) c.if-not-branch.true

pub all_true-returns-in_err-is_true : goal.all_true-returns-in_err-is_true
all_true-returns-in_err-is_true g t c = λ e stands start before told.
    let heard = g.W.Watching.has_heard in
    let stops = g.W.Watching.has_stopped in
    let mail = c.args.subject.message.now in
    let part = c.args.subject.part in
    let ts = c.args.list.now in
    let whole = tests_of (map test_form ts) in
    let first = test_form c.test-item.result in
    let rest = tests_of (map test_form (drop (c.list.test-index + 1) ts)) in
    let h = subst (λ r. AllRemain (λ xs. heard start xs c.list.watcher) mail part whole e before r c.list.self) (first_test ts c.list.test-index c.test-item.result c.list-test.true c.test-item.is) (c.list.invariant.1 e stands start before told) in
    passed_on c.from_residual.result _ _ _ c.from_residual.ensures.1
    (goes_stopped _ (λ why xs. stops start why xs c.is_true.new.watcher) _ (λ xs x. all_do mail part xs x) (λ xs x. all_events mail part xs x) whole e before (test first rest) c.list.self h (test_events mail part first h.effects)
    (on_true (test_does mail part first h.effects) (λ x. all_events mail part rest x)) (λ why xs more. g.met.W.Watching.goes_on start c.is_true.new.watcher why xs more) refl (c.in_err-is_true.ensures h.effects h.stands start h.events h.told))

pub all_true-returns : goal.all_true-returns
all_true-returns g t c = λ e stands start before told.
    let heard = g.W.Watching.has_heard in
    let stops = g.W.Watching.has_stopped in
    let mail = c.args.subject.message.now in
    let part = c.args.subject.part in
    let ts = c.args.list.now in
    let whole = tests_of (map test_form ts) in
    let none = ap (λ xs. tests_of (map test_form xs)) (drop_all c.list.test-index ts c.list-test.false) in
    let h = subst (λ r. AllRemain (λ xs. heard start xs c.list.watcher) mail part whole e before r c.list.self) none (c.list.invariant.1 e stands start before told) in (
      subst (λ x. Gives x true c.list.self) h.same (refl, h.stands),
      all_told (λ xs. heard start xs c.list.watcher) (λ xs x. all_do mail part xs x) (λ xs x. all_events mail part xs x) whole e before no_test c.list.self h refl,
    )

pub any_true-list-preserved : goal.any_true-list-preserved
any_true-list-preserved g t c = (
  tests_bounded c.args.list.now c.list.test-index c.test-item.result c.list-test.true c.test-item.is c.list.invariant.0,
  λ e stands start before told.
      let heard = g.W.Watching.has_heard in
      let mail = c.args.subject.message.now in
      let part = c.args.subject.part in
      let ts = c.args.list.now in
      let whole = tests_of (map test_form ts) in
      let first = test_form c.test-item.result in
      let rest = tests_of (map test_form (drop (c.list.test-index + 1) ts)) in
      let h = subst (λ r. AnyRemain (λ xs. heard start xs c.list.watcher) mail part whole e before r c.list.self) (first_test ts c.list.test-index c.test-item.result c.list-test.true c.test-item.is) (c.list.invariant.1 e stands start before told) in
      any_step _ (λ xs. heard start xs c.is_true.new.watcher) mail part whole e before first rest c.in_ok-is_true.field-0 c.list.self c.is_true.new.self h (c.in_ok-is_true.ensures h.effects h.stands start h.events h.told) c.if-branch.false,
)

pub any_true-returns-then-branch : goal.any_true-returns-then-branch
any_true-returns-then-branch g t c = λ e stands start before told.
    let heard = g.W.Watching.has_heard in
    let stops = g.W.Watching.has_stopped in
    let mail = c.args.subject.message.now in
    let part = c.args.subject.part in
    let ts = c.args.list.now in
    let whole = tests_of (map test_form ts) in
    let first = test_form c.test-item.result in
    let rest = tests_of (map test_form (drop (c.list.test-index + 1) ts)) in
    let h = subst (λ r. AnyRemain (λ xs. heard start xs c.list.watcher) mail part whole e before r c.list.self) (first_test ts c.list.test-index c.test-item.result c.list-test.true c.test-item.is) (c.list.invariant.1 e stands start before told) in
    any_stop _ (λ xs. heard start xs c.is_true.new.watcher) mail part whole e before first rest c.in_ok-is_true.field-0 c.list.self c.is_true.new.self h (c.in_ok-is_true.ensures h.effects h.stands start h.events h.told) c.if-branch.true

pub any_true-returns-in_err-is_true : goal.any_true-returns-in_err-is_true
any_true-returns-in_err-is_true g t c = λ e stands start before told.
    let heard = g.W.Watching.has_heard in
    let stops = g.W.Watching.has_stopped in
    let mail = c.args.subject.message.now in
    let part = c.args.subject.part in
    let ts = c.args.list.now in
    let whole = tests_of (map test_form ts) in
    let first = test_form c.test-item.result in
    let rest = tests_of (map test_form (drop (c.list.test-index + 1) ts)) in
    let h = subst (λ r. AnyRemain (λ xs. heard start xs c.list.watcher) mail part whole e before r c.list.self) (first_test ts c.list.test-index c.test-item.result c.list-test.true c.test-item.is) (c.list.invariant.1 e stands start before told) in
    passed_on c.from_residual.result _ _ _ c.from_residual.ensures.1
    (goes_stopped _ (λ why xs. stops start why xs c.is_true.new.watcher) _ (λ xs x. any_do mail part xs x) (λ xs x. any_events mail part xs x) whole e before (test first rest) c.list.self h (test_events mail part first h.effects)
    (on_false (test_does mail part first h.effects) (λ x. any_events mail part rest x)) (λ why xs more. g.met.W.Watching.goes_on start c.is_true.new.watcher why xs more) refl (c.in_err-is_true.ensures h.effects h.stands start h.events h.told))

pub any_true-returns : goal.any_true-returns
any_true-returns g t c = λ e stands start before told.
    let heard = g.W.Watching.has_heard in
    let stops = g.W.Watching.has_stopped in
    let mail = c.args.subject.message.now in
    let part = c.args.subject.part in
    let ts = c.args.list.now in
    let whole = tests_of (map test_form ts) in
    let none = ap (λ xs. tests_of (map test_form xs)) (drop_all c.list.test-index ts c.list-test.false) in
    let h = subst (λ r. AnyRemain (λ xs. heard start xs c.list.watcher) mail part whole e before r c.list.self) none (c.list.invariant.1 e stands start before told) in (
      subst (λ x. Gives x false c.list.self) h.same (refl, h.stands),
      all_told (λ xs. heard start xs c.list.watcher) (λ xs x. any_do mail part xs x) (λ xs x. any_events mail part xs x) whole e before no_test c.list.self h refl,
    )

pub is_true-returns-in_ok-value-in-Not : goal.is_true-returns-in_ok-value-in-Not
is_true-returns-in_ok-value-in-Not g t c = λ e stands start before told.
    let heard = g.W.Watching.has_heard in
    let stops = g.W.Watching.has_stopped in
    let mail = c.args.subject.message.now in
    let part = c.args.subject.part in
    let inner = test_form c.deref.result.now in
    let at = c.in-Not.at in
    let form : test_form c.args.test.now ≡ negation inner at = ap test_form c.in-Not.is ∙ form_not c.in-Not.test at ∙ ap (λ x. negation (test_form x) at) (sym c.deref.ensures) in
    let v = test_does mail part inner e in
    let xs = test_events mail part inner e in
    let asked = c.in_ok-value-in-Not.ensures e stands start before told in
    let gives = ap not asked.0.0 in
    subst (λ tf. MatchResult c.say.result (λ x. Gives (test_does mail part tf e) x c.is_true.new.self × heard start (before ++ test_events mail part tf e) c.say.new.watcher) (λ why. stops start why (before ++ test_events mail part tf e) c.say.new.watcher)) (sym form)
    (compound (λ ys. heard start ys c.say.new.watcher) (λ why ys. stops start why ys c.say.new.watcher) c.say.result (turned v) (not c.in_ok-value-in-Not.field-0) c.is_true.new.self before xs (event at part (negated (turned v).value)) (gives, asked.0.1)
    (c.say.ensures (negated (turned v).value) (ap negated gives) start (before ++ xs) asked.1))

pub is_true-returns-in_err-value-in-Not : goal.is_true-returns-in_err-value-in-Not
is_true-returns-in_err-value-in-Not g t c = λ e stands start before told.
    let heard = g.W.Watching.has_heard in
    let stops = g.W.Watching.has_stopped in
    let mail = c.args.subject.message.now in
    let part = c.args.subject.part in
    let inner = test_form c.deref.result.now in
    let at = c.in-Not.at in
    let form : test_form c.args.test.now ≡ negation inner at = ap test_form c.in-Not.is ∙ form_not c.in-Not.test at ∙ ap (λ x. negation (test_form x) at) (sym c.deref.ensures) in
    let v = test_does mail part inner e in
    let xs = test_events mail part inner e in
    subst (λ tf. MatchResult c.from_residual.result (λ x. Gives (test_does mail part tf e) x c.is_true.new.self × heard start (before ++ test_events mail part tf e) c.is_true.new.watcher) (λ why. stops start why (before ++ test_events mail part tf e) c.is_true.new.watcher)) (sym form)
    (passed_on c.from_residual.result _ _ _ c.from_residual.ensures.1
    (one_stops (λ why ys. stops start why ys c.is_true.new.watcher) _ before xs _ (λ why ys more. g.met.W.Watching.goes_on start c.is_true.new.watcher why ys more) (c.in_err-value-in-Not.ensures e stands start before told)))

pub is_true-returns-in_err-is_true-in-AllOf : goal.is_true-returns-in_err-is_true-in-AllOf
is_true-returns-in_err-is_true-in-AllOf g t c = λ e stands start before told.
    let heard = g.W.Watching.has_heard in
    let stops = g.W.Watching.has_stopped in
    let mail = c.args.subject.message.now in
    let part = c.args.subject.part in
    let first = test_form c.deref-in-AllOf.result.now in
    let rest = tests_of (map test_form c.in-AllOf.others.items) in
    let whole : TestForm = all_of first rest c.in-AllOf.at in
    let form : test_form c.args.test.now ≡ whole = ap test_form c.in-AllOf.is ∙ form_all_of c.in-AllOf.first c.in-AllOf.others c.in-AllOf.at ∙ ap (λ x. all_of (test_form x) rest c.in-AllOf.at) (sym c.deref-in-AllOf.ensures) in
    let v = test_does mail part first e in
    let xs = test_events mail part first e in
    let next = λ (x : Effects). all_do mail part rest x in
    let more = λ (x : Effects). all_events mail part rest x in
    subst (λ tf. MatchResult c.from_residual-in_err-is_true-in-AllOf.result (λ x. Gives (test_does mail part tf e) x c.is_true-in-AllOf.new.self × heard start (before ++ test_events mail part tf e) c.is_true-in-AllOf.new.watcher) (λ why. stops start why (before ++ test_events mail part tf e) c.is_true-in-AllOf.new.watcher)) (sym form)
    (passed_on c.from_residual-in_err-is_true-in-AllOf.result _ _ _ c.from_residual-in_err-is_true-in-AllOf.ensures.1
    (first_stops (λ why ys. stops start why ys c.is_true-in-AllOf.new.watcher) _ before xs (on_true v more) _ (λ why ys zs. g.met.W.Watching.goes_on start c.is_true-in-AllOf.new.watcher why ys zs) (c.in_err-is_true-in-AllOf.ensures e stands start before told)))

pub is_true-returns-then-not-branch : goal.is_true-returns-then-not-branch
is_true-returns-then-not-branch g t c = λ e stands start before told.
    let heard = g.W.Watching.has_heard in
    let stops = g.W.Watching.has_stopped in
    let mail = c.args.subject.message.now in
    let part = c.args.subject.part in
    let first = test_form c.deref-in-AllOf.result.now in
    let rest = tests_of (map test_form c.in-AllOf.others.items) in
    let whole : TestForm = all_of first rest c.in-AllOf.at in
    let form : test_form c.args.test.now ≡ whole = ap test_form c.in-AllOf.is ∙ form_all_of c.in-AllOf.first c.in-AllOf.others c.in-AllOf.at ∙ ap (λ x. all_of (test_form x) rest c.in-AllOf.at) (sym c.deref-in-AllOf.ensures) in
    let v = test_does mail part first e in
    let xs = test_events mail part first e in
    let next = λ (x : Effects). all_do mail part rest x in
    let more = λ (x : Effects). all_events mail part rest x in
    let asked = c.in_ok-is_true-in-AllOf.ensures e stands start before told in
    let inner = all_decided (λ zs. heard start zs c.is_true-in-AllOf.new.watcher) v c.in_ok-is_true-in-AllOf.field-0 c.is_true-in-AllOf.new.self before xs next more asked c.if-not-branch.true in
    let all = test_does mail part whole e in
    let ys = xs ++ on_true v more in
    subst (λ tf. MatchResult c.say-then-not-branch.result (λ x. Gives (test_does mail part tf e) x c.is_true-in-AllOf.new.self × heard start (before ++ test_events mail part tf e) c.say-then-not-branch.new.watcher) (λ why. stops start why (before ++ test_events mail part tf e) c.say-then-not-branch.new.watcher)) (sym form)
    (compound (λ zs. heard start zs c.say-then-not-branch.new.watcher) (λ why zs. stops start why zs c.say-then-not-branch.new.watcher) c.say-then-not-branch.result all false c.is_true-in-AllOf.new.self before ys (event c.in-AllOf.at part (all_held all.value)) inner.0
    (c.say-then-not-branch.ensures (all_held all.value) (ap all_held inner.0.0) start (before ++ ys) inner.1))

pub is_true-returns-in_ok-value-in-AllOf : goal.is_true-returns-in_ok-value-in-AllOf
is_true-returns-in_ok-value-in-AllOf g t c = λ e stands start before told.
    let heard = g.W.Watching.has_heard in
    let stops = g.W.Watching.has_stopped in
    let mail = c.args.subject.message.now in
    let part = c.args.subject.part in
    let first = test_form c.deref-in-AllOf.result.now in
    let rest = tests_of (map test_form c.deref-in-AllOf-2.result.now) in
    let whole : TestForm = all_of first rest c.in-AllOf.at in
    let form : test_form c.args.test.now ≡ whole = ap test_form c.in-AllOf.is ∙ form_all_of c.in-AllOf.first c.in-AllOf.others c.in-AllOf.at ∙ ap (λ x. all_of (test_form x) (tests_of (map test_form c.in-AllOf.others.items)) c.in-AllOf.at) (sym c.deref-in-AllOf.ensures) ∙ ap (λ ys. all_of first (tests_of (map test_form ys)) c.in-AllOf.at) (sym c.deref-in-AllOf-2.ensures.value) in
    let v = test_does mail part first e in
    let xs = test_events mail part first e in
    let next = λ (x : Effects). all_do mail part rest x in
    let more = λ (x : Effects). all_events mail part rest x in
    let asked = c.in_ok-is_true-in-AllOf.ensures e stands start before told in
    let inner = all_asked (λ zs. heard start zs c.all_true.new.watcher) v c.in_ok-is_true-in-AllOf.field-0 c.in_ok-value-in-AllOf.value c.all_true.new.self before xs next more asked.0.0 c.if-not-branch.false (c.in_ok-value-in-AllOf.ensures v.effects asked.0.1 start (before ++ xs) asked.1) in
    let all = test_does mail part whole e in
    let ys = xs ++ on_true v more in
    subst (λ tf. MatchResult c.say-in-AllOf.result (λ x. Gives (test_does mail part tf e) x c.all_true.new.self × heard start (before ++ test_events mail part tf e) c.say-in-AllOf.new.watcher) (λ why. stops start why (before ++ test_events mail part tf e) c.say-in-AllOf.new.watcher)) (sym form)
    (compound (λ zs. heard start zs c.say-in-AllOf.new.watcher) (λ why zs. stops start why zs c.say-in-AllOf.new.watcher) c.say-in-AllOf.result all c.in_ok-value-in-AllOf.value c.all_true.new.self before ys (event c.in-AllOf.at part (all_held all.value)) inner.0
    (c.say-in-AllOf.ensures (all_held all.value) (ap all_held inner.0.0) start (before ++ ys) inner.1))

pub is_true-returns-in_err-value-in-AllOf : goal.is_true-returns-in_err-value-in-AllOf
is_true-returns-in_err-value-in-AllOf g t c = λ e stands start before told.
    let heard = g.W.Watching.has_heard in
    let stops = g.W.Watching.has_stopped in
    let mail = c.args.subject.message.now in
    let part = c.args.subject.part in
    let first = test_form c.deref-in-AllOf.result.now in
    let rest = tests_of (map test_form c.deref-in-AllOf-2.result.now) in
    let whole : TestForm = all_of first rest c.in-AllOf.at in
    let form : test_form c.args.test.now ≡ whole = ap test_form c.in-AllOf.is ∙ form_all_of c.in-AllOf.first c.in-AllOf.others c.in-AllOf.at ∙ ap (λ x. all_of (test_form x) (tests_of (map test_form c.in-AllOf.others.items)) c.in-AllOf.at) (sym c.deref-in-AllOf.ensures) ∙ ap (λ ys. all_of first (tests_of (map test_form ys)) c.in-AllOf.at) (sym c.deref-in-AllOf-2.ensures.value) in
    let v = test_does mail part first e in
    let xs = test_events mail part first e in
    let next = λ (x : Effects). all_do mail part rest x in
    let more = λ (x : Effects). all_events mail part rest x in
    let asked = c.in_ok-is_true-in-AllOf.ensures e stands start before told in
    subst (λ tf. MatchResult c.from_residual-in_err-value-in-AllOf.result (λ x. Gives (test_does mail part tf e) x c.all_true.new.self × heard start (before ++ test_events mail part tf e) c.all_true.new.watcher) (λ why. stops start why (before ++ test_events mail part tf e) c.all_true.new.watcher)) (sym form)
    (passed_on c.from_residual-in_err-value-in-AllOf.result _ _ _ c.from_residual-in_err-value-in-AllOf.ensures.1
    (others_stop (λ why ys. stops start why ys c.all_true.new.watcher) _ before xs (on_true v more) (more v.effects) _ (λ why ys zs. g.met.W.Watching.goes_on start c.all_true.new.watcher why ys zs) (told_if v c.in_ok-is_true-in-AllOf.field-0 more asked.0.0 c.if-not-branch.false)
    (c.in_err-value-in-AllOf.ensures v.effects asked.0.1 start (before ++ xs) asked.1)))

pub is_true-returns-in_err-is_true-in-AnyOf : goal.is_true-returns-in_err-is_true-in-AnyOf
is_true-returns-in_err-is_true-in-AnyOf g t c = λ e stands start before told.
    let heard = g.W.Watching.has_heard in
    let stops = g.W.Watching.has_stopped in
    let mail = c.args.subject.message.now in
    let part = c.args.subject.part in
    let first = test_form c.deref-in-AnyOf.result.now in
    let rest = tests_of (map test_form c.in-AnyOf.others.items) in
    let whole : TestForm = any_of first rest c.in-AnyOf.at in
    let form : test_form c.args.test.now ≡ whole = ap test_form c.in-AnyOf.is ∙ form_any_of c.in-AnyOf.first c.in-AnyOf.others c.in-AnyOf.at ∙ ap (λ x. any_of (test_form x) rest c.in-AnyOf.at) (sym c.deref-in-AnyOf.ensures) in
    let v = test_does mail part first e in
    let xs = test_events mail part first e in
    let next = λ (x : Effects). any_do mail part rest x in
    let more = λ (x : Effects). any_events mail part rest x in
    subst (λ tf. MatchResult c.from_residual-in_err-is_true-in-AnyOf.result (λ x. Gives (test_does mail part tf e) x c.is_true-in-AnyOf.new.self × heard start (before ++ test_events mail part tf e) c.is_true-in-AnyOf.new.watcher) (λ why. stops start why (before ++ test_events mail part tf e) c.is_true-in-AnyOf.new.watcher)) (sym form)
    (passed_on c.from_residual-in_err-is_true-in-AnyOf.result _ _ _ c.from_residual-in_err-is_true-in-AnyOf.ensures.1
    (first_stops (λ why ys. stops start why ys c.is_true-in-AnyOf.new.watcher) _ before xs (on_false v more) _ (λ why ys zs. g.met.W.Watching.goes_on start c.is_true-in-AnyOf.new.watcher why ys zs) (c.in_err-is_true-in-AnyOf.ensures e stands start before told)))

pub is_true-returns-then-branch : goal.is_true-returns-then-branch
is_true-returns-then-branch g t c = λ e stands start before told.
    let heard = g.W.Watching.has_heard in
    let stops = g.W.Watching.has_stopped in
    let mail = c.args.subject.message.now in
    let part = c.args.subject.part in
    let first = test_form c.deref-in-AnyOf.result.now in
    let rest = tests_of (map test_form c.in-AnyOf.others.items) in
    let whole : TestForm = any_of first rest c.in-AnyOf.at in
    let form : test_form c.args.test.now ≡ whole = ap test_form c.in-AnyOf.is ∙ form_any_of c.in-AnyOf.first c.in-AnyOf.others c.in-AnyOf.at ∙ ap (λ x. any_of (test_form x) rest c.in-AnyOf.at) (sym c.deref-in-AnyOf.ensures) in
    let v = test_does mail part first e in
    let xs = test_events mail part first e in
    let next = λ (x : Effects). any_do mail part rest x in
    let more = λ (x : Effects). any_events mail part rest x in
    let asked = c.in_ok-is_true-in-AnyOf.ensures e stands start before told in
    let inner = any_decided (λ zs. heard start zs c.is_true-in-AnyOf.new.watcher) v c.in_ok-is_true-in-AnyOf.field-0 c.is_true-in-AnyOf.new.self before xs next more asked c.if-branch.true in
    let all = test_does mail part whole e in
    let ys = xs ++ on_false v more in
    subst (λ tf. MatchResult c.say-then-branch.result (λ x. Gives (test_does mail part tf e) x c.is_true-in-AnyOf.new.self × heard start (before ++ test_events mail part tf e) c.say-then-branch.new.watcher) (λ why. stops start why (before ++ test_events mail part tf e) c.say-then-branch.new.watcher)) (sym form)
    (compound (λ zs. heard start zs c.say-then-branch.new.watcher) (λ why zs. stops start why zs c.say-then-branch.new.watcher) c.say-then-branch.result all true c.is_true-in-AnyOf.new.self before ys (event c.in-AnyOf.at part (any_held all.value)) inner.0
    (c.say-then-branch.ensures (any_held all.value) (ap any_held inner.0.0) start (before ++ ys) inner.1))

pub is_true-returns-in_ok-value-in-AnyOf : goal.is_true-returns-in_ok-value-in-AnyOf
is_true-returns-in_ok-value-in-AnyOf g t c = λ e stands start before told.
    let heard = g.W.Watching.has_heard in
    let stops = g.W.Watching.has_stopped in
    let mail = c.args.subject.message.now in
    let part = c.args.subject.part in
    let first = test_form c.deref-in-AnyOf.result.now in
    let rest = tests_of (map test_form c.deref-in-AnyOf-2.result.now) in
    let whole : TestForm = any_of first rest c.in-AnyOf.at in
    let form : test_form c.args.test.now ≡ whole = ap test_form c.in-AnyOf.is ∙ form_any_of c.in-AnyOf.first c.in-AnyOf.others c.in-AnyOf.at ∙ ap (λ x. any_of (test_form x) (tests_of (map test_form c.in-AnyOf.others.items)) c.in-AnyOf.at) (sym c.deref-in-AnyOf.ensures) ∙ ap (λ ys. any_of first (tests_of (map test_form ys)) c.in-AnyOf.at) (sym c.deref-in-AnyOf-2.ensures.value) in
    let v = test_does mail part first e in
    let xs = test_events mail part first e in
    let next = λ (x : Effects). any_do mail part rest x in
    let more = λ (x : Effects). any_events mail part rest x in
    let asked = c.in_ok-is_true-in-AnyOf.ensures e stands start before told in
    let inner = any_asked (λ zs. heard start zs c.any_true.new.watcher) v c.in_ok-is_true-in-AnyOf.field-0 c.in_ok-value-in-AnyOf.value c.any_true.new.self before xs next more asked.0.0 c.if-branch.false (c.in_ok-value-in-AnyOf.ensures v.effects asked.0.1 start (before ++ xs) asked.1) in
    let all = test_does mail part whole e in
    let ys = xs ++ on_false v more in
    subst (λ tf. MatchResult c.say-in-AnyOf.result (λ x. Gives (test_does mail part tf e) x c.any_true.new.self × heard start (before ++ test_events mail part tf e) c.say-in-AnyOf.new.watcher) (λ why. stops start why (before ++ test_events mail part tf e) c.say-in-AnyOf.new.watcher)) (sym form)
    (compound (λ zs. heard start zs c.say-in-AnyOf.new.watcher) (λ why zs. stops start why zs c.say-in-AnyOf.new.watcher) c.say-in-AnyOf.result all c.in_ok-value-in-AnyOf.value c.any_true.new.self before ys (event c.in-AnyOf.at part (any_held all.value)) inner.0
    (c.say-in-AnyOf.ensures (any_held all.value) (ap any_held inner.0.0) start (before ++ ys) inner.1))

pub is_true-returns-in_err-value-in-AnyOf : goal.is_true-returns-in_err-value-in-AnyOf
is_true-returns-in_err-value-in-AnyOf g t c = λ e stands start before told.
    let heard = g.W.Watching.has_heard in
    let stops = g.W.Watching.has_stopped in
    let mail = c.args.subject.message.now in
    let part = c.args.subject.part in
    let first = test_form c.deref-in-AnyOf.result.now in
    let rest = tests_of (map test_form c.deref-in-AnyOf-2.result.now) in
    let whole : TestForm = any_of first rest c.in-AnyOf.at in
    let form : test_form c.args.test.now ≡ whole = ap test_form c.in-AnyOf.is ∙ form_any_of c.in-AnyOf.first c.in-AnyOf.others c.in-AnyOf.at ∙ ap (λ x. any_of (test_form x) (tests_of (map test_form c.in-AnyOf.others.items)) c.in-AnyOf.at) (sym c.deref-in-AnyOf.ensures) ∙ ap (λ ys. any_of first (tests_of (map test_form ys)) c.in-AnyOf.at) (sym c.deref-in-AnyOf-2.ensures.value) in
    let v = test_does mail part first e in
    let xs = test_events mail part first e in
    let next = λ (x : Effects). any_do mail part rest x in
    let more = λ (x : Effects). any_events mail part rest x in
    let asked = c.in_ok-is_true-in-AnyOf.ensures e stands start before told in
    subst (λ tf. MatchResult c.from_residual-in_err-value-in-AnyOf.result (λ x. Gives (test_does mail part tf e) x c.any_true.new.self × heard start (before ++ test_events mail part tf e) c.any_true.new.watcher) (λ why. stops start why (before ++ test_events mail part tf e) c.any_true.new.watcher)) (sym form)
    (passed_on c.from_residual-in_err-value-in-AnyOf.result _ _ _ c.from_residual-in_err-value-in-AnyOf.ensures.1
    (others_stop (λ why ys. stops start why ys c.any_true.new.watcher) _ before xs (on_false v more) (more v.effects) _ (λ why ys zs. g.met.W.Watching.goes_on start c.any_true.new.watcher why ys zs) (told_unless v c.in_ok-is_true-in-AnyOf.field-0 more asked.0.0 c.if-branch.false)
    (c.in_err-value-in-AnyOf.ensures v.effects asked.0.1 start (before ++ xs) asked.1)))

pub is_true-returns-in-Asks : goal.is_true-returns-in-Asks
is_true-returns-in-Asks g t c = λ e stands start before told.
    let heard = g.W.Watching.has_heard in
    let stops = g.W.Watching.has_stopped in
    let mail = c.args.subject.message.now in
    let part = c.args.subject.part in
    let form : test_form c.args.test.now ≡ asks c.in-Asks.question (strings_form c.in-Asks.strings) c.in-Asks.at = ap test_form c.in-Asks.is ∙ form_asks c.in-Asks.question c.in-Asks.strings c.in-Asks.at in
    subst (λ tf. MatchResult c.asks.result (λ x. Gives (test_does mail part tf e) x c.asks.new.self × heard start (before ++ test_events mail part tf e) c.asks.new.watcher) (λ why. stops start why (before ++ test_events mail part tf e) c.asks.new.watcher)) (sym form)
    (c.asks.ensures e stands start before told)
