use Rattle.std.proofs.Common.{◌∙◌, ◌++◌, ◌∷◌, [], ◌+◌, List, None, refl, ap, subst, sym, drop}
use Rattle.std.proofs.lemmas.List.{drop_all}
use Rattle.sieve_parser.specs.View.{invocation_tree}
use Rattle.sieve_parser.specs.declared.tree.Invocation.{Invocation}
use Rattle.sieve_check.specs.declared.signature.Tests.TheVariants.{One, Bracketed}
use Rattle.sieve_check.specs.Refusing.{AreVisited, context_of}
use Rattle.sieve_check.specs.Rules.{Visit, looks_inside, more_visits, visit_of, visits_of}
use Rattle.sieve_check.specs.Names.{row_named}
use Rattle.sieve_check.specs.Private.{arguments_of}
use Rattle.sieve_check.proofs.FaultSteps.{nothing_inside, rest_visits, test_inside, tests_inside, where_left, where_made}
use Rattle.sieve_check.proofs.FromIndex.{others_of}
use Rattle.sieve_check.proofs.Visits.{both_visited, fewer_left, none_left}
use Rattle.sieve_check.proofs.rules.+tests.Goals as goal

pub invocation-returns-in-Plain : goal.invocation-returns-in-Plain
invocation-returns-in-Plain t c =
    subst (λ (visits : List Visit). AreVisited c.args.findings.now visits c.visit.new.findings)
    (sym (nothing_inside c.args.ending (context_of c.args.surroundings.now) c.args.tree.now c.in-Plain.head c.in-Plain.is)) c.visit.ensures.visited

pub invocation-returns-then-visit : goal.invocation-returns-then-visit
invocation-returns-then-visit t c =
    let w = c.in-WithTest in
    let s = context_of c.args.surroundings.now in
    let all = visits_of c.args.ending s (invocation_tree c.args.tree.now) in
    let own = visit_of c.args.ending s w.head.token w.head.name (arguments_of w.head) One in
    let inner = visits_of None s (invocation_tree w.inner.value) in
    both_visited c.args.findings.now c.visit-in-WithTest.new.findings c.invocation.new.findings all (own ∷ []) inner
    (where_made all own inner (looks_inside (row_named c.args.ending w.head.name)) (sym c.visit-in-WithTest.ensures.inside ∙ c.if-visit.true) (test_inside c.args.ending s c.args.tree.now w.head w.inner w.is)) c.visit-in-WithTest.ensures.visited
    (subst (λ (x : Invocation). AreVisited c.visit-in-WithTest.new.findings (visits_of None s (invocation_tree x)) c.invocation.new.findings) c.deref-then-visit.ensures c.invocation.ensures)

pub invocation-returns-else-visit : goal.invocation-returns-else-visit
invocation-returns-else-visit t c =
    let w = c.in-WithTest in
    let s = context_of c.args.surroundings.now in
    let all = visits_of c.args.ending s (invocation_tree c.args.tree.now) in
    let own = visit_of c.args.ending s w.head.token w.head.name (arguments_of w.head) One in
    let inner = visits_of None s (invocation_tree w.inner.value) in
    subst (λ (visits : List Visit). AreVisited c.args.findings.now visits c.visit-in-WithTest.new.findings)
    (sym (where_left all own inner (looks_inside (row_named c.args.ending w.head.name)) (sym c.visit-in-WithTest.ensures.inside ∙ c.if-visit.false) (test_inside c.args.ending s c.args.tree.now w.head w.inner w.is))) c.visit-in-WithTest.ensures.visited

pub invocation-returns-then-visit-2 : goal.invocation-returns-then-visit-2
invocation-returns-then-visit-2 t c =
    let w = c.in-WithTests in
    let s = context_of c.args.surroundings.now in
    let after = c.visit-in-WithTests.new.findings in
    let between = c.invocation-then-visit-2.new.findings in
    let all = visits_of c.args.ending s (invocation_tree c.args.tree.now) in
    let own = visit_of c.args.ending s w.head.token w.head.name (arguments_of w.head) Bracketed in
    let first = visits_of None s (invocation_tree w.first.value) in
    let others = more_visits s (others_of w.others.items) in
    both_visited c.args.findings.now after c.tests.new.findings all (own ∷ []) (first ++ others)
    (where_made all own (first ++ others) (looks_inside (row_named c.args.ending w.head.name)) (sym c.visit-in-WithTests.ensures.inside ∙ c.if-visit-2.true) (tests_inside c.args.ending s c.args.tree.now w.head w.first w.others w.is)) c.visit-in-WithTests.ensures.visited
    (both_visited after between c.tests.new.findings (first ++ others) first others refl
    (subst (λ (x : Invocation). AreVisited after (visits_of None s (invocation_tree x)) between) c.deref-then-visit-2-2.ensures c.invocation-then-visit-2.ensures)
    (subst (λ (xs : List Invocation). AreVisited between (more_visits s (others_of xs)) c.tests.new.findings) c.deref-then-visit-2-3.ensures.value c.tests.ensures))

pub invocation-returns-else-visit-2 : goal.invocation-returns-else-visit-2
invocation-returns-else-visit-2 t c =
    let w = c.in-WithTests in
    let s = context_of c.args.surroundings.now in
    let all = visits_of c.args.ending s (invocation_tree c.args.tree.now) in
    let own = visit_of c.args.ending s w.head.token w.head.name (arguments_of w.head) Bracketed in
    let inner = visits_of None s (invocation_tree w.first.value) ++ more_visits s (others_of w.others.items) in
    subst (λ (visits : List Visit). AreVisited c.args.findings.now visits c.visit-in-WithTests.new.findings)
    (sym (where_left all own inner (looks_inside (row_named c.args.ending w.head.name)) (sym c.visit-in-WithTests.ensures.inside ∙ c.if-visit-2.false) (tests_inside c.args.ending s c.args.tree.now w.head w.first w.others w.is))) c.visit-in-WithTests.ensures.visited

pub tests-list-preserved : goal.tests-list-preserved
tests-list-preserved t c =
    let s = context_of c.args.surroundings.now in
    let i = c.list.tree-index in
    fewer_left c.list.findings c.invocation.new.findings c.args.findings.now (more_visits s (others_of (drop i c.args.list.now))) (visits_of None s (invocation_tree c.tree-item.result)) (more_visits s (others_of (drop (i + 1) c.args.list.now)))
    (more_visits s (others_of c.args.list.now)) (rest_visits s c.args.list.now i c.tree-item.result c.list-test.true c.tree-item.is) c.invocation.ensures c.list.invariant

pub tests-returns : goal.tests-returns
tests-returns t c =
    let s = context_of c.args.surroundings.now in
    none_left c.list.findings c.args.findings.now (more_visits s (others_of (drop c.list.tree-index c.args.list.now))) (more_visits s (others_of c.args.list.now))
    (ap (λ xs. more_visits s (others_of xs)) (drop_all c.list.tree-index c.args.list.now c.list-test.false)) c.list.invariant
