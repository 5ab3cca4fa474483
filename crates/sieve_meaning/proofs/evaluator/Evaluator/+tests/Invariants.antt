use Rattle.std.proofs.Common.{map, drop}
use Rattle.sieve_check.specs.Bounded.{AreBoundedTests}
use Rattle.sieve_check.specs.TypedView.{test_form, tests_of}
use Rattle.sieve_meaning.specs.Meaning.{all_do, any_do}
use Rattle.sieve_meaning.specs.Traced.{all_events, any_events}
use Rattle.sieve_meaning.proofs.Steps.{Goes}
use Rattle.sieve_meaning.proofs.evaluator.Evaluator.+tests.Given as goal

-- what is left of the tests gives the verdict of all of them
abbrev pub invariant-all_true-list : goal.invariant-all_true-list
invariant-all_true-list g l =
    AreBoundedTests (tests_of (map test_form (drop l.test-index l.list)))
    × Goes g.W.Watching.has_heard l.initial.watcher l.watcher (λ ts x. all_do l.subject.message.now l.subject.part ts x) (λ ts x. all_events l.subject.message.now l.subject.part ts x)
    (tests_of (map test_form l.list)) (tests_of (map test_form (drop l.test-index l.list))) l.initial.self l.self

abbrev pub invariant-any_true-list : goal.invariant-any_true-list
invariant-any_true-list g l =
    AreBoundedTests (tests_of (map test_form (drop l.test-index l.list)))
    × Goes g.W.Watching.has_heard l.initial.watcher l.watcher (λ ts x. any_do l.subject.message.now l.subject.part ts x) (λ ts x. any_events l.subject.message.now l.subject.part ts x)
    (tests_of (map test_form l.list)) (tests_of (map test_form (drop l.test-index l.list))) l.initial.self l.self
