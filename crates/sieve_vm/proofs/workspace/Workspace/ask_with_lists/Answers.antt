use Rattle.std.proofs.Common.{◌∷◌, IfSome, sym, ap, subst, ◌∙◌}
use Rattle.mail_matching.specs.Questions.{IsDecidedAs, answer, question_cost}
use Rattle.sieve_vm.specs.Stack.{texts_in}
use Rattle.sieve_vm.specs.Standing.{Held, held_of, texts_of}
use Rattle.sieve_vm.specs.State.{truth}
use Rattle.sieve_vm.proofs.Tests.{same_texts, decided_held, settled, plain_answers}
use Rattle.sieve_vm.proofs.workspace.Workspace.ask_with_lists.Goals as goal

pub returns-in-Some : goal.returns-in-Some
returns-in-Some c = λ top there.
    let mail = c.args.message.now in
    let held = held_of c.args.self.now in
    let names = texts_of c.lists-lists.result.names in
    let found = subst (λ o. IfSome o (λ r. IsDecidedAs mail c.args.part c.args.question names r.0 r.1)) c.in-Some.is c.decide.ensures.value in
    let so = plain_answers mail c.args.part c.args.question top names c.in-Some.value c.in-Some.cost held.captures (c.lists-lists.ensures.names top there) found in (
      sym so.1,
      c.in_ok-push_truth.ensures ∙ ap (λ (h : Held). record h { stack = truth c.in-Some.value ∷ h.stack }) (c.drop_lists.ensures top there) ∙ decided_held held top.below (answer mail c.args.part c.args.question (texts_in top) held.captures) c.in-Some.value so.0,
    )

pub returns : goal.returns
returns c = λ top there.
    let mail = c.args.message.now in
    let lists = c.lists-lists in
    let held = held_of c.args.self.now in
    let texts = same_texts top (texts_of lists.result.names) (texts_of lists.result.params) (texts_of lists.result.keys) (lists.ensures.names top there) (lists.ensures.params top there) (lists.ensures.keys top there) in
    let asks = c.in_ok-cost.ensures.asked in (
      asks.cost ∙ ap (question_cost mail c.args.part c.args.question) texts,
      settled held top.below (answer mail c.args.part c.args.question (texts_in top) held.captures) (held_of c.drop_lists-2.new.self) (held_of c.settle-matched.new.self) (held_of c.push_truth-2.new.self) c.ask.new.progress.outcome c.settle-matched.result
          (c.drop_lists-2.ensures top there) c.settle-matched.ensures.matched c.settle-matched.ensures.kept c.in_ok-push_truth-2.ensures (asks.outcome held.captures ∙ ap (λ t. answer mail c.args.part c.args.question t held.captures) texts),
    )
