use Rattle.std.proofs.Common.{◌≡◌, ◌+◌, ◌∙◌, refl, sym, ap, subst, drop, ◌++◌, ◌∷◌, [], Some, ◌-◌, ◌≤◌, arith, rules}
use Rattle.std.proofs.lemmas.List.{drop_all}
use Rattle.mime_decode.specs.Visited.{numbers_from, visited}
use Rattle.sieve_check.specs.Bounded.{AreBoundedBranches, AreBoundedCommands, IsBoundedCommand}
use Rattle.sieve_check.specs.Extent.{branches_extent, command_extent, commands_extent}
use Rattle.sieve_check.specs.Private.{branch_forms, else_form}
use Rattle.sieve_check.specs.Typed.{choice, does, for_every_part, branch, otherwise, no_branch, command, no_command}
use Rattle.sieve_check.specs.TypedView.{command_form, commands_form, test_form}
use Rattle.sieve_check.proofs.Forms.{form_if}
use Rattle.sieve_meaning.specs.Evaluation.{StandsAt}
use Rattle.sieve_meaning.specs.Meaning.{act_does, choice_does, command_does, commands_do, expanded, turns}
use Rattle.sieve_meaning.specs.Traced.{act_event, choice_events, command_events, commands_events, event, test_events, turned, turns_events}
use Rattle.sieve_meaning.specs.Private.{turn_does, turn_events}
use Rattle.sieve_meaning.specs.declared.evaluator.Flow.TheVariants.{GoesOn}
use Rattle.sieve_meaning.proofs.Falls.{block_within, command_within, last_within}
use Rattle.sieve_meaning.proofs.MeaningLemmas.{branch_bounded, branches_bounded, commands_bounded, first_branch, first_command, next_number}
use Rattle.sieve_meaning.proofs.Shapes.{form_does, form_for_every_part}
use Rattle.sieve_meaning.proofs.Steps.{ChoiceRemains, CommandsRemain, TurnsRemain, all_told, choice_passed, choice_taken, commands_step, commands_stop, ends_as, goes_stopped, goes_whole, passed_on, turn_as, turn_told_as, turns_leave, turns_step, turns_stop, whole_turn}
use Rattle.sieve_meaning.proofs.evaluator.Evaluator.+commands.Goals as goal

pub command-branches-preserved : goal.command-branches-preserved
command-branches-preserved g t c = (
  branches_bounded c.deref-branch-items.result.now c.branches.branch-index c.branch-item.result (else_form c.in-If.otherwise) c.branches-test.true c.branch-item.is c.branches.invariant.0,
  λ e stands start before told.
      let heard = g.W.Watching.has_heard in
      let stops = g.W.Watching.has_stopped in
      let mail = c.args.subject.message.now in
      let part = c.args.subject.part in
      let bs = c.deref-branch-items.result.now in
      let last = else_form c.in-If.otherwise in
      let whole = branch_forms bs last in
      let b = c.branch-item.result in
      let block = commands_form b.block.items in
      let rest = branch_forms (drop (c.branches.branch-index + 1) bs) last in
      let h = subst (λ r. ChoiceRemains (λ xs. heard start xs c.branches.watcher) mail part whole e before r c.branches.self) (first_branch bs c.branches.branch-index b last c.branches-test.true c.branch-item.is) (c.branches.invariant.1 e stands start before told) in
      choice_passed _ (λ xs. heard start xs c.is_true.new.watcher) mail part whole e before (test_form b.test) block b.at rest c.in_ok-is_true-in-If.field-0 c.branches.self c.is_true.new.self h (c.in_ok-is_true-in-If.ensures h.effects h.stands start h.events h.told) c.if-branch.false,
)

pub command-is_true-requires : goal.command-is_true-requires
command-is_true-requires g t c = branch_bounded c.deref-branch-items.result.now c.branches.branch-index c.branch-item.result (else_form c.in-If.otherwise) c.branches-test.true c.branch-item.is c.branches.invariant.0

pub command-branches-init : goal.command-branches-init
command-branches-init g t c =
    let bs = c.deref-branch-items.result.now in
    let last = else_form c.in-If.otherwise in
    let whole = branch_forms bs last in
    let form : command_form c.args.command.now ≡ choice whole = ap command_form c.in-If.is ∙ form_if c.in-If.branches c.in-If.otherwise ∙ ap (λ xs. choice (branch_forms xs last)) (sym c.deref-branch-items.ensures.value) in (
      subst IsBoundedCommand form c.requires,
      λ e stands start before told. goes_whole (λ xs. g.W.Watching.has_heard start xs c.args.watcher.now) (λ xs x. choice_does c.args.subject.message.now c.args.subject.part xs x) (λ xs x. choice_events c.args.subject.message.now c.args.subject.part xs x) whole e before c.args.self.now stands told,
    )

pub command-returns-in_err-is_true-in-If : goal.command-returns-in_err-is_true-in-If
command-returns-in_err-is_true-in-If g t c = λ e stands start before told.
    let heard = g.W.Watching.has_heard in
    let stops = g.W.Watching.has_stopped in
    let mail = c.args.subject.message.now in
    let part = c.args.subject.part in
    let bs = c.deref-branch-items.result.now in
    let last = else_form c.in-If.otherwise in
    let whole = branch_forms bs last in
    let form : command_form c.args.command.now ≡ choice whole = ap command_form c.in-If.is ∙ form_if c.in-If.branches c.in-If.otherwise ∙ ap (λ xs. choice (branch_forms xs last)) (sym c.deref-branch-items.ensures.value) in
    let b = c.branch-item.result in
    let block = commands_form b.block.items in
    let rest = branch_forms (drop (c.branches.branch-index + 1) bs) last in
    let h = subst (λ r. ChoiceRemains (λ xs. heard start xs c.branches.watcher) mail part whole e before r c.branches.self) (first_branch bs c.branches.branch-index b last c.branches-test.true c.branch-item.is) (c.branches.invariant.1 e stands start before told) in
    passed_on c.from_residual-in_err-is_true-in-If.result _ _ _ c.from_residual-in_err-is_true-in-If.ensures.1
    (subst (λ cf. stops start c.in_err-is_true-in-If.field-0.0 (before ++ command_events mail part cf e) c.is_true.new.watcher) (sym form)
    (goes_stopped _ (λ why xs. stops start why xs c.is_true.new.watcher) _ (λ xs x. choice_does mail part xs x) (λ xs x. choice_events mail part xs x) whole e before (branch (test_form b.test) block b.at rest) c.branches.self h (test_events mail part (test_form b.test) h.effects) _
    (λ why xs more. g.met.W.Watching.goes_on start c.is_true.new.watcher why xs more) refl (c.in_err-is_true-in-If.ensures h.effects h.stands start h.events h.told)))

pub command-returns-then-branch : goal.command-returns-then-branch
command-returns-then-branch g t c = λ e stands start before told.
    let heard = g.W.Watching.has_heard in
    let stops = g.W.Watching.has_stopped in
    let mail = c.args.subject.message.now in
    let part = c.args.subject.part in
    let bs = c.deref-branch-items.result.now in
    let last = else_form c.in-If.otherwise in
    let whole = branch_forms bs last in
    let form : command_form c.args.command.now ≡ choice whole = ap command_form c.in-If.is ∙ form_if c.in-If.branches c.in-If.otherwise ∙ ap (λ xs. choice (branch_forms xs last)) (sym c.deref-branch-items.ensures.value) in
    let b = c.branch-item.result in
    let block = commands_form b.block.items in
    let rest = branch_forms (drop (c.branches.branch-index + 1) bs) last in
    let h = subst (λ r. ChoiceRemains (λ xs. heard start xs c.branches.watcher) mail part whole e before r c.branches.self) (first_branch bs c.branches.branch-index b last c.branches-test.true c.branch-item.is) (c.branches.invariant.1 e stands start before told) in
    let taken = choice_taken _ (λ xs. heard start xs c.is_true.new.watcher) mail part whole e before (test_form b.test) block b.at rest c.in_ok-is_true-in-If.field-0 c.branches.self c.is_true.new.self h (c.in_ok-is_true-in-If.ensures h.effects h.stands start h.events h.told) c.if-branch.true in
    let left = subst (λ xs. ChoiceRemains (λ ys. heard start ys c.is_true.new.watcher) mail part whole e before (otherwise (commands_form xs)) c.is_true.new.self) (sym c.deref-then-branch.ensures.value) taken in
    ends_as (λ xs. heard start xs c.commands.new.watcher) (λ why xs. stops start why xs c.commands.new.watcher) c.commands.result c.commands.new.self _ _ _ _ (left.same ∙ sym (ap (λ cf. command_does mail part cf e) form)) (left.left ∙ sym (ap (λ cf. before ++ command_events mail part cf e) form)) (c.commands.ensures left.effects left.stands start left.events left.told)

pub command-returns-in-Some : goal.command-returns-in-Some
command-returns-in-Some g t c = λ e stands start before told.
    let heard = g.W.Watching.has_heard in
    let stops = g.W.Watching.has_stopped in
    let mail = c.args.subject.message.now in
    let part = c.args.subject.part in
    let bs = c.deref-branch-items.result.now in
    let last = else_form c.in-If.otherwise in
    let whole = branch_forms bs last in
    let form : command_form c.args.command.now ≡ choice whole = ap command_form c.in-If.is ∙ form_if c.in-If.branches c.in-If.otherwise ∙ ap (λ xs. choice (branch_forms xs last)) (sym c.deref-branch-items.ensures.value) in
    let none : branch_forms (drop c.branches.branch-index bs) last ≡ otherwise (commands_form c.deref-in-Some.result.now) = ap (λ x. branch_forms x last) (drop_all c.branches.branch-index bs c.branches-test.false) ∙ ap else_form c.in-Some.is ∙ ap (λ cs. otherwise (commands_form cs)) (sym c.deref-in-Some.ensures.value) in
    let left = subst (λ r. ChoiceRemains (λ ys. heard start ys c.branches.watcher) mail part whole e before r c.branches.self) none (c.branches.invariant.1 e stands start before told) in
    ends_as (λ xs. heard start xs c.commands-in-Some.new.watcher) (λ why xs. stops start why xs c.commands-in-Some.new.watcher) c.commands-in-Some.result c.commands-in-Some.new.self _ _ _ _ (left.same ∙ sym (ap (λ cf. command_does mail part cf e) form)) (left.left ∙ sym (ap (λ cf. before ++ command_events mail part cf e) form)) (c.commands-in-Some.ensures left.effects left.stands start left.events left.told)

pub command-returns-in-None : goal.command-returns-in-None
command-returns-in-None g t c = λ e stands start before told.
    let heard = g.W.Watching.has_heard in
    let stops = g.W.Watching.has_stopped in
    let mail = c.args.subject.message.now in
    let part = c.args.subject.part in
    let bs = c.deref-branch-items.result.now in
    let last = else_form c.in-If.otherwise in
    let whole = branch_forms bs last in
    let form : command_form c.args.command.now ≡ choice whole = ap command_form c.in-If.is ∙ form_if c.in-If.branches c.in-If.otherwise ∙ ap (λ xs. choice (branch_forms xs last)) (sym c.deref-branch-items.ensures.value) in
    let none : branch_forms (drop c.branches.branch-index bs) last ≡ no_branch = ap (λ x. branch_forms x last) (drop_all c.branches.branch-index bs c.branches-test.false) ∙ ap else_form c.in-None.is in
    let left = subst (λ r. ChoiceRemains (λ ys. heard start ys c.branches.watcher) mail part whole e before r c.branches.self) none (c.branches.invariant.1 e stands start before told) in (
      subst (λ x. StandsAt x GoesOn c.branches.self) (left.same ∙ sym (ap (λ cf. command_does mail part cf e) form)) left.stands,
      subst (λ cf. heard start (before ++ command_events mail part cf e) c.branches.watcher) (sym form)
          (all_told (λ ys. heard start ys c.branches.watcher) (λ xs x. choice_does mail part xs x) (λ xs x. choice_events mail part xs x) whole e before no_branch c.branches.self left refl),
    )

pub command-returns-in_ok-text-in-Does : goal.command-returns-in_ok-text-in-Does
command-returns-in_ok-text-in-Does g t c = λ e stands start before told.
    let heard = g.W.Watching.has_heard in
    let stops = g.W.Watching.has_stopped in
    let mail = c.args.subject.message.now in
    let part = c.args.subject.part in
    let act = c.in-Does.act in
    let at = c.in-Does.at in
    let form : command_form c.args.command.now ≡ does act c.in-Does.string.items at = ap command_form c.in-Does.is ∙ form_does act c.in-Does.string at in
    let text : c.in_ok-text-in-Does.text ≡ expanded e c.in-Does.string.items = c.in_ok-text-in-Does.ensures.text e stands ∙ ap (expanded e) c.deref.ensures.value in
    ends_as (λ xs. heard start xs c.act_watched.new.watcher) (λ why xs. stops start why xs c.act_watched.new.watcher) c.act_watched.result c.act_watched.new.self _ _ _ _
    (ap (λ x. act_does mail part act x e) text ∙ sym (ap (λ cf. command_does mail part cf e) form))
    (ap (λ x. before ++ act_event mail part act x at e ∷ []) text ∙ sym (ap (λ cf. before ++ command_events mail part cf e) form)) (c.act_watched.ensures e stands start before told)

pub command-returns-in-ForEveryPart : goal.command-returns-in-ForEveryPart
command-returns-in-ForEveryPart g t c = λ e stands start before told.
    let heard = g.W.Watching.has_heard in
    let stops = g.W.Watching.has_stopped in
    let mail = c.args.subject.message.now in
    let part = c.args.subject.part in
    let at = c.in-ForEveryPart.at in
    let form : command_form c.args.command.now ≡ for_every_part (commands_form c.deref-in-ForEveryPart.result.now) at = ap command_form c.in-ForEveryPart.is ∙ form_for_every_part c.in-ForEveryPart.block at ∙ ap (λ cs. for_every_part (commands_form cs) at) (sym c.deref-in-ForEveryPart.ensures.value) in
    ends_as (λ xs. heard start xs c.for_every_part.new.watcher) (λ why xs. stops start why xs c.for_every_part.new.watcher) c.for_every_part.result c.for_every_part.new.self _ _ _ _
    (sym (ap (λ cf. command_does mail part cf e) form)) (sym (ap (λ cf. before ++ command_events mail part cf e) form)) (c.for_every_part.ensures e stands start before told)

pub commands-commands-preserved : goal.commands-commands-preserved
commands-commands-preserved g t c = (
  commands_bounded c.args.commands.now c.commands.command-index c.command-item.result c.commands-test.true c.command-item.is c.commands.invariant.0,
  λ e stands start before told.
      let heard = g.W.Watching.has_heard in
      let stops = g.W.Watching.has_stopped in
      let mail = c.args.subject.message.now in
      let part = c.args.subject.part in
      let cs = c.args.commands.now in
      let whole = commands_form cs in
      let one = command_form c.command-item.result in
      let rest = commands_form (drop (c.commands.command-index + 1) cs) in
      let h = subst (λ r. CommandsRemain (λ xs. heard start xs c.commands.watcher) mail part whole e before r c.commands.self) (first_command cs c.commands.command-index c.command-item.result c.commands-test.true c.command-item.is) (c.commands.invariant.1 e stands start before told) in
      commands_step _ (λ xs. heard start xs c.command.new.watcher) mail part whole e before one rest c.in_ok-flow.flow c.commands.self c.command.new.self h (c.in_ok-flow.ensures h.effects h.stands start h.events h.told) c.in-GoesOn.is,
)

pub commands-returns-in_default : goal.commands-returns-in_default
commands-returns-in_default g t c = λ e stands start before told.
    let heard = g.W.Watching.has_heard in
    let stops = g.W.Watching.has_stopped in
    let mail = c.args.subject.message.now in
    let part = c.args.subject.part in
    let cs = c.args.commands.now in
    let whole = commands_form cs in
    let one = command_form c.command-item.result in
    let rest = commands_form (drop (c.commands.command-index + 1) cs) in
    let h = subst (λ r. CommandsRemain (λ xs. heard start xs c.commands.watcher) mail part whole e before r c.commands.self) (first_command cs c.commands.command-index c.command-item.result c.commands-test.true c.command-item.is) (c.commands.invariant.1 e stands start before told) in
    commands_stop _ (λ xs. heard start xs c.command.new.watcher) mail part whole e before one rest c.in_ok-flow.flow c.commands.self c.command.new.self h (c.in_ok-flow.ensures h.effects h.stands start h.events h.told) c.in_default.not-GoesOn

pub commands-returns-in_err-flow : goal.commands-returns-in_err-flow
commands-returns-in_err-flow g t c = λ e stands start before told.
    let heard = g.W.Watching.has_heard in
    let stops = g.W.Watching.has_stopped in
    let mail = c.args.subject.message.now in
    let part = c.args.subject.part in
    let cs = c.args.commands.now in
    let whole = commands_form cs in
    let one = command_form c.command-item.result in
    let rest = commands_form (drop (c.commands.command-index + 1) cs) in
    let h = subst (λ r. CommandsRemain (λ xs. heard start xs c.commands.watcher) mail part whole e before r c.commands.self) (first_command cs c.commands.command-index c.command-item.result c.commands-test.true c.command-item.is) (c.commands.invariant.1 e stands start before told) in
    passed_on c.from_residual.result _ _ _ c.from_residual.ensures.1
    (goes_stopped _ (λ why xs. stops start why xs c.command.new.watcher) _ (λ xs x. commands_do mail part xs x) (λ xs x. commands_events mail part xs x) whole e before (command one rest) c.commands.self h (command_events mail part one h.effects) _
    (λ why xs more. g.met.W.Watching.goes_on start c.command.new.watcher why xs more) refl (c.in_err-flow.ensures h.effects h.stands start h.events h.told))

pub commands-returns : goal.commands-returns
commands-returns g t c = λ e stands start before told.
    let heard = g.W.Watching.has_heard in
    let stops = g.W.Watching.has_stopped in
    let mail = c.args.subject.message.now in
    let part = c.args.subject.part in
    let cs = c.args.commands.now in
    let whole = commands_form cs in
    let none = ap (λ xs. commands_form xs) (drop_all c.commands.command-index cs c.commands-test.false) in
    let h = subst (λ r. CommandsRemain (λ xs. heard start xs c.commands.watcher) mail part whole e before r c.commands.self) none (c.commands.invariant.1 e stands start before told) in (
      subst (λ x. StandsAt x GoesOn c.commands.self) h.same h.stands,
      all_told (λ xs. heard start xs c.commands.watcher) (λ xs x. commands_do mail part xs x) (λ xs x. commands_events mail part xs x) whole e before no_command c.commands.self h refl,
    )

pub for_every_part-parts-preserved : goal.for_every_part-parts-preserved
for_every_part-parts-preserved g t c = (
  c.parts.invariant.0,
  λ e stands start before told.
      let heard = g.W.Watching.has_heard in
      let stops = g.W.Watching.has_stopped in
      let mail = c.args.subject.message.now in
      let part = c.args.subject.part in
      let block = commands_form c.args.block.now in
      let at = c.args.at in
      let whole = visited part mail in
      let number = c.parts.part in
      let h = subst (λ r. TurnsRemain (λ xs. heard start xs c.parts.watcher) at mail block whole e before r c.parts.self) (next_number number _ c.parts-test.true) (c.parts.invariant.1 e stands start before told) in
      let turn = event at (Some number) turned in
      let begun = (c.in_ok-tell.ensures turned refl start h.events h.told).1 in
      let here = turn_as (λ xs. heard start xs c.commands.new.watcher) at mail c.at.result.message.now c.at.result.part number block h.effects c.in_ok-commands.field-0 c.commands.new.self h.events c.at.ensures.message c.at.ensures.part (c.in_ok-commands.ensures h.effects h.stands start (h.events ++ turn ∷ []) begun) in
      turns_step _ (λ xs. heard start xs c.commands.new.watcher) at mail block whole e before number _ c.in_ok-commands.field-0 c.parts.self c.commands.new.self h here c.in-GoesOn.is,
)

pub for_every_part-returns-in-Stopped : goal.for_every_part-returns-in-Stopped
for_every_part-returns-in-Stopped g t c = λ e stands start before told.
    let heard = g.W.Watching.has_heard in
    let stops = g.W.Watching.has_stopped in
    let mail = c.args.subject.message.now in
    let part = c.args.subject.part in
    let block = commands_form c.args.block.now in
    let at = c.args.at in
    let whole = visited part mail in
    let number = c.parts.part in
    let h = subst (λ r. TurnsRemain (λ xs. heard start xs c.parts.watcher) at mail block whole e before r c.parts.self) (next_number number _ c.parts-test.true) (c.parts.invariant.1 e stands start before told) in
    let turn = event at (Some number) turned in
    let begun = (c.in_ok-tell.ensures turned refl start h.events h.told).1 in
    let here = turn_as (λ xs. heard start xs c.commands.new.watcher) at mail c.at.result.message.now c.at.result.part number block h.effects c.in_ok-commands.field-0 c.commands.new.self h.events c.at.ensures.message c.at.ensures.part (c.in_ok-commands.ensures h.effects h.stands start (h.events ++ turn ∷ []) begun) in
    turns_stop _ (λ xs. heard start xs c.commands.new.watcher) at mail block whole e before number _ c.in_ok-commands.field-0 c.parts.self c.commands.new.self h here c.in-Stopped.is

pub for_every_part-returns-in-Leaves : goal.for_every_part-returns-in-Leaves
for_every_part-returns-in-Leaves g t c = λ e stands start before told.
    let heard = g.W.Watching.has_heard in
    let stops = g.W.Watching.has_stopped in
    let mail = c.args.subject.message.now in
    let part = c.args.subject.part in
    let block = commands_form c.args.block.now in
    let at = c.args.at in
    let whole = visited part mail in
    let number = c.parts.part in
    let h = subst (λ r. TurnsRemain (λ xs. heard start xs c.parts.watcher) at mail block whole e before r c.parts.self) (next_number number _ c.parts-test.true) (c.parts.invariant.1 e stands start before told) in
    let turn = event at (Some number) turned in
    let begun = (c.in_ok-tell.ensures turned refl start h.events h.told).1 in
    let here = turn_as (λ xs. heard start xs c.commands.new.watcher) at mail c.at.result.message.now c.at.result.part number block h.effects c.in_ok-commands.field-0 c.commands.new.self h.events c.at.ensures.message c.at.ensures.part (c.in_ok-commands.ensures h.effects h.stands start (h.events ++ turn ∷ []) begun) in
    turns_leave _ (λ xs. heard start xs c.commands.new.watcher) at mail block whole e before number _ c.in_ok-commands.field-0 c.left.result c.in-Leaves.loops c.parts.self c.commands.new.self h here c.in-Leaves.is c.left.ensures

pub for_every_part-returns-in_err-tell : goal.for_every_part-returns-in_err-tell
for_every_part-returns-in_err-tell g t c = λ e stands start before told.
    let heard = g.W.Watching.has_heard in
    let stops = g.W.Watching.has_stopped in
    let mail = c.args.subject.message.now in
    let part = c.args.subject.part in
    let block = commands_form c.args.block.now in
    let at = c.args.at in
    let whole = visited part mail in
    let number = c.parts.part in
    let h = subst (λ r. TurnsRemain (λ xs. heard start xs c.parts.watcher) at mail block whole e before r c.parts.self) (next_number number _ c.parts-test.true) (c.parts.invariant.1 e stands start before told) in
    let turn = event at (Some number) turned in
    passed_on c.from_residual.result _ _ _ c.from_residual.ensures.1
    (goes_stopped _ (λ why xs. stops start why xs c.tell.new.self) _ (λ xs x. turns (turn_does mail block) xs x) (λ xs x. turns_events at (turn_does mail block) (turn_events mail block) xs x) whole e before (number ∷ _) c.parts.self h (turn ∷ []) _
    (λ why xs more. g.met.W.Watching.goes_on start c.tell.new.self why xs more) refl (c.in_err-tell.ensures turned refl start h.events h.told))

pub for_every_part-returns-in_err-commands : goal.for_every_part-returns-in_err-commands
for_every_part-returns-in_err-commands g t c = λ e stands start before told.
    let heard = g.W.Watching.has_heard in
    let stops = g.W.Watching.has_stopped in
    let mail = c.args.subject.message.now in
    let part = c.args.subject.part in
    let block = commands_form c.args.block.now in
    let at = c.args.at in
    let whole = visited part mail in
    let number = c.parts.part in
    let h = subst (λ r. TurnsRemain (λ xs. heard start xs c.parts.watcher) at mail block whole e before r c.parts.self) (next_number number _ c.parts-test.true) (c.parts.invariant.1 e stands start before told) in
    let turn = event at (Some number) turned in
    let begun = (c.in_ok-tell.ensures turned refl start h.events h.told).1 in
    passed_on c.from_residual-in_err-commands.result _ _ _ c.from_residual-in_err-commands.ensures.1
    (goes_stopped _ (λ why xs. stops start why xs c.commands.new.watcher) _ (λ xs x. turns (turn_does mail block) xs x) (λ xs x. turns_events at (turn_does mail block) (turn_events mail block) xs x) whole e before (number ∷ _) c.parts.self h (whole_turn at mail block number h.effects) _
    (λ why xs more. g.met.W.Watching.goes_on start c.commands.new.watcher why xs more) refl (subst (λ xs. stops start c.in_err-commands.field-0.0 xs c.commands.new.watcher) (turn_told_as at mail c.at.result.message.now c.at.result.part number block h.effects h.events c.at.ensures.message c.at.ensures.part) (c.in_err-commands.ensures h.effects h.stands start (h.events ++ turn ∷ []) begun)))

pub for_every_part-parts-init : goal.for_every_part-parts-init
for_every_part-parts-init g t c = (
  c.visited-parts.ensures.within,
  λ e stands start before told.
      let heard = g.W.Watching.has_heard in
      let stops = g.W.Watching.has_stopped in
      let mail = c.args.subject.message.now in
      let part = c.args.subject.part in
      let block = commands_form c.args.block.now in
      let at = c.args.at in
      let whole = visited part mail in
      subst (λ r. TurnsRemain (λ xs. heard start xs c.args.watcher.now) at mail block whole e before r c.args.self.now) (sym c.visited-parts.ensures.parts)
      (goes_whole (λ xs. heard start xs c.args.watcher.now) (λ xs x. turns (turn_does mail block) xs x) (λ xs x. turns_events at (turn_does mail block) (turn_events mail block) xs x) whole e before c.args.self.now stands told),
)

pub for_every_part-returns : goal.for_every_part-returns
for_every_part-returns g t c = λ e stands start before told.
    let heard = g.W.Watching.has_heard in
    let mail = c.args.subject.message.now in
    let part = c.args.subject.part in
    let block = commands_form c.args.block.now in
    let at = c.args.at in
    let whole = visited part mail in
    let none : c.visited-parts.result.end - c.parts.part ≡ 0 = omega (arith, c.parts-test.false) in
    let h = subst (λ r. TurnsRemain (λ xs. heard start xs c.parts.watcher) at mail block whole e before r c.parts.self) (ap (numbers_from c.parts.part) none) (c.parts.invariant.1 e stands start before told) in (
      subst (λ x. StandsAt x GoesOn c.parts.self) h.same h.stands,
      all_told (λ xs. heard start xs c.parts.watcher) (λ xs x. turns (turn_does mail block) xs x) (λ xs x. turns_events at (turn_does mail block) (turn_events mail block) xs x) whole e before [] c.parts.self h refl,
    )

pub commands-command-requires : goal.commands-command-requires
commands-command-requires g t c =
    let cs = c.args.commands.now in
    let bounded : IsBoundedCommand (command_form c.command-item.result) =
    (subst AreBoundedCommands (first_command cs c.commands.command-index c.command-item.result c.commands-test.true c.command-item.is) c.commands.invariant.0).0 in
    let within : command_extent (command_form c.command-item.result) ≤ commands_extent (commands_form cs) =
    command_within cs c.commands.command-index c.command-item.result c.commands-test.true c.command-item.is in
    let falls = c.decreases in
    λ κs l. (omega arith, (search rules, (search rules, bounded)))

pub command-commands-requires : goal.command-commands-requires
command-commands-requires g t c =
    let bs = c.deref-branch-items.result.now in
    let last = else_form c.in-If.otherwise in
    let whole = branch_forms bs last in
    let form : command_form c.args.command.now ≡ choice whole = ap command_form c.in-If.is ∙ form_if c.in-If.branches c.in-If.otherwise ∙ ap (λ xs. choice (branch_forms xs last)) (sym c.deref-branch-items.ensures.value) in
    let b = c.branch-item.result in
    let head = subst AreBoundedBranches (first_branch bs c.branches.branch-index b last c.branches-test.true c.branch-item.is) c.branches.invariant.0 in
    let bounded : AreBoundedCommands (commands_form c.deref-then-branch.result.now) = subst (λ xs. AreBoundedCommands (commands_form xs)) (sym c.deref-then-branch.ensures.value) head.1 in
    let size : command_extent (command_form c.args.command.now) ≡ branches_extent whole = ap command_extent form in
    let items : commands_extent (commands_form c.deref-then-branch.result.now) ≡ commands_extent (commands_form b.block.items) = ap (λ xs. commands_extent (commands_form xs)) c.deref-then-branch.ensures.value in
    let within : 3 + commands_extent (commands_form b.block.items) ≤ branches_extent whole = block_within bs c.branches.branch-index b last c.branches-test.true c.branch-item.is in
    let falls = c.decreases in
    λ κs l. (omega arith, (search rules, (search rules, bounded)))

pub command-commands-requires-in-Some : goal.command-commands-requires-in-Some
command-commands-requires-in-Some g t c =
    let bs = c.deref-branch-items.result.now in
    let last = else_form c.in-If.otherwise in
    let whole = branch_forms bs last in
    let form : command_form c.args.command.now ≡ choice whole = ap command_form c.in-If.is ∙ form_if c.in-If.branches c.in-If.otherwise ∙ ap (λ xs. choice (branch_forms xs last)) (sym c.deref-branch-items.ensures.value) in
    let none : branch_forms (drop c.branches.branch-index bs) last ≡ otherwise (commands_form c.deref-in-Some.result.now) = ap (λ x. branch_forms x last) (drop_all c.branches.branch-index bs c.branches-test.false) ∙ ap else_form c.in-Some.is ∙ ap (λ cs. otherwise (commands_form cs)) (sym c.deref-in-Some.ensures.value) in
    let bounded : AreBoundedCommands (commands_form c.deref-in-Some.result.now) = subst AreBoundedBranches none c.branches.invariant.0 in
    let size : command_extent (command_form c.args.command.now) ≡ branches_extent whole = ap command_extent form in
    let items : branches_extent last ≡ 3 + commands_extent (commands_form c.deref-in-Some.result.now) =
    ap (λ o. branches_extent (else_form o)) c.in-Some.is ∙ ap (λ xs. 3 + commands_extent (commands_form xs)) (sym c.deref-in-Some.ensures.value) in
    let within : branches_extent last ≤ branches_extent whole = last_within bs last in
    let falls = c.decreases in
    λ κs l. (omega arith, (search rules, (search rules, bounded)))
