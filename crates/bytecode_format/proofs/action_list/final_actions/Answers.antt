use Rattle.std.proofs.Common.{sym, ◌∙◌, ap}
use Rattle.bytecode_format.specs.Actions.{with_action}
use Rattle.bytecode_format.proofs.ActionLemmas.{first_occurrences-push}
use Rattle.bytecode_format.proofs.action_list.final_actions.Goals as goal

pub all-preserved : goal.all-preserved
all-preserved c =
    c.in_ok-push.ensures.ok
    ∙ ap (λ l. with_action l c.in-Some.action) c.all.invariant
    ∙ sym (first_occurrences-push c.all.yielded c.in-Some.action)
