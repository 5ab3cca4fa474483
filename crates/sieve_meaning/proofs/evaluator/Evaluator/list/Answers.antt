use Rattle.std.proofs.Common.{sym, ap, ◌∙◌, refl}
use Rattle.bytecode_format.specs.Actions.{with_action}
use Rattle.bytecode_format.proofs.ActionLemmas.{first_occurrences-push}
use Rattle.sieve_meaning.proofs.evaluator.Evaluator.list.Goals as goal

pub returns : goal.returns
returns c = λ e stands. record {
  actions = c.in_ok-push.ensures.ok ∙ ap (λ l. with_action l c.args.action) stands.actions ∙ sym (first_occurrences-push e.actions c.args.action);
  implicit_keep = refl;
  captures = stands.captures;
  variables = stands.variables;
}
