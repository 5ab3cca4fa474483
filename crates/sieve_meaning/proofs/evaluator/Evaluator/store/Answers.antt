use Rattle.std.proofs.Common.{◌≡◌, [], ◌∷◌, ◌++◌, sym, ap, ◌∙◌}
use Rattle.bytecode_format.specs.declared.action.Action.TheVariants.{Store}
use Rattle.bytecode_format.specs.Actions.{with_action, first_occurrences}
use Rattle.bytecode_format.proofs.ActionLemmas.{first_occurrences-push}
use Rattle.sieve_meaning.specs.Meaning.{stored}
use Rattle.sieve_meaning.proofs.evaluator.Evaluator.store.Goals as goal

pub returns-in_ok-push : goal.returns-in_ok-push
returns-in_ok-push c = λ e stands.
    let action = Store c.args.folder c.in-Some.part in
    let is : action ∷ [] ≡ stored c.args.part c.args.folder = ap (λ part. stored part c.args.folder) (sym c.in-Some.is) in
    record {
      actions = c.in_ok-push.ensures.ok ∙ ap (λ l. with_action l action) stands.actions ∙ sym (first_occurrences-push e.actions action) ∙ ap (λ more. first_occurrences (e.actions ++ more)) is;
      implicit_keep = stands.implicit_keep;
      captures = stands.captures;
      variables = stands.variables;
    }
