use Rattle.std.proofs.Common.{◌∙◌}
use Rattle.sieve_meaning.proofs.Joining.{same_values}
use Rattle.sieve_meaning.proofs.evaluator.Evaluator.set.Goals as goal

pub returns : goal.returns
returns c = λ e stands.
    record {
      actions = stands.actions;
      implicit_keep = stands.implicit_keep;
      captures = stands.captures;
      variables = λ other. c.in_ok-set.ensures other ∙ same_values c.args.name.now _ _ _ _ c.in_ok-value.ensures stands.variables other;
    }
