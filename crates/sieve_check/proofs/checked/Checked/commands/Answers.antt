use Rattle.std.proofs.Common.{subst}
use Rattle.sieve_parser.specs.View.{commands_tree}
use Rattle.sieve_check.specs.CheckedScript.{CheckedScript}
use Rattle.sieve_check.specs.Bounded.{IsBounded}
use Rattle.sieve_check.specs.TypedView.{commands_form}
use Rattle.sieve_check.proofs.Existence.{form_bounded}
use Rattle.sieve_check.proofs.checked.Checked.commands.Goals as goal

pub returns-clause-bounded : goal.returns-clause-bounded
returns-clause-bounded c =
    let is = c.self.invariant in
    subst (λ (checked : CheckedScript). IsBounded (commands_form checked.commands)) c.self.view_is
    (form_bounded (commands_tree c.self.inside.script) (commands_form c.self.inside.commands.items) is.tree is.form is.faultless)
