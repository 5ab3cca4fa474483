use Rattle.std.proofs.Common.{◌≡◌, ◌∙◌, ap, false, sym}
use Rattle.std.specs.Prelude.{Option, is_some}
use Rattle.sieve_check.specs.Names.{test_named}
use Rattle.sieve_check.specs.declared.table.TestName.{TestName}
use Rattle.sieve_explain.specs.Hints.{unknown_command}
use Rattle.sieve_explain.proofs.hints.unknown_command.Goals as goal

pub returns : goal.returns
unfolding unknown_command
returns c =
    let none : is_some (test_named c.args.name.now) ≡ false = sym (c.is_some.ensures ∙ ap (λ (o : Option TestName). is_some o) c.test_named.ensures) ∙ c.if-is_some.false in
    rw none c.unknown.ensures
