use Rattle.std.proofs.Common.{◌≡◌, ◌∙◌, ap, false, sym}
use Rattle.std.specs.Prelude.{Option, is_some}
use Rattle.sieve_check.specs.Names.{command_named}
use Rattle.sieve_check.specs.declared.table.CommandName.{CommandName}
use Rattle.sieve_explain.specs.Hints.{unknown_test}
use Rattle.sieve_explain.proofs.hints.unknown_test.Goals as goal

pub returns : goal.returns
unfolding unknown_test
returns c =
    let none : is_some (command_named c.args.name.now) ≡ false = sym (c.is_some.ensures ∙ ap (λ (o : Option CommandName). is_some o) c.command_named.ensures) ∙ c.if-is_some.false in
    rw none c.unknown.ensures
