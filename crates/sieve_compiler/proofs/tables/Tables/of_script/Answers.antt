use Rattle.std.proofs.Common.{nat_eq, bytes_eq, ap, refl, ◌∙◌}
use Rattle.std.proofs.lemmas.Cmp.{nat_eq_equiv, nat_list_eq_equiv}
use Rattle.octets.proofs.Once.{all_added}
use Rattle.sieve_check.specs.TypedView.{commands_form}
use Rattle.sieve_check.specs.Variables.{commands_variables}
use Rattle.sieve_compiler.specs.Growing.{commands_uses, with_uses}
use Rattle.sieve_compiler.specs.Numbers.{commands_numbers}
use Rattle.sieve_compiler.specs.Strings.{commands_strings}
use Rattle.sieve_compiler.proofs.tables.Tables.of_script.Goals as goal

pub returns : goal.returns
returns c =
    c.in_ok-add_commands.ensures
    ∙ ap (λ l. with_uses l (commands_uses (commands_form c.args.commands.now))) c.new-tables.ensures
    ∙ rw (all_added nat_eq nat_eq_equiv (commands_numbers (commands_form c.args.commands.now)), all_added bytes_eq nat_list_eq_equiv (commands_strings (commands_form c.args.commands.now)), all_added bytes_eq nat_list_eq_equiv (commands_variables (commands_form c.args.commands.now))) refl
