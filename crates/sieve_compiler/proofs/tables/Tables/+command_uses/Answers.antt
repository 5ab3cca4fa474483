use Rattle.std.proofs.Common.{sym, ap, ◌∙◌}
use Rattle.sieve_check.specs.TypedView.{templates_of, commands_form}
use Rattle.sieve_check.specs.Private.{else_form}
use Rattle.sieve_compiler.specs.Growing.{commands_uses, branches_uses, with_uses}
use Rattle.sieve_compiler.proofs.NumberingLemmas.{command_added, branch_added, branches_added, does_added}
use Rattle.sieve_compiler.proofs.tables.Tables.+command_uses.Goals as goal

pub add_command-branches-preserved : goal.add_command-branches-preserved
add_command-branches-preserved t c =
    branch_added c.branches.self c.add_test.new.self c.add_commands-in-branches.new.self c.deref-branch-items.result.now c.branches.branch-index c.branch-item.result c.deref-in-branches.result.now (else_form c.in-If.otherwise)
    c.branches-test.true c.branch-item.is c.deref-in-branches.ensures.value c.in_ok-add_test-in-If.ensures c.in_ok-add_commands-in-If.ensures
    ∙ c.branches.invariant

pub add_commands-commands-preserved : goal.add_commands-commands-preserved
add_commands-commands-preserved t c =
    command_added c.commands.self c.add_command.new.self c.args.commands.now c.commands.command-index c.command-item.result c.commands-test.true c.command-item.is c.in_ok-add_command.ensures ∙ c.commands.invariant

pub add_command-returns-in_ok-add_set-in-Does : goal.add_command-returns-in_ok-add_set-in-Does
add_command-returns-in_ok-add_set-in-Does t c =
    does_added c.args.self.now c.add_strings.new.self c.add_set.new.self c.args.command.now c.in-Does.act c.in-Does.string c.in-Does.at (templates_of c.strings.result.now)
    c.in-Does.is c.strings.ensures c.in_ok-add_strings-in-Does.ensures c.in_ok-add_set-in-Does.ensures

pub add_command-returns-in_ok-add_commands-in-If-2 : goal.add_command-returns-in_ok-add_commands-in-If-2
add_command-returns-in_ok-add_commands-in-If-2 t c =
    c.in_ok-add_commands-in-If-2.ensures
    ∙ ap (λ cs. with_uses c.branches.self (commands_uses (commands_form cs))) c.deref-in-Some.ensures.value
    ∙ ap (λ o. with_uses c.branches.self (branches_uses (else_form o))) (sym c.in-Some.is)
    ∙ branches_added c.args.self.now c.branches.self c.args.command.now c.in-If.branches c.in-If.otherwise c.deref-branch-items.result.now c.branches.branch-index
    c.in-If.is c.deref-branch-items.ensures.value c.branches-test.false c.branches.invariant

pub add_command-returns-in_default : goal.add_command-returns-in_default
add_command-returns-in_default t c =
    ap (λ o. with_uses c.branches.self (branches_uses (else_form o))) (sym c.in_default.is)
    ∙ branches_added c.args.self.now c.branches.self c.args.command.now c.in-If.branches c.in-If.otherwise c.deref-branch-items.result.now c.branches.branch-index
    c.in-If.is c.deref-branch-items.ensures.value c.branches-test.false c.branches.invariant
