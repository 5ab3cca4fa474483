use Rattle.std.proofs.Common.{◌≡◌, drop}
use Rattle.sieve_check.specs.TypedView.{commands_form}
use Rattle.sieve_check.specs.Private.{branch_forms, else_form}
use Rattle.sieve_compiler.specs.Growing.{commands_uses, branches_uses, with_uses}
use Rattle.sieve_compiler.proofs.tables.Tables.+command_uses.Given as goal

abbrev pub invariant-add_commands-commands : goal.invariant-add_commands-commands
invariant-add_commands-commands l = with_uses l.self (commands_uses (commands_form (drop l.command-index l.commands))) ≡ with_uses l.initial.self (commands_uses (commands_form l.commands))

abbrev pub invariant-add_command-branches : goal.invariant-add_command-branches
invariant-add_command-branches l = with_uses l.self (branches_uses (branch_forms (drop l.branch-index l.branch-items) (else_form l.otherwise))) ≡ with_uses l.initial.self (branches_uses (branch_forms l.branch-items (else_form l.otherwise)))
