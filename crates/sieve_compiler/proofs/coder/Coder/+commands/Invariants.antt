use Rattle.std.proofs.Common.{◌≡◌, ◌+◌, length, drop}
use Rattle.sieve_check.specs.Bounded.{AreBoundedCommands, AreBoundedBranches}
use Rattle.sieve_check.specs.TypedView.{commands_form}
use Rattle.sieve_check.specs.Private.{branch_forms, else_form}
use Rattle.sieve_compiler.specs.Lengths.{commands_length, branches_length}
use Rattle.sieve_compiler.specs.Coding.{commands_code, branches_code}
use Rattle.sieve_compiler.proofs.Leftovers.{Left}
use Rattle.sieve_compiler.proofs.coder.Coder.+commands.Given as goal

abbrev pub invariant-put_commands-commands : goal.invariant-put_commands-commands
invariant-put_commands-commands l = record {
  bounded : AreBoundedCommands (commands_form (drop l.command-index l.commands));
  room : length l.self.instructions.items + commands_length (commands_form (drop l.command-index l.commands)) ≡ length l.initial.self.instructions.items + commands_length (commands_form l.commands);
  code : Left l.initial.self l.self
      (λ tables place. commands_code tables place (commands_form (drop l.command-index l.commands)))
      (λ tables place. commands_code tables place (commands_form l.commands));
}

abbrev pub invariant-put_unaimed-branches : goal.invariant-put_unaimed-branches
invariant-put_unaimed-branches l = record {
  bounded : AreBoundedBranches (branch_forms (drop l.i l.branch-items) (else_form l.otherwise));
  room : length l.self.instructions.items + branches_length (branch_forms (drop l.i l.branch-items) (else_form l.otherwise)) ≡ length l.initial.self.instructions.items + branches_length (branch_forms l.branch-items (else_form l.otherwise));
  code : Left l.initial.self l.self
      (λ tables place. branches_code tables place (branch_forms (drop l.i l.branch-items) (else_form l.otherwise)) 0)
      (λ tables place. branches_code tables place (branch_forms l.branch-items (else_form l.otherwise)) 0);
}
