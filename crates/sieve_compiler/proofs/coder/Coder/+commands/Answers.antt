use Rattle.std.proofs.Common.{◌≡◌, ℕ, Bool, if◌then◌else◌, length, ap, subst, ◌∙◌}
use Rattle.sieve_check.specs.Private.{branch_forms, else_form}
use Rattle.sieve_check.specs.TypedView.{test_form, command_form, commands_form}
use Rattle.sieve_compiler.specs.Aiming.{leaves_length}
use Rattle.sieve_compiler.specs.Coding.{commands_code}
use Rattle.sieve_compiler.specs.Lengths.{command_length}
use Rattle.sieve_compiler.specs.Putting.{Puts}
use Rattle.sieve_compiler.proofs.AimingLemmas.{branch_put, command_put, command_stands, room_of}
use Rattle.sieve_compiler.proofs.CodeLengths.{command_code_length}
use Rattle.sieve_compiler.proofs.coder.Coder.+commands.Goals as goal

pub put_branch-returns-clause-code : goal.put_branch-returns-clause-code
put_branch-returns-clause-code t c =
    let tested = c.put_test.new.self in
    let block = subst (λ cs. Puts tested c.put_commands.new.self (commands_code tested.tables.now (length tested.instructions.items) (commands_form cs))) c.deref.ensures.value c.in_ok-put_commands.ensures.code in
    branch_put c.args.self.now tested c.put_commands.new.self c.put_leave.new.self c.aim.new.self
    (test_form c.args.branch.now.test) (commands_form c.args.branch.now.block.items) (branch_forms c.args.after.now (else_form c.args.otherwise.now)) c.place-test.result c.place-block.result c.place-next.result
    c.in_ok-put_test.ensures.code block c.in_ok-put_leave.ensures.code c.aim.ensures.tables c.place-test.ensures c.place-block.ensures c.place-next.ensures c.aim.ensures.code

pub put_command-returns-then-has_leaves-clause-code : goal.put_command-returns-then-has_leaves-clause-code
put_command-returns-then-has_leaves-clause-code t c =
    command_put c.args.self.now c.put_unaimed.new.self c.aim.new.self (command_form c.args.command.now) c.place-start.result c.place-end.result c.place-end.result
    c.in_ok-put_unaimed.ensures.code c.aim.ensures.tables c.place-start.ensures c.place-end.ensures c.place-end.ensures c.aim.ensures.code

pub put_command-returns-then-has_leaves-clause-room : goal.put_command-returns-then-has_leaves-clause-room
put_command-returns-then-has_leaves-clause-room t c =
    let form = command_form c.args.command.now in
    room_of c.args.self.now c.aim.new.self _ (command_length form) (command_code_length c.args.self.now.tables.now form (length c.args.self.now.instructions.items)) (put_command-returns-then-has_leaves-clause-code t c)

pub put_command-returns-else-has_leaves-clause-code : goal.put_command-returns-else-has_leaves-clause-code
put_command-returns-else-has_leaves-clause-code t c =
    let none : leaves_length (command_form c.args.command.now) ≡ 0 = c.has_leaves.ensures ∙ ap (λ (b : Bool). let n : ℕ = if b then 1 else 0 in n) c.if-has_leaves.false in
    command_stands c.args.self.now c.put_unaimed.new.self (command_form c.args.command.now) none c.in_ok-put_unaimed.ensures.code
