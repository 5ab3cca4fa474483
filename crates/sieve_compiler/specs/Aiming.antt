-- Private: jumps that wait for their targets. No jump leads to the first instruction, so its place stands for none.
use Rattle.std.specs.Prelude.{ℕ, ◌+◌, Bool, false, ◌||◌, ◌&&◌, nat_eq, if◌then◌else◌, List, ◌++◌}
use Rattle.bytecode_format.specs.declared.instruction.Instruction.{Instruction}
use Rattle.bytecode_format.specs.declared.operation.Operation.TheVariants.{Jump, JumpIfTrue, JumpIfFalse}
use Rattle.bytecode_format.specs.Operations.{octet_of}
use Rattle.sieve_check.specs.Typed.{TestForm, CommandForm, does, for_every_part, choice, CommandForms, BranchForms, no_branch, otherwise, branch}
use Rattle.sieve_compiler.specs.Tables.{Tables}
use Rattle.sieve_compiler.specs.Lengths.{test_length, commands_length, leave_length}
use Rattle.sieve_compiler.specs.Coding.{test_code, commands_code, leave_code, command_code, branches_code}

abbrev pub is_jump : ℕ → Bool
is_jump op = nat_eq op (octet_of Jump) || nat_eq op (octet_of JumpIfTrue) || nat_eq op (octet_of JumpIfFalse)

abbrev pub with_target : ℕ → Instruction → Instruction
with_target target i = record { op = i.op; a = i.a; b = i.b; c = target }

-- the instruction, with the target where it is a jump that waits for one
abbrev pub aimed : ℕ → Instruction → Instruction
aimed target i = if is_jump i.op && nat_eq i.c 0 then with_target target i else i

-- the code of a branch, where the jump after its block waits
abbrev pub branch_code : Tables → ℕ → TestForm → CommandForms → BranchForms → List Instruction
branch_code tables place t cs bs =
    let block = place + test_length t in
    let next = block + commands_length cs + leave_length bs in
    test_code tables place t false next ++ commands_code tables block cs ++ leave_code bs 0

-- the jump after the first block of branches
abbrev pub first_leave_length : BranchForms → ℕ
first_leave_length no_branch = 0
first_leave_length (otherwise cs) = 0
first_leave_length (branch t cs at bs) = leave_length bs

-- that of an if
abbrev pub leaves_length : CommandForm → ℕ
leaves_length (does act string at) = 0
leaves_length (for_every_part cs at) = 0
leaves_length (choice bs) = first_leave_length bs

-- the code of a command, where the jumps of an if to its end wait
abbrev pub unaimed_code : Tables → ℕ → CommandForm → List Instruction
unaimed_code tables place (does act string at) = command_code tables place (does act string at)
unaimed_code tables place (for_every_part cs at) = command_code tables place (for_every_part cs at)
unaimed_code tables place (choice bs) = branches_code tables place bs 0
