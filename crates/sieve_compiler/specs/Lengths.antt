-- How many instructions the code of each piece has.
use Rattle.std.specs.Prelude.{ℕ, ◌+◌, List, [], ◌∷◌, length, sum_by}
use Rattle.sieve_check.specs.Acts.{act_strings}
use Rattle.sieve_check.specs.Typed.{Template, in_order, TestForm, asks, negation, all_of, any_of, TestForms, no_test, test, CommandForm, does, for_every_part, choice, CommandForms, no_command, command, BranchForms, no_branch, otherwise, branch}

-- a string is one instruction where it is one text or one reference; else its segments, and then they are joined
abbrev pub string_length : Template → ℕ
string_length [] = 1
string_length (segment ∷ []) = 1
string_length (one ∷ other ∷ more) = length (one ∷ other ∷ more) + 1

abbrev pub strings_length : List Template → ℕ
strings_length strings = sum_by string_length strings

abbrev mutual
  -- a question is its strings, one instruction, and its jump
  pub test_length : TestForm → ℕ
  test_length (asks question strings at) = strings_length (in_order strings) + 2
  test_length (negation t at) = test_length t
  test_length (all_of t ts at) = test_length t + tests_length ts
  test_length (any_of t ts at) = test_length t + tests_length ts

  pub tests_length : TestForms → ℕ
  tests_length no_test = 0
  tests_length (test t ts) = test_length t + tests_length ts

-- the jump after a block: where nothing follows there is none
abbrev pub leave_length : BranchForms → ℕ
leave_length no_branch = 0
leave_length (otherwise cs) = 1
leave_length (branch t cs at bs) = 1

abbrev mutual
  pub command_length : CommandForm → ℕ
  command_length (does act string at) = strings_length (act_strings act string) + 1
  -- its block, between two instructions
  command_length (for_every_part cs at) = commands_length cs + 2
  command_length (choice bs) = branches_length bs

  pub commands_length : CommandForms → ℕ
  commands_length no_command = 0
  commands_length (command c cs) = command_length c + commands_length cs

  pub branches_length : BranchForms → ℕ
  branches_length no_branch = 0
  branches_length (otherwise cs) = commands_length cs
  branches_length (branch t cs at bs) = test_length t + commands_length cs + leave_length bs + branches_length bs
