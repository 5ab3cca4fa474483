-- The numbers of a script, as they stand in it.
use Rattle.std.specs.Prelude.{ℕ, List, [], ◌++◌}
use Rattle.bytecode_format.specs.Questions.{row_of}
use Rattle.sieve_check.specs.Typed.{TestForm, asks, negation, all_of, any_of, TestForms, no_test, test, CommandForm, does, for_every_part, choice, CommandForms, no_command, command, BranchForms, no_branch, otherwise, branch}

abbrev mutual
  -- the numbers of a test as they stand in it
  pub test_numbers : TestForm → List ℕ
  test_numbers (asks question strings at) = (row_of question).numbers
  test_numbers (negation t at) = test_numbers t
  test_numbers (all_of t ts at) = test_numbers t ++ tests_numbers ts
  test_numbers (any_of t ts at) = test_numbers t ++ tests_numbers ts

  pub tests_numbers : TestForms → List ℕ
  tests_numbers no_test = []
  tests_numbers (test t ts) = test_numbers t ++ tests_numbers ts

abbrev mutual
  -- the numbers of commands as they stand in them
  pub command_numbers : CommandForm → List ℕ
  command_numbers (does act string at) = []
  command_numbers (for_every_part cs at) = commands_numbers cs
  command_numbers (choice bs) = branches_numbers bs

  pub commands_numbers : CommandForms → List ℕ
  commands_numbers no_command = []
  commands_numbers (command c cs) = command_numbers c ++ commands_numbers cs

  pub branches_numbers : BranchForms → List ℕ
  branches_numbers no_branch = []
  branches_numbers (otherwise cs) = commands_numbers cs
  branches_numbers (branch t cs at bs) = test_numbers t ++ commands_numbers cs ++ branches_numbers bs
