-- How many octets a typed form is written with, at least. A name, a number, a tag and a sign count
-- for one, however long they are.
use Rattle.std.specs.Prelude.{ℕ, ◌+◌, ◌*◌, List, length, sum_by}
use Rattle.bytecode_format.specs.Questions.{row_of}
use Rattle.sieve_check.specs.declared.typed.Segment.{Segment}
use Rattle.sieve_check.specs.declared.typed.Segment.TheVariants.{Text, Variable, Capture}
use Rattle.sieve_check.specs.Typed.{Template, in_order, TestForm, asks, negation, all_of, any_of, TestForms, no_test, test, CommandForm, does, for_every_part, choice, CommandForms, no_command, command, BranchForms, no_branch, otherwise, branch}
use Rattle.sieve_check.specs.Acts.{act_row, act_strings}

-- a stretch of text, or a reference with its braces
abbrev pub segment_extent : Segment → ℕ
segment_extent (Text octets) = length octets
segment_extent (Variable name) = 3 + length name
segment_extent (Capture n) = 4

-- a string in quotes
abbrev pub string_extent : Template → ℕ
string_extent segments = 2 + sum_by segment_extent segments

-- strings, without brackets and commas
abbrev pub strings_extent : List Template → ℕ
strings_extent strings = sum_by string_extent strings

-- names that are set, in quotes
abbrev pub names_extent : List (List ℕ) → ℕ
names_extent names = sum_by (λ name. 2 + length name) names

abbrev mutual
  -- a name, then its numbers, each with a tag, and its strings; its test, or its tests in brackets with the commas
  -- between them
  pub test_extent : TestForm → ℕ
  test_extent (asks question strings at) = 1 + 2 * length (row_of question).numbers + strings_extent (in_order strings)
  test_extent (negation t at) = 1 + test_extent t
  test_extent (all_of t ts at) = 3 + test_extent t + tests_extent ts
  test_extent (any_of t ts at) = 3 + test_extent t + tests_extent ts

  -- each with the comma before it
  pub tests_extent : TestForms → ℕ
  tests_extent no_test = 0
  tests_extent (test t ts) = 1 + test_extent t + tests_extent ts

abbrev mutual
  -- a name, the names that it sets, its string, if it takes one, and a semicolon; or a name and a block in braces; or
  -- branches
  pub command_extent : CommandForm → ℕ
  command_extent (does act string at) = 2 + names_extent (act_row act).sets + strings_extent (act_strings act string)
  command_extent (for_every_part cs at) = 3 + commands_extent cs
  command_extent (choice branches) = branches_extent branches

  pub commands_extent : CommandForms → ℕ
  commands_extent no_command = 0
  commands_extent (command c cs) = command_extent c + commands_extent cs

  -- a name, its test, and a block in braces, branch after branch
  pub branches_extent : BranchForms → ℕ
  branches_extent no_branch = 0
  branches_extent (otherwise cs) = 3 + commands_extent cs
  branches_extent (branch t cs at bs) = 3 + test_extent t + commands_extent cs + branches_extent bs
