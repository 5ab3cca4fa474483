-- The variables of a typed form, as they stand in it: a `set` changes its variable after its value was made.
use Rattle.std.specs.Prelude.{ℕ, List, [], ◌∷◌, ◌++◌, flat_map}
use Rattle.sieve_check.specs.declared.typed.Segment.{Segment}
use Rattle.sieve_check.specs.declared.typed.Segment.TheVariants.{Text, Variable, Capture}
use Rattle.sieve_check.specs.Typed.{Template, in_order, TestForm, asks, negation, all_of, any_of, TestForms, no_test, test, CommandForm, does, for_every_part, choice, CommandForms, no_command, command, BranchForms, no_branch, otherwise, branch}
use Rattle.sieve_check.specs.Acts.{act_row, act_strings}

abbrev pub segment_variables : Segment → List (List ℕ)
segment_variables (Text octets) = []
segment_variables (Variable name) = name ∷ []
segment_variables (Capture n) = []

abbrev pub string_variables : Template → List (List ℕ)
string_variables template = flat_map segment_variables template

abbrev pub strings_variables : List Template → List (List ℕ)
strings_variables strings = flat_map string_variables strings

abbrev mutual
  -- those of a test
  pub test_variables : TestForm → List (List ℕ)
  test_variables (asks question strings at) = strings_variables (in_order strings)
  test_variables (negation t at) = test_variables t
  test_variables (all_of t ts at) = test_variables t ++ tests_variables ts
  test_variables (any_of t ts at) = test_variables t ++ tests_variables ts

  pub tests_variables : TestForms → List (List ℕ)
  tests_variables no_test = []
  tests_variables (test t ts) = test_variables t ++ tests_variables ts

abbrev mutual
  -- those of commands
  pub command_variables : CommandForm → List (List ℕ)
  command_variables (does act string at) = strings_variables (act_strings act string) ++ (act_row act).sets
  command_variables (for_every_part cs at) = commands_variables cs
  command_variables (choice branches) = branches_variables branches

  pub commands_variables : CommandForms → List (List ℕ)
  commands_variables no_command = []
  commands_variables (command c cs) = command_variables c ++ commands_variables cs

  pub branches_variables : BranchForms → List (List ℕ)
  branches_variables no_branch = []
  branches_variables (otherwise cs) = commands_variables cs
  branches_variables (branch t cs at bs) = test_variables t ++ commands_variables cs ++ branches_variables bs
