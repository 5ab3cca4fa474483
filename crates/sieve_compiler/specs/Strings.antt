-- The texts of a script that its code pushes, as they stand in it.
use Rattle.std.specs.Prelude.{ℕ, List, [], ◌∷◌, ◌++◌, flat_map}
use Rattle.sieve_check.specs.declared.typed.Segment.{Segment}
use Rattle.sieve_check.specs.declared.typed.Segment.TheVariants.{Text, Variable, Capture}
use Rattle.sieve_check.specs.Acts.{act_strings}
use Rattle.sieve_check.specs.Typed.{Template, in_order, TestForm, asks, negation, all_of, any_of, TestForms, no_test, test, CommandForm, does, for_every_part, choice, CommandForms, no_command, command, BranchForms, no_branch, otherwise, branch}

abbrev pub segment_strings : Segment → List (List ℕ)
segment_strings (Text octets) = octets ∷ []
segment_strings (Variable name) = []
segment_strings (Capture n) = []

-- of a string its stretches; the empty string is a text too
abbrev pub string_strings : Template → List (List ℕ)
string_strings [] = [] ∷ []
string_strings (segment ∷ segments) = flat_map segment_strings (segment ∷ segments)

abbrev pub strings_of : List Template → List (List ℕ)
strings_of strings = flat_map string_strings strings

abbrev mutual
  -- the texts of a test as they stand in it
  pub test_strings : TestForm → List (List ℕ)
  test_strings (asks question strings at) = strings_of (in_order strings)
  test_strings (negation t at) = test_strings t
  test_strings (all_of t ts at) = test_strings t ++ tests_strings ts
  test_strings (any_of t ts at) = test_strings t ++ tests_strings ts

  pub tests_strings : TestForms → List (List ℕ)
  tests_strings no_test = []
  tests_strings (test t ts) = test_strings t ++ tests_strings ts

abbrev mutual
  -- the texts of commands as they stand in them
  pub command_strings : CommandForm → List (List ℕ)
  command_strings (does act string at) = strings_of (act_strings act string)
  command_strings (for_every_part cs at) = commands_strings cs
  command_strings (choice bs) = branches_strings bs

  pub commands_strings : CommandForms → List (List ℕ)
  commands_strings no_command = []
  commands_strings (command c cs) = command_strings c ++ commands_strings cs

  pub branches_strings : BranchForms → List (List ℕ)
  branches_strings no_branch = []
  branches_strings (otherwise cs) = commands_strings cs
  branches_strings (branch t cs at bs) = test_strings t ++ commands_strings cs ++ branches_strings bs
