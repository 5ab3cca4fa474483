-- The code's typed scripts as forms.
use Rattle.std.specs.Prelude.{ℕ, List, [], ◌∷◌, map, Option, Some, None}
use Rattle.std.specs.Global.{Vec}
use Rattle.sieve_check.specs.declared.typed.Segment.{Segment}
use Rattle.sieve_check.specs.declared.typed.Strings.{Strings as Lists}
use Rattle.sieve_check.specs.Typed.{Template, Strings, TestForm, asks, negation, all_of, any_of, TestForms, no_test, test, CommandForm, does, for_every_part, choice, CommandForms, no_command, command, BranchForms, no_branch, otherwise, branch}
use Rattle.sieve_check.specs.declared.typed.Test.{Test}
use Rattle.sieve_check.specs.declared.typed.Test.TheOpen.{Test-F, Asks, Not, AllOf, AnyOf}
use Rattle.sieve_check.specs.declared.typed.Test.TheFolds.{fold-Test}
use Rattle.sieve_check.specs.declared.typed.Command.{Command}
use Rattle.sieve_check.specs.declared.typed.Command.TheOpen.{Command-F, Does, ForEveryPart, If, Branch-F}
use Rattle.sieve_check.specs.declared.typed.Command.TheFolds.{fold-Command}

-- tests in order
abbrev pub tests_of : List TestForm → TestForms
tests_of [] = no_test
tests_of (t ∷ ts) = test t (tests_of ts)

-- strings in order
abbrev pub templates_of : List (Vec Segment) → List Template
templates_of strings = map (λ (string : Vec Segment). string.items) strings

-- the strings of a test
abbrev pub strings_form : Lists → Strings
strings_form lists = record { names = templates_of lists.names.items; params = templates_of lists.params.items; keys = templates_of lists.keys.items }

abbrev pub test_step : Test-F TestForm → TestForm
test_step (Asks question strings at) = asks question (strings_form strings) at
test_step (Not t at) = negation t.value at
test_step (AllOf t ts at) = all_of t.value (tests_of ts.items) at
test_step (AnyOf t ts at) = any_of t.value (tests_of ts.items) at

-- a test
abbrev pub test_form : Test → TestForm
test_form = fold-Test TestForm test_step

-- commands in order
abbrev pub commands_of : List CommandForm → CommandForms
commands_of [] = no_command
commands_of (c ∷ cs) = command c (commands_of cs)

-- a test with the block that it guards, and where it begins
pub record GuardedForm : Type 0 where
  pub test : TestForm
  pub block : CommandForms
  pub at : ℕ

-- the block of an else, if there is one
abbrev pub else_of : Option (Vec CommandForm) → BranchForms
else_of None = no_branch
else_of (Some cs) = otherwise (commands_of cs.items)

-- branches in order, then the else
abbrev pub branches_of : List GuardedForm → BranchForms → BranchForms
branches_of [] last = last
branches_of (b ∷ bs) last = branch b.test b.block b.at (branches_of bs last)

abbrev pub command_step : Command-F CommandForm GuardedForm → CommandForm
command_step (Does act string at) = does act string.items at
command_step (ForEveryPart block at) = for_every_part (commands_of block.items) at
command_step (If branches else_block) = choice (branches_of branches.items (else_of else_block))

abbrev pub branch_step : Branch-F CommandForm GuardedForm → GuardedForm
branch_step b = record { test = test_form b.test; block = commands_of b.block.items; at = b.at }

-- a command
abbrev pub command_form : Command → CommandForm
command_form = fold-Command CommandForm GuardedForm command_step branch_step

-- commands
abbrev pub commands_form : List Command → CommandForms
commands_form cs = commands_of (map command_form cs)
