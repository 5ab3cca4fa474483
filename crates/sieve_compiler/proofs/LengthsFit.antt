-- The length of a script's code is within its extent, and so are the numbers of its tables.
use Rattle.std.proofs.Common.{◌+◌, ◌-◌, ◌<◌, ◌≤◌, nat_eq, List, [], ◌∷◌, ◌++◌, length, All, arith}
use Rattle.std.proofs.lemmas.List.{length-append}
use Rattle.std.proofs.lemmas.List.Sums.{sum_by-cons}
use Rattle.std.proofs.lemmas.List.Elements.{All-head, All-tail}
use Rattle.sieve_check.specs.Acts.{act_strings}
use Rattle.sieve_check.specs.Typed.{Template, in_order, TestForm, asks, negation, all_of, any_of, TestForms, no_test, test, CommandForm, does, for_every_part, choice, CommandForms, no_command, command, BranchForms, no_branch, otherwise, branch}
use Rattle.sieve_check.specs.Bounded.{IsBoundedString, IsBoundedTest, AreBoundedTests, IsBoundedCommand, AreBoundedCommands, AreBoundedBranches}
use Rattle.sieve_check.specs.Extent.{string_extent, strings_extent, test_extent, tests_extent, command_extent, commands_extent, branches_extent}
use Rattle.sieve_compiler.specs.Tables.{tables_of}
use Rattle.sieve_compiler.specs.Lengths.{string_length, strings_length, test_length, tests_length, leave_length, command_length, commands_length, branches_length}
use Rattle.sieve_compiler.specs.Numbers.{test_numbers, tests_numbers, command_numbers, commands_numbers, branches_numbers}
use Rattle.octets.proofs.Once.{each_once_within}
use Rattle.sieve_compiler.proofs.Asking.{numbers_few}

-- ---- lengths

-- a string has fewer segments than octets, with its quotes
written : (s : Template) → IsBoundedString s → length s < string_extent s
written s b = b.written

-- it has no more instructions than octets
string_within : (s : Template) → IsBoundedString s → string_length s ≤ string_extent s
string_within [] b = omega arith
string_within (segment ∷ []) b = omega arith
string_within (one ∷ other ∷ more) b = omega (arith, written (one ∷ other ∷ more) b)

strings_within : (ss : List Template) → All IsBoundedString ss → strings_length ss ≤ strings_extent ss
strings_within [] b = omega arith
strings_within (s ∷ ss) b =
    omega (arith, sum_by-cons string_length s ss, sum_by-cons string_extent s ss, string_within s (All-head IsBoundedString s ss b), strings_within ss (All-tail IsBoundedString s ss b))

mutual
  pub test_within : (t : TestForm) → IsBoundedTest t → test_length t ≤ test_extent t + 1
  test_within (asks question strings at) b = omega (arith, strings_within (in_order strings) b.bounded)
  test_within (negation t at) b = omega (arith, test_within t b)
  test_within (all_of t ts at) b = omega (arith, test_within t b.0, tests_within ts b.1)
  test_within (any_of t ts at) b = omega (arith, test_within t b.0, tests_within ts b.1)

  pub tests_within : (ts : TestForms) → AreBoundedTests ts → tests_length ts ≤ tests_extent ts
  tests_within no_test b = omega arith
  tests_within (test t ts) b = omega (arith, test_within t b.0, tests_within ts b.1)

leave_within : (bs : BranchForms) → leave_length bs ≤ 1
leave_within no_branch = omega arith
leave_within (otherwise cs) = omega arith
leave_within (branch t cs at bs) = omega arith

mutual
  command_within : (c : CommandForm) → IsBoundedCommand c → command_length c ≤ command_extent c - 1
  command_within (does act string at) b = omega (arith, strings_within (act_strings act string) b.1)
  command_within (for_every_part cs at) b = omega (arith, commands_within cs b)
  command_within (choice bs) b = branches_within bs b

  -- the code of commands has fewer instructions than they have octets, if any
  pub commands_within : (cs : CommandForms) → AreBoundedCommands cs → commands_length cs ≤ commands_extent cs - 1
  commands_within no_command b = omega arith
  commands_within (command c cs) b = omega (arith, command_within c b.0, commands_within cs b.1)

  branches_within : (bs : BranchForms) → AreBoundedBranches bs → branches_length bs ≤ branches_extent bs - 1
  branches_within no_branch b = omega arith
  branches_within (otherwise cs) b = omega (arith, commands_within cs b)
  branches_within (branch t cs at bs) b = omega (arith, test_within t b.0, commands_within cs b.1, leave_within bs, branches_within bs b.2)

-- ---- numbers

mutual
  test_uses : (t : TestForm) → length (test_numbers t) ≤ test_length t
  test_uses (asks question strings at) = omega (arith, numbers_few question)
  test_uses (negation t at) = test_uses t
  test_uses (all_of t ts at) = omega (arith, length-append (test_numbers t) (tests_numbers ts), test_uses t, tests_use ts)
  test_uses (any_of t ts at) = omega (arith, length-append (test_numbers t) (tests_numbers ts), test_uses t, tests_use ts)

  tests_use : (ts : TestForms) → length (tests_numbers ts) ≤ tests_length ts
  tests_use no_test = omega arith
  tests_use (test t ts) = omega (arith, length-append (test_numbers t) (tests_numbers ts), test_uses t, tests_use ts)

mutual
  command_uses : (c : CommandForm) → length (command_numbers c) ≤ command_length c
  command_uses (does act string at) = omega arith
  command_uses (for_every_part cs at) = omega (arith, commands_use cs)
  command_uses (choice bs) = branches_use bs

  commands_use : (cs : CommandForms) → length (commands_numbers cs) ≤ commands_length cs
  commands_use no_command = omega arith
  commands_use (command c cs) = omega (arith, length-append (command_numbers c) (commands_numbers cs), command_uses c, commands_use cs)

  branches_use : (bs : BranchForms) → length (branches_numbers bs) ≤ branches_length bs
  branches_use no_branch = omega arith
  branches_use (otherwise cs) = commands_use cs
  branches_use (branch t cs at bs) = omega (arith, length-append (test_numbers t ++ commands_numbers cs) (branches_numbers bs), length-append (test_numbers t) (commands_numbers cs), test_uses t, commands_use cs, branches_use bs)

-- the table has at most as many numbers as the commands have instructions
pub table_within : (cs : CommandForms) → length (tables_of cs).numbers ≤ commands_length cs
table_within cs = omega (arith, each_once_within nat_eq (commands_numbers cs), commands_use cs)
