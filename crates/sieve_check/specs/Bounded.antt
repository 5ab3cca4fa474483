-- What a script's limits say of its typed form.
use Rattle.std.specs.Prelude.{◌≡◌, ℕ, suc, ◌<◌, ◌≤◌, Bool, true, false, List, [], length, All, bytes_eq}
use Rattle.octets.specs.Limits.{max_loops, max_script, max_segments, max_string, max_test_strings, max_value, max_variables}
use Rattle.octets.specs.Once.{each_once}
use Rattle.bytecode_format.specs.declared.question.Takes.{Takes}
use Rattle.bytecode_format.specs.Questions.{row_of}
use Rattle.sieve_references.specs.References.{last_capture}
use Rattle.sieve_check.specs.declared.typed.Segment.{Segment}
use Rattle.sieve_check.specs.declared.typed.Segment.TheVariants.{Text, Variable, Capture}
use Rattle.sieve_check.specs.Typed.{Template, Strings, in_order, TestForm, asks, negation, all_of, any_of, TestForms, no_test, test, CommandForm, does, for_every_part, choice, CommandForms, no_command, command, BranchForms, no_branch, otherwise, branch}
use Rattle.sieve_check.specs.declared.typed.Act.{Act}
use Rattle.sieve_check.specs.Acts.{Bound, unbounded, some_octets, some_loops, act_row, act_strings}
use Rattle.sieve_check.specs.Extent.{commands_extent, string_extent}
use Rattle.sieve_check.specs.Variables.{commands_variables}

-- the stretch is no longer than a string may be, and the capture is one of those that there are
abbrev pub IsBoundedSegment : Segment → Type 0
IsBoundedSegment (Text octets) = length octets ≤ max_string
IsBoundedSegment (Variable name) = Unit {0}
IsBoundedSegment (Capture n) = n ≤ last_capture

-- the string has no more segments than one may have, and none of several is empty
pub record IsBoundedString (template : Template) : Type 0 where
  pub few : length template ≤ max_segments
  pub written : length template < string_extent template
  pub segments : All IsBoundedSegment template

-- a list that is taken has a string, and one that isn't has none
abbrev pub IsAsTaken : Bool → List Template → Type 0
IsAsTaken true strings = 0 < length strings
IsAsTaken false strings = strings ≡ []

-- the strings of a test are in the lists that it takes, and no more than one test may have
pub record AreBoundedStrings (takes : Takes) (strings : Strings) : Type 0 where
  pub names : IsAsTaken takes.names strings.names
  pub params : IsAsTaken takes.params strings.params
  pub keys : IsAsTaken takes.keys strings.keys
  pub few : length (in_order strings) ≤ max_test_strings
  pub bounded : All IsBoundedString (in_order strings)

abbrev mutual
  pub IsBoundedTest : TestForm → Type 0
  IsBoundedTest (asks question strings at) = AreBoundedStrings (row_of question).takes strings
  IsBoundedTest (negation t at) = IsBoundedTest t
  IsBoundedTest (all_of t ts at) = IsBoundedTest t × AreBoundedTests ts
  IsBoundedTest (any_of t ts at) = IsBoundedTest t × AreBoundedTests ts

  pub AreBoundedTests : TestForms → Type 0
  AreBoundedTests no_test = Unit {0}
  AreBoundedTests (test t ts) = IsBoundedTest t × AreBoundedTests ts

-- some octets are taken, and no more than a value may have, and some loops are left
abbrev pub IsInBounds : Bound → Type 0
IsInBounds unbounded = Unit {0}
IsInBounds (some_octets most) = (0 < most) × (most ≤ max_value)
IsInBounds (some_loops left) = 0 < left

abbrev pub IsBoundedAct : Act → Type 0
IsBoundedAct act = IsInBounds (act_row act).bound

abbrev mutual
  pub IsBoundedCommand : CommandForm → Type 0
  IsBoundedCommand (does act string at) = IsBoundedAct act × All IsBoundedString (act_strings act string)
  IsBoundedCommand (for_every_part cs at) = AreBoundedCommands cs
  IsBoundedCommand (choice branches) = AreBoundedBranches branches

  pub AreBoundedCommands : CommandForms → Type 0
  AreBoundedCommands no_command = Unit {0}
  AreBoundedCommands (command c cs) = IsBoundedCommand c × AreBoundedCommands cs

  pub AreBoundedBranches : BranchForms → Type 0
  AreBoundedBranches no_branch = Unit {0}
  AreBoundedBranches (otherwise cs) = AreBoundedCommands cs
  AreBoundedBranches (branch t cs at bs) = IsBoundedTest t × AreBoundedCommands cs × AreBoundedBranches bs

-- Below, so many loops are open around.

abbrev mutual
  -- a question has the loops that it needs
  pub IsTestIn : ℕ → TestForm → Type 0
  IsTestIn loops (asks question strings at) = (row_of question).loops ≤ loops
  IsTestIn loops (negation t at) = IsTestIn loops t
  IsTestIn loops (all_of t ts at) = IsTestIn loops t × AreTestsIn loops ts
  IsTestIn loops (any_of t ts at) = IsTestIn loops t × AreTestsIn loops ts

  pub AreTestsIn : ℕ → TestForms → Type 0
  AreTestsIn loops no_test = Unit {0}
  AreTestsIn loops (test t ts) = IsTestIn loops t × AreTestsIn loops ts

abbrev mutual
  -- an act has the loops that it needs, and no more are open than may be
  pub IsCommandIn : ℕ → CommandForm → Type 0
  IsCommandIn loops (does act string at) = (act_row act).loops ≤ loops
  IsCommandIn loops (for_every_part cs at) = (loops < max_loops) × AreCommandsIn (suc loops) cs
  IsCommandIn loops (choice branches) = AreBranchesIn loops branches

  pub AreCommandsIn : ℕ → CommandForms → Type 0
  AreCommandsIn loops no_command = Unit {0}
  AreCommandsIn loops (command c cs) = IsCommandIn loops c × AreCommandsIn loops cs

  pub AreBranchesIn : ℕ → BranchForms → Type 0
  AreBranchesIn loops no_branch = Unit {0}
  AreBranchesIn loops (otherwise cs) = AreCommandsIn loops cs
  AreBranchesIn loops (branch t cs at bs) = IsTestIn loops t × AreCommandsIn loops cs × AreBranchesIn loops bs

-- the form is that of a script within the limits
pub record IsBounded (form : CommandForms) : Type 0 where
  pub octets : commands_extent form ≤ max_script
  pub variables : length (each_once bytes_eq (commands_variables form)) ≤ max_variables
  pub commands : AreBoundedCommands form
  pub loops : AreCommandsIn 0 form
