-- Private: tables as they grow.
use Rattle.std.specs.Prelude.{ℕ, nat_eq, bytes_eq, List, [], ◌++◌, flat_map, Option}
use Rattle.octets.specs.Once as once
use Rattle.sieve_check.specs.declared.typed.Segment.{Segment}
use Rattle.sieve_check.specs.Variables.{segment_variables, string_variables, strings_variables, test_variables, tests_variables, command_variables, commands_variables, branches_variables}
use Rattle.sieve_check.specs.Typed.{Template, TestForm, TestForms, CommandForm, CommandForms, BranchForms}
use Rattle.sieve_compiler.specs.Numbers.{test_numbers, tests_numbers, command_numbers, commands_numbers, branches_numbers}
use Rattle.sieve_compiler.specs.Strings.{segment_strings, string_strings, strings_of, test_strings, tests_strings, command_strings, commands_strings, branches_strings}
use Rattle.sieve_compiler.specs.Tables.{Tables}

-- where the number stands in the table, if it does
abbrev pub found_in : List ℕ → ℕ → Option ℕ
found_in table n = once.found_in nat_eq table n

-- the table with one more number, which is left out where the table has it
abbrev pub with_number : List ℕ → ℕ → List ℕ
with_number table n = once.with_one nat_eq table n

-- the numbers, texts and variables of a piece, as they stand in it
pub record Uses : Type 0 where
  pub numbers : List ℕ
  pub strings : List (List ℕ)
  pub variables : List (List ℕ)

abbrev pub uses_with : List ℕ → List (List ℕ) → List (List ℕ) → Uses
uses_with numbers strings variables = record { numbers = numbers; strings = strings; variables = variables }

-- those of one piece, and of another after it
abbrev pub joined : Uses → Uses → Uses
joined a b = uses_with (a.numbers ++ b.numbers) (a.strings ++ b.strings) (a.variables ++ b.variables)

abbrev pub segment_uses : Segment → Uses
segment_uses segment = uses_with [] (segment_strings segment) (segment_variables segment)

abbrev pub segments_uses : Template → Uses
segments_uses segments = uses_with [] (flat_map segment_strings segments) (string_variables segments)

abbrev pub string_uses : Template → Uses
string_uses string = uses_with [] (string_strings string) (string_variables string)

abbrev pub strings_uses : List Template → Uses
strings_uses strings = uses_with [] (strings_of strings) (strings_variables strings)

abbrev pub test_uses : TestForm → Uses
test_uses t = uses_with (test_numbers t) (test_strings t) (test_variables t)

abbrev pub tests_uses : TestForms → Uses
tests_uses ts = uses_with (tests_numbers ts) (tests_strings ts) (tests_variables ts)

abbrev pub command_uses : CommandForm → Uses
command_uses c = uses_with (command_numbers c) (command_strings c) (command_variables c)

abbrev pub commands_uses : CommandForms → Uses
commands_uses cs = uses_with (commands_numbers cs) (commands_strings cs) (commands_variables cs)

abbrev pub branches_uses : BranchForms → Uses
branches_uses bs = uses_with (branches_numbers bs) (branches_strings bs) (branches_variables bs)

-- the tables with what a piece uses
abbrev pub with_uses : Tables → Uses → Tables
with_uses tables uses =
    record tables {
      numbers = once.with_more nat_eq tables.numbers uses.numbers;
      strings = once.with_more bytes_eq tables.strings uses.strings;
      variables = once.with_more bytes_eq tables.variables uses.variables;
    }
