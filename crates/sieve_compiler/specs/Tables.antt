-- The tables of a program.
use Rattle.std.specs.Prelude.{ℕ, nat_eq, bytes_eq, List}
use Rattle.octets.specs.Once.{each_once, place_in}
use Rattle.sieve_check.specs.Typed.{CommandForms}
use Rattle.sieve_check.specs.Variables.{commands_variables}
use Rattle.sieve_compiler.specs.Strings.{commands_strings}
use Rattle.sieve_compiler.specs.Numbers.{commands_numbers}

-- the numbers and strings that instructions name by their places, and the names of the variables
pub record Tables : Type 0 where
  pub numbers : List ℕ
  pub strings : List (List ℕ)
  pub variables : List (List ℕ)

abbrev pub tables_with : List ℕ → List (List ℕ) → List (List ℕ) → Tables
tables_with numbers strings variables = record { numbers = numbers; strings = strings; variables = variables }

-- the tables of a script: each of its numbers, texts and variables once, in the order of their first use in its code
abbrev pub tables_of : CommandForms → Tables
tables_of script =
    tables_with (each_once nat_eq (commands_numbers script)) (each_once bytes_eq (commands_strings script))
    (each_once bytes_eq (commands_variables script))

-- the place of a number in the tables
abbrev pub place_of_number : Tables → ℕ → ℕ
place_of_number tables number = place_in nat_eq tables.numbers number

-- the place of a string in the tables
abbrev pub place_of_string : Tables → List ℕ → ℕ
place_of_string tables string = place_in bytes_eq tables.strings string

-- the place of a variable in the tables, by its name in lower case
abbrev pub place_of_variable : Tables → List ℕ → ℕ
place_of_variable tables name = place_in bytes_eq tables.variables name
