-- How commands are written with lexemes (RFC 5228, section 8.2).
use Rattle.std.specs.Prelude.{◌≡◌, ℕ, suc, List, [], ◌∷◌, ◌++◌, map}
use Rattle.sieve_parser.specs.Lexemes.{Lexeme, identifier, tag, number, string, semicolon, comma, opening_brace, closing_brace, opening_parenthesis, closing_parenthesis, opening_bracket, closing_bracket}
use Rattle.sieve_parser.specs.Tree.{ArgumentTree, text, text_list, amount, label, InvocationTree, invocation, TestsTree, no_test, one_test, test_list, MoreTests, last, next, CommandTree, simple, block, CommandsTree, no_command, command}

-- a lexeme with its depth: the number of braces and test names that enclose it, its own included
pub record Placed : Type 0 where
  pub lexeme : Lexeme
  pub depth : ℕ

abbrev pub at_depth : ℕ → Lexeme → Placed
at_depth d lexeme = record { lexeme = lexeme; depth = d }

-- how the strings of a list are written after its first: *("," string)
abbrev pub more_strings_spelled : ℕ → List (List ℕ) → List Placed
more_strings_spelled d [] = []
more_strings_spelled d (s ∷ ss) = at_depth d comma ∷ at_depth d (string s) ∷ more_strings_spelled d ss

-- how an argument is written: string / "[" string *("," string) "]" / number / tag
abbrev pub argument_spelled : ℕ → ArgumentTree → List Placed
argument_spelled d (text s) = at_depth d (string s) ∷ []
argument_spelled d (text_list s ss) =
    at_depth d opening_bracket ∷ at_depth d (string s) ∷ (more_strings_spelled d ss ++ at_depth d closing_bracket ∷ [])
argument_spelled d (amount n) = at_depth d (number n) ∷ []
argument_spelled d (label name) = at_depth d (tag name) ∷ []

-- how arguments are written, one after the other
abbrev pub arguments_spelled : ℕ → List ArgumentTree → List Placed
arguments_spelled d [] = []
arguments_spelled d (a ∷ args) = argument_spelled d a ++ arguments_spelled d args

abbrev mutual
  -- how a test is written, or a command up to its end: identifier *argument [tests]
  pub invocation_spelled : ℕ → InvocationTree → List Placed
  invocation_spelled d (invocation n name args tests) = at_depth d (identifier n name)
      ∷ (arguments_spelled d args ++ tests_spelled d tests)

  -- how tests are written: nothing / test / "(" test *("," test) ")"
  pub tests_spelled : ℕ → TestsTree → List Placed
  tests_spelled d no_test = []
  tests_spelled d (one_test t) = invocation_spelled (suc d) t
  tests_spelled d (test_list t ts) =
      at_depth d opening_parenthesis
      ∷ (invocation_spelled (suc d) t ++ (more_tests_spelled d ts ++ at_depth d closing_parenthesis ∷ []))

  -- how the tests of a list are written after its first: *("," test)
  pub more_tests_spelled : ℕ → MoreTests → List Placed
  more_tests_spelled d last = []
  more_tests_spelled d (next t ts) = at_depth d comma ∷ (invocation_spelled (suc d) t ++ more_tests_spelled d ts)

abbrev mutual
  -- how a command is written: identifier *argument [tests] (";" / "{" commands "}")
  pub command_spelled : ℕ → CommandTree → List Placed
  command_spelled d (simple i) = invocation_spelled d i ++ at_depth d semicolon ∷ []
  command_spelled d (block i cs) =
      invocation_spelled d i ++ (at_depth (suc d) opening_brace
      ∷ (commands_spelled (suc d) cs ++ at_depth (suc d) closing_brace ∷ []))

  -- how commands are written: *command
  pub commands_spelled : ℕ → CommandsTree → List Placed
  commands_spelled d no_command = []
  commands_spelled d (command c cs) = command_spelled d c ++ commands_spelled d cs

abbrev pub lexemes_placed : List Placed → List Lexeme
lexemes_placed xs = map (λ p. p.lexeme) xs

-- the script is written by these lexemes
abbrev pub IsScript : List Lexeme → CommandsTree → Type 0
IsScript ls cs = ls ≡ lexemes_placed (commands_spelled 0 cs)

-- the lexemes, placed, begin some script
abbrev pub BeginsScript : List Placed → Type 0
BeginsScript xs = (cs : CommandsTree) × ((rest : List Placed) × (commands_spelled 0 cs ≡ xs ++ rest))

-- the lexemes begin some script
abbrev pub IsViable : List Lexeme → Type 0
IsViable ls = (xs : List Placed) × ((ls ≡ lexemes_placed xs) × BeginsScript xs)
