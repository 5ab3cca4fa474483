-- A machine that reads lexemes from left to right: what is still to be read after each.
use Rattle.std.specs.Prelude.{ℕ, suc, nat_le, List, [], ◌∷◌, ◌++◌, Option, Some, None, fold, if◌then◌else◌, zero}
use Rattle.octets.specs.Limits.{max_nesting}
use Rattle.sieve_parser.specs.Lexemes.{Lexeme, identifier, tag, number, string, semicolon, comma, opening_brace, closing_brace, opening_parenthesis, closing_parenthesis, opening_bracket, closing_bracket}

-- what ends arguments: a command's end, or that of a test in a list
pub data Follow : Type 0 where
  command_end : ℕ → Follow
  test_end : ℕ → Follow

-- what is still to be read, each at its depth
pub data Symbol : Type 0 where
  body : ℕ → Symbol
  arguments : ℕ → Follow → Symbol
  ending : Follow → Symbol
  tests : ℕ → Symbol
  strings : ℕ → Symbol
  more_strings : ℕ → Symbol

-- what a lexeme is where arguments end: its depth, and what is to be read in the place of the end
abbrev pub ended_by : Follow → Lexeme → Option (ℕ × List Symbol)
ended_by (command_end d) semicolon = Some (d, [])
ended_by (command_end d) opening_brace = Some (suc d, body (suc d) ∷ [])
ended_by (test_end d) comma = Some (d, tests d ∷ [])
ended_by (test_end d) closing_parenthesis = Some (d, [])
ended_by _ _ = None

-- what a lexeme is where the symbol is to be read: its depth, and what is to be read in the symbol's place
abbrev pub expand : Symbol → Lexeme → Option (ℕ × List Symbol)
expand (body d) (identifier n name) = Some (d, arguments d (command_end d) ∷ body d ∷ [])
expand (body (suc d)) closing_brace = Some (suc d, [])
expand (body d) _ = None
expand (arguments d f) (identifier n name) = Some (suc d, arguments (suc d) f ∷ [])
expand (arguments d f) (tag name) = Some (d, arguments d f ∷ [])
expand (arguments d f) (number n) = Some (d, arguments d f ∷ [])
expand (arguments d f) (string s) = Some (d, arguments d f ∷ [])
expand (arguments d f) opening_bracket = Some (d, strings d ∷ arguments d f ∷ [])
expand (arguments d f) opening_parenthesis = Some (d, tests d ∷ ending f ∷ [])
expand (arguments d f) l = ended_by f l
expand (ending f) l = ended_by f l
expand (tests d) (identifier n name) = Some (suc d, arguments (suc d) (test_end d) ∷ [])
expand (tests d) _ = None
expand (strings d) (string s) = Some (d, more_strings d ∷ [])
expand (strings d) _ = None
expand (more_strings d) comma = Some (d, strings d ∷ [])
expand (more_strings d) closing_bracket = Some (d, [])
expand (more_strings d) _ = None

-- what a lexeme does where a stack of symbols is to be read: the stack then, or it is wrong there, or too deep
pub data Verdict : Type 0 where
  goes : List Symbol → Verdict
  wrong : Verdict
  deep : Verdict

abbrev pub judged : Option (ℕ × List Symbol) → List Symbol → Verdict
judged None stack = wrong
judged (Some (d, symbols)) stack = if nat_le d max_nesting then goes (symbols ++ stack) else deep

abbrev pub step : List Symbol → Lexeme → Verdict
step [] l = wrong
step (x ∷ stack) l = judged (expand x l) stack

abbrev pub stack_then : Verdict → Option (List Symbol)
stack_then (goes stack) = Some stack
stack_then _ = None

abbrev pub advance : Option (List Symbol) → Lexeme → Option (List Symbol)
advance None l = None
advance (Some stack) l = stack_then (step stack l)

-- what is to be read after the lexemes where these symbols were to be read, if they are read
abbrev pub reading_from : List Symbol → List Lexeme → Option (List Symbol)
reading_from symbols ls = fold advance (Some symbols) ls

-- what is to be read after the lexemes of a script, if they are read
abbrev pub reading : List Lexeme → Option (List Symbol)
reading ls = reading_from (body 0 ∷ []) ls

-- nothing more has to be read
abbrev pub IsDone : List Symbol → Type 0
IsDone [] = Unit {0}
IsDone (body zero ∷ stack) = IsDone stack
IsDone _ = ⊥
