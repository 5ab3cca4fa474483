-- Private: what the functions of the parser answer.
use Rattle.std.specs.Prelude.{◌≡◌, ℕ, suc, ◌+◌, ◌<◌, ◌≤◌, List, [], ◌∷◌, ◌++◌, length, take, drop, slice_index_or, Option, Some, None, Result, MatchResult, MatchOption, map, option_map}
use Rattle.std.specs.List.{slice_get}
use Rattle.sieve_lexer.specs.declared.token.Token.{Token}
use Rattle.sieve_lexer.specs.declared.token.TokenKind.{TokenKind}
use Rattle.sieve_parser.specs.Lexemes.{Lexeme, semicolon, identifier, tag, number, string, opening_bracket, closing_parenthesis}
use Rattle.sieve_parser.specs.Grammar.{Placed, at_depth, lexemes_placed, argument_spelled, arguments_spelled, invocation_spelled, more_tests_spelled, command_spelled, commands_spelled}
use Rattle.sieve_parser.specs.Language.{InStack}
use Rattle.sieve_parser.specs.TokenMachine.{reading_from, Follow, command_end, test_end, Symbol, body, arguments, ending, tests, strings, step, IsDone}
use Rattle.sieve_parser.specs.View.{argument_tree, invocation_tree, more_tests_of, command_tree, commands_tree}
use Rattle.sieve_parser.specs.declared.tree.Argument.{Argument}
use Rattle.sieve_parser.specs.declared.tree.Invocation.{Invocation}
use Rattle.sieve_parser.specs.declared.tree.Command.{Command}
use Rattle.std.specs.declared.vec.Vec.{Vec}
use Rattle.std.specs.declared.alloc.Global.{Global}
use Rattle.octets.specs.Limits.{max_nesting}
use Rattle.sieve_parser.specs.Faults.{AreWithinDepth}
use Rattle.sieve_parser.specs.declared.error.ParseError.{ParseError}
use Rattle.sieve_parser.specs.declared.error.ParseError.TheVariants.{Memory, ScriptTooLong, Lexical, Syntax, TooDeep}

-- the kind of the token with the number, if there is one
abbrev pub kind_at : List Token → ℕ → Option TokenKind
kind_at tokens n = option_map (λ (t : Token). t.kind) (slice_get tokens n)

abbrev pub lexeme_at : List Lexeme → ℕ → Lexeme
lexeme_at ls n = slice_index_or ls n semicolon

-- the end of a script stands last, if at all
abbrev pub IsGrounded : List Symbol → Type 0
IsGrounded [] = Unit {0}
IsGrounded (x ∷ stack) = (x ≡ body 0 → stack ≡ []) × IsGrounded stack

-- What a reading has to read, and the place where it begins. The clauses below speak of every
-- beginning: of that of the script, and of the place where a function begins with its own rule, so
-- that a refusal also says that what stands before it can be completed to a text of that rule.
pub record Beginning : Type 0 where
  pub place : ℕ
  pub symbols : List Symbol
  -- the end of a script stands last, if at all
  pub grounded : IsGrounded symbols

-- the lexemes from where it begins up to a place
abbrev pub read_by : Beginning → List Lexeme → ℕ → List Lexeme
read_by b ls place = drop b.place (take place ls)

-- the machine has read what stands from there up to the place, and goes on there as where the stack is to be read
pub record IsAt (b : Beginning) (ls : List Lexeme) (place : ℕ) (stack : List Symbol) : Type 0 where
  pub from : b.place ≤ place
  pub read : List Symbol
  pub reached : reading_from b.symbols (read_by b ls place) ≡ Some read
  pub goes_on : place < length ls → step read (lexeme_at ls place) ≡ step stack (lexeme_at ls place)
  pub ends : place ≡ length ls → IsDone read → IsDone stack

-- the lexemes, placed, begin a text of these symbols
abbrev pub BeginsText : List Symbol → List Placed → Type 0
BeginsText symbols xs = (rest : List Placed) × InStack symbols (xs ++ rest)

-- the lexemes can be completed to a text of these symbols, they within the depth
abbrev pub IsCompletable : List Symbol → List Lexeme → Type 0
IsCompletable symbols ls = (xs : List Placed) × ((ls ≡ lexemes_placed xs) × BeginsText symbols xs × AreWithinDepth xs)

-- what stands before the place can be completed to a text of what was to be read; with what stands
-- there, which may be the end, it can't
pub record IsSyntaxFaultIn (b : Beginning) (ls : List Lexeme) (place : ℕ) : Type 0 where
  pub from : b.place ≤ place
  pub within : place ≤ length ls
  pub before : IsCompletable b.symbols (read_by b ls place)
  pub here : place < length ls → (xs : List Placed) → read_by b ls (place + 1) ≡ lexemes_placed xs
      → BeginsText b.symbols xs → ⊥
  pub ended : place ≡ length ls → (xs : List Placed) → read_by b ls place ≡ lexemes_placed xs → InStack b.symbols xs → ⊥

-- what stands at the place is the first that is deeper than the limit in a text of what was to be read
pub record IsTooDeepIn (b : Beginning) (ls : List Lexeme) (place : ℕ) : Type 0 where
  pub from : b.place ≤ place
  pub within : place < length ls
  pub before : List Placed
  pub deepest : Placed
  pub same : read_by b ls (place + 1) ≡ lexemes_placed (before ++ deepest ∷ [])
  pub begins : BeginsText b.symbols (before ++ deepest ∷ [])
  pub shallow : AreWithinDepth before
  pub too_deep : max_nesting < deepest.depth

-- what a refusal of the grammar says
abbrev pub IsFaultOf : Beginning → List Lexeme → ParseError → Type 0
IsFaultOf b ls Memory = Unit {0}
IsFaultOf b ls ScriptTooLong = ⊥
IsFaultOf b ls (Lexical place) = ⊥
IsFaultOf b ls (Syntax place) = IsSyntaxFaultIn b ls place
IsFaultOf b ls (TooDeep place) = IsTooDeepIn b ls place

-- from place a up to place b stand these lexemes
pub record Stands (ls : List Lexeme) (a b : ℕ) (placed : List Placed) : Type 0 where
  pub from : a ≤ b
  pub within : b ≤ length ls
  pub same : drop a ls ≡ lexemes_placed placed ++ drop b ls

-- the value of the string at the place, or nothing where none stands there
abbrev pub IsStringAt : List Lexeme → ℕ → Option (List ℕ) → Type 0
IsStringAt ls at None = (s : List ℕ) → at < length ls → lexeme_at ls at ≡ string s → ⊥
IsStringAt ls at (Some s) = (at < length ls) × (lexeme_at ls at ≡ string s)

-- the name of the identifier at the place, or nothing where none stands there
abbrev pub IsIdentifierAt : List Lexeme → ℕ → Option (List ℕ) → Type 0
IsIdentifierAt ls at None = (n : ℕ) (name : List ℕ) → at < length ls → lexeme_at ls at ≡ identifier n name → ⊥
IsIdentifierAt ls at (Some name) = (at < length ls) × (lexeme_at ls at ≡ identifier at name)

-- a string that has to stand at the place, or the refusal
abbrev pub IsExpectedString : List Lexeme → ℕ → Result (List ℕ) ParseError → Type 0
IsExpectedString ls at answer = MatchResult answer (λ s. (at < length ls) × (lexeme_at ls at ≡ string s))
    (λ e. (d : ℕ) (stack : List Symbol) (b : Beginning) → IsAt b ls at (strings d ∷ stack) → IsFaultOf b ls e)

-- a list of strings after its opening bracket, or the refusal
abbrev pub IsListAfter : List Lexeme → ℕ → Result (Argument × ℕ) ParseError → Type 0
IsListAfter ls at answer = (d : ℕ) (stack : List Symbol) → d ≤ max_nesting → MatchResult answer
    (λ r. (w : List Placed) × ((argument_spelled d (argument_tree r.0) ≡ at_depth d opening_bracket ∷ w)
    × Stands ls at r.1 w × ((b : Beginning) → IsAt b ls at (strings d ∷ stack) → IsAt b ls r.1 stack)))
    (λ e. (b : Beginning) → IsAt b ls at (strings d ∷ stack) → IsFaultOf b ls e)

-- the lexeme begins no argument
abbrev pub IsNoArgument : Lexeme → Type 0
IsNoArgument (tag name) = ⊥
IsNoArgument (number n) = ⊥
IsNoArgument (string s) = ⊥
IsNoArgument opening_bracket = ⊥
IsNoArgument _ = Unit {0}

-- at the place begins no argument
abbrev pub NoArgumentAt : List Lexeme → ℕ → Type 0
NoArgumentAt ls at = at < length ls → IsNoArgument (lexeme_at ls at)

-- the argument at the place with the place after it, or nothing where none begins; or the refusal
abbrev pub IsArgumentAt : List Lexeme → ℕ → Result (Option (Argument × ℕ)) ParseError → Type 0
IsArgumentAt ls at answer = (d : ℕ) (f : Follow) (stack : List Symbol) → d ≤ max_nesting → MatchResult answer
    (λ o. MatchOption o (NoArgumentAt ls at)
    (λ r. (at < r.1) × Stands ls at r.1 (argument_spelled d (argument_tree r.0))
    × ((b : Beginning) → IsAt b ls at (arguments d f ∷ stack) → IsAt b ls r.1 (arguments d f ∷ stack))))
    (λ e. (b : Beginning) → IsAt b ls at (arguments d f ∷ stack) → IsFaultOf b ls e)

-- the arguments from the place on, with the place after them, at which no argument begins; or the refusal
abbrev pub AreArgumentsAt : List Lexeme → ℕ → Result (Vec Argument Global × ℕ) ParseError → Type 0
AreArgumentsAt ls at answer = (d : ℕ) (f : Follow) (stack : List Symbol) → d ≤ max_nesting → MatchResult answer
    (λ r. Stands ls at r.1 (arguments_spelled d (map argument_tree r.0.items)) × NoArgumentAt ls r.1
    × ((b : Beginning) → IsAt b ls at (arguments d f ∷ stack) → IsAt b ls r.1 (arguments d f ∷ stack)))
    (λ e. (b : Beginning) → IsAt b ls at (arguments d f ∷ stack) → IsFaultOf b ls e)

-- the invocation whose identifier has the number, with the place after it; or the refusal
abbrev pub IsInvocationAt : List Lexeme → List ℕ → ℕ → ℕ → Result (Invocation × ℕ) ParseError → Type 0
IsInvocationAt ls name n d answer = (f : Follow) (stack : List Symbol) → MatchResult answer
    (λ r. (w : List Placed) × ((invocation_spelled d (invocation_tree r.0) ≡ at_depth d (identifier n name) ∷ w)
    × Stands ls (n + 1) r.1 w
    × ((b : Beginning) → IsAt b ls (n + 1) (arguments d f ∷ stack) → IsAt b ls r.1 (ending f ∷ stack))))
    (λ e. (b : Beginning) → IsAt b ls (n + 1) (arguments d f ∷ stack) → IsFaultOf b ls e)

-- the test that has to begin at the place, with the place after it; or the refusal
abbrev pub IsTestAt : List Lexeme → ℕ → ℕ → Result (Invocation × ℕ) ParseError → Type 0
IsTestAt ls at d answer = (stack : List Symbol) → MatchResult answer
    (λ r. Stands ls at r.1 (invocation_spelled (suc d) (invocation_tree r.0))
    × ((b : Beginning) → IsAt b ls at (tests d ∷ stack) → IsAt b ls r.1 (ending (test_end d) ∷ stack)))
    (λ e. (b : Beginning) → IsAt b ls at (tests d ∷ stack) → IsFaultOf b ls e)

-- the tests of a list after its opening bracket, with the place after the closing one; or the refusal
abbrev pub AreTestsAfter : List Lexeme → ℕ → ℕ → Result ((Invocation × Vec Invocation Global) × ℕ) ParseError → Type 0
AreTestsAfter ls at d answer = (stack : List Symbol) → MatchResult answer
    (λ r. Stands ls at r.1 (invocation_spelled (suc d) (invocation_tree r.0.0)
    ++ (more_tests_spelled d (more_tests_of (map invocation_tree r.0.1.items)) ++ at_depth d closing_parenthesis ∷ []))
    × ((b : Beginning) → IsAt b ls at (tests d ∷ stack) → IsAt b ls r.1 stack))
    (λ e. (b : Beginning) → IsAt b ls at (tests d ∷ stack) → IsFaultOf b ls e)

-- the command whose identifier has the number, with the place after it; or the refusal
abbrev pub IsCommandAt : List Lexeme → List ℕ → ℕ → ℕ → Result (Command × ℕ) ParseError → Type 0
IsCommandAt ls name n d answer = (stack : List Symbol) → MatchResult answer
    (λ r. (w : List Placed) × ((command_spelled d (command_tree r.0) ≡ at_depth d (identifier n name) ∷ w)
    × Stands ls (n + 1) r.1 w
    × ((b : Beginning) → IsAt b ls (n + 1) (arguments d (command_end d) ∷ stack) → IsAt b ls r.1 stack)))
    (λ e. (b : Beginning) → IsAt b ls (n + 1) (arguments d (command_end d) ∷ stack) → IsFaultOf b ls e)

-- the commands from the place on, with the place after them, at which no identifier stands; or the refusal
abbrev pub AreCommandsAt : List Lexeme → ℕ → ℕ → Result (Vec Command Global × ℕ) ParseError → Type 0
AreCommandsAt ls at d answer = (stack : List Symbol) → MatchResult answer
    (λ r. Stands ls at r.1 (commands_spelled d (commands_tree r.0.items)) × IsIdentifierAt ls r.1 None
    × ((b : Beginning) → IsAt b ls at (body d ∷ stack) → IsAt b ls r.1 (body d ∷ stack)))
    (λ e. (b : Beginning) → IsAt b ls at (body d ∷ stack) → IsFaultOf b ls e)
