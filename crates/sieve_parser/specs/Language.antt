-- Private: the language of each symbol: what it is written as.
use Rattle.std.specs.Prelude.{◌≡◌, ◌⊎◌, ℕ, zero, suc, List, [], ◌∷◌, ◌++◌}
use Rattle.sieve_parser.specs.Lexemes.{string, semicolon, opening_brace, closing_brace, closing_parenthesis, closing_bracket}
use Rattle.sieve_parser.specs.Tree.{ArgumentTree, InvocationTree, TestsTree, MoreTests, CommandsTree}
use Rattle.sieve_parser.specs.Grammar.{Placed, at_depth, more_strings_spelled, arguments_spelled, invocation_spelled, tests_spelled, more_tests_spelled, commands_spelled}
use Rattle.sieve_parser.specs.TokenMachine.{Follow, command_end, test_end, Symbol, body, arguments, ending, tests, strings, more_strings}

-- what ends a body: the closing brace, and at depth 0 nothing
abbrev pub body_end : ℕ → List Placed
body_end zero = []
body_end (suc d) = at_depth (suc d) closing_brace ∷ []

-- the words that end arguments
abbrev pub InFollow : Follow → List Placed → Type 0
InFollow (command_end d) zs = (zs ≡ at_depth d semicolon ∷ [])
    ⊎ ((cs : CommandsTree) × (zs ≡ at_depth (suc d) opening_brace
    ∷ (commands_spelled (suc d) cs ++ at_depth (suc d) closing_brace ∷ [])))
InFollow (test_end d) zs = (ts : MoreTests) × (zs ≡ more_tests_spelled d ts ++ at_depth d closing_parenthesis ∷ [])

-- the words of a symbol
abbrev pub InSymbol : Symbol → List Placed → Type 0
InSymbol (body d) zs = (cs : CommandsTree) × (zs ≡ commands_spelled d cs ++ body_end d)
InSymbol (arguments d f) zs = (args : List ArgumentTree) × ((ts : TestsTree) × ((ys : List Placed)
    × ((zs ≡ (arguments_spelled d args ++ tests_spelled d ts) ++ ys) × InFollow f ys)))
InSymbol (ending f) zs = InFollow f zs
InSymbol (tests d) zs = (t : InvocationTree)
    × ((ts : MoreTests) × (zs ≡ invocation_spelled (suc d) t
    ++ (more_tests_spelled d ts ++ at_depth d closing_parenthesis ∷ [])))
InSymbol (strings d) zs = (s : List ℕ)
    × ((ss : List (List ℕ)) × (zs ≡ at_depth d (string s)
    ∷ (more_strings_spelled d ss ++ at_depth d closing_bracket ∷ [])))
InSymbol (more_strings d) zs = (ss : List (List ℕ))
    × (zs ≡ more_strings_spelled d ss ++ at_depth d closing_bracket ∷ [])

-- the words of a stack of symbols
abbrev pub InStack : List Symbol → List Placed → Type 0
InStack [] zs = zs ≡ []
InStack (x ∷ stack) zs = (us : List Placed)
    × ((vs : List Placed) × ((zs ≡ us ++ vs) × InSymbol x us × InStack stack vs))
