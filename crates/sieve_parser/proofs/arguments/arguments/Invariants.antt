use Rattle.std.proofs.Common.{ℕ, ◌-◌, ◌≤◌, List, ◌∷◌, length, map}
use Rattle.sieve_parser.specs.Grammar.{arguments_spelled}
use Rattle.sieve_parser.specs.TokenMachine.{Follow, Symbol, arguments}
use Rattle.sieve_parser.specs.Parsing.{Beginning, IsAt, Stands}
use Rattle.sieve_parser.specs.Lexemes.{lexemes}
use Rattle.sieve_parser.specs.View.{argument_tree}
use Rattle.sieve_parser.proofs.arguments.arguments.Given as goal

abbrev pub invariant-arguments : goal.invariant-arguments
invariant-arguments l = (l.next ≤ length (lexemes l.script l.tokens)) × ((d : ℕ) (f : Follow) (stack : List Symbol) → d ≤ 32 →
    Stands (lexemes l.script l.tokens) l.at l.next (arguments_spelled d (map argument_tree l.arguments.items))
    × ((b : Beginning) → IsAt b (lexemes l.script l.tokens) l.at (arguments d f ∷ stack) → IsAt b (lexemes l.script l.tokens) l.next (arguments d f ∷ stack)))

abbrev pub decreases-arguments : goal.decreases-arguments
decreases-arguments l = length (lexemes l.script l.tokens) - l.next
