-- Where a script leaves the grammar, or goes too deep.
use Rattle.std.specs.Prelude.{◌≡◌, ℕ, ◌+◌, ◌<◌, ◌≤◌, List, [], ◌∷◌, ◌++◌, length, take}
use Rattle.octets.specs.Limits.{max_nesting}
use Rattle.sieve_parser.specs.Lexemes.{Lexeme}
use Rattle.sieve_parser.specs.Tree.{CommandsTree}
use Rattle.sieve_parser.specs.Grammar.{Placed, lexemes_placed, BeginsScript, IsViable, IsScript}

-- no lexeme is deeper than the limit
abbrev pub AreWithinDepth : List Placed → Type 0
AreWithinDepth [] = Unit {0}
AreWithinDepth (x ∷ xs) = (x.depth ≤ max_nesting) × AreWithinDepth xs

-- the lexemes begin some script, in which none of them is deeper than the limit
abbrev pub IsViableWithinDepth : List Lexeme → Type 0
IsViableWithinDepth ls = (xs : List Placed) × ((ls ≡ lexemes_placed xs) × BeginsScript xs × AreWithinDepth xs)

-- at the place, which may be the end, stands the first lexeme with which the lexemes begin no script
pub record IsSyntaxFault (ls : List Lexeme) (place : ℕ) : Type 0 where
  pub within : place ≤ length ls
  pub before : IsViableWithinDepth (take place ls)
  pub here : place < length ls → IsViable (take (place + 1) ls) → ⊥
  pub ended : place ≡ length ls → (cs : CommandsTree) → IsScript ls cs → ⊥

-- the lexeme at the place is the first that is deeper than the limit
pub record IsTooDeep (ls : List Lexeme) (place : ℕ) : Type 0 where
  pub within : place < length ls
  pub before : List Placed
  pub deepest : Placed
  pub same : take (place + 1) ls ≡ lexemes_placed (before ++ deepest ∷ [])
  pub begins : BeginsScript (before ++ deepest ∷ [])
  pub shallow : AreWithinDepth before
  pub too_deep : max_nesting < deepest.depth
