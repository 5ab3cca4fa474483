use Rattle.std.proofs.Common.{◌-◌, ◌≤◌, length, ℕ}
use Rattle.sieve_lexer.specs.Chain.{Stops}
use Rattle.sieve_lexer.specs.Separators.{IsGap, IsSeparator}
use Rattle.sieve_lexer.specs.Tokens.{TokensUpTo}
use Rattle.sieve_lexer.proofs.reader.tokens.Given as goal

abbrev pub invariant-loop-place : goal.invariant-loop-place
invariant-loop-place l = (l.place ≤ length l.script) × ((end : ℕ) × (TokensUpTo l.script 0 l.tokens.items end × IsGap l.script end l.place))
    × Stops (IsSeparator l.script) l.place

abbrev pub decreases-loop-place : goal.decreases-loop-place
decreases-loop-place l = length l.script - l.place
