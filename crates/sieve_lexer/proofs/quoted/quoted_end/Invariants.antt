use Rattle.std.proofs.Common.{◌-◌, ◌≤◌, length}
use Rattle.sieve_lexer.specs.Chain.{Leads}
use Rattle.sieve_lexer.specs.Strings.{IsCharacter}
use Rattle.sieve_lexer.proofs.quoted.quoted_end.Given as goal

abbrev pub invariant-loop-at : goal.invariant-loop-at
invariant-loop-at l = (l.at ≤ length l.script) × (l.place ≤ l.at) × Leads (IsCharacter l.script) l.place l.at

abbrev pub decreases-loop-at : goal.decreases-loop-at
decreases-loop-at l = length l.script - l.at
