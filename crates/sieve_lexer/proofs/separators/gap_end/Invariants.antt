use Rattle.std.proofs.Common.{◌-◌, ◌≤◌, length}
use Rattle.sieve_lexer.specs.Separators.{IsGap}
use Rattle.sieve_lexer.proofs.separators.gap_end.Given as goal

abbrev pub invariant-separators : goal.invariant-separators
invariant-separators l = (l.end ≤ length l.script) × (l.place ≤ l.end) × IsGap l.script l.place l.end

abbrev pub decreases-separators : goal.decreases-separators
decreases-separators l = length l.script - l.end
