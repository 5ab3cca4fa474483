use Rattle.std.proofs.Common.{◌-◌, ◌≤◌, length}
use Rattle.sieve_lexer.specs.Chain.{Leads}
use Rattle.sieve_lexer.specs.Strings.{IsContentLine}
use Rattle.sieve_lexer.proofs.multi_line.closing_line_end.Given as goal

abbrev pub invariant-lines : goal.invariant-lines
invariant-lines l = (l.start ≤ length l.script) × Leads (IsContentLine l.script) l.place l.start

abbrev pub decreases-lines : goal.decreases-lines
decreases-lines l = length l.script - l.start
