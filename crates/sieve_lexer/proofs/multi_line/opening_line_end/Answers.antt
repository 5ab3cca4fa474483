use Rattle.sieve_lexer.proofs.Unique.{opening_line_at}
use Rattle.sieve_lexer.proofs.multi_line.opening_line_end.Goals as goal

pub returns-clause-line : goal.returns-clause-line
returns-clause-line c = opening_line_at c.args.script.now c.args.place c.blanks_end.result c.opening_end.result (c.equal_ignoring_case.ensures.0 c.if-not-equal_ignoring_case.false) c.blanks_end.ensures c.opening_end.ensures.end
