use Rattle.sieve_lexer.proofs.Unique.{comment_opening_end}
use Rattle.sieve_lexer.proofs.multi_line.opening_end.Goals as goal

pub returns-in-35-clause-end : goal.returns-in-35-clause-end
returns-in-35-clause-end c = comment_opening_end c.args.script.now c.args.place c.line_stop.result c.in-35.is c.line_stop.ensures
