use Rattle.sieve_lexer.proofs.Unique.{slash_separator}
use Rattle.sieve_lexer.proofs.separators.separator_end.Goals as goal

pub returns-in-47-clause-separator : goal.returns-in-47-clause-separator
returns-in-47-clause-separator c = slash_separator c.args.script.now c.args.place c.bracket_comment_end.result c.in-47.is c.bracket_comment_end.ensures.comment
