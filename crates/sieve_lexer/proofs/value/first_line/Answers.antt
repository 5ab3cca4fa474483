use Rattle.sieve_lexer.proofs.Lines.{cut_line, cut_nowhere}
use Rattle.sieve_lexer.proofs.value.first_line.Goals as goal
use Rattle.sieve_lexer.proofs.value.first_line.Goals.{then-end-text, else-end-text}

pub returns-clause-lines : goal.returns-clause-lines
returns-clause-lines c = λ pos.
    rw (c.split_at.ensures.front, c.split_at.ensures.back) (elim c.if-end-text.branch [
      | then-end-text w ↦ rw w.split_at-is (cut_line c.args.text.now c.line_end-end.result c.line_end-end.ensures w.if-end-text.true)
      | else-end-text w ↦ rw w.split_at-is (cut_nowhere c.args.text.now c.line_end-end.result c.line_end-end.ensures w.if-end-text.false pos)
    ])
