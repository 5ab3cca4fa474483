use Rattle.std.proofs.Common.{arith, ◌∙◌, sym}
use Rattle.std.proofs.lemmas.Bool.{eqb-false}
use Rattle.sieve_lexer.specs.Values.{lines_of}
use Rattle.sieve_lexer.proofs.Lines.{prefix_more, lines_some}
use Rattle.sieve_lexer.proofs.value.push_unstuffed.Goals as goal

pub lines-preserved : goal.lines-preserved
lines-preserved c =
    let first = c.first_line-in-lines.ensures in
    let more = eqb-false _ _ (sym c.if-is_empty.ensures) in
    let some = lines_some c.first_line-in-lines.result.1.now (omega arith) in
    rw c.in_ok-extend_from_slice.ensures.items (prefix_more c.lines.value.items c.without_stuffing.result.now c.first_line-in-lines.result.0.now
    (lines_of c.lines.rest.now) (lines_of c.first_line-in-lines.result.1.now) some (first.lines (omega arith)) c.without_stuffing.ensures ∙ c.lines.invariant)
