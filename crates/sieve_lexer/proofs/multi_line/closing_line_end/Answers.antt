use Rattle.std.proofs.Common.{arith}
use Rattle.std.proofs.lemmas.Bool.{false≢true}
use Rattle.sieve_lexer.proofs.Steps.{leads_push, leads_order}
use Rattle.sieve_lexer.proofs.Unique.{multi_line_none, content_forward}
use Rattle.sieve_lexer.proofs.multi_line.closing_line_end.Goals as goal

pub returns-then-is_lone_dot-clause-bound : goal.returns-then-is_lone_dot-clause-bound
returns-then-is_lone_dot-clause-bound c =
    let line = c.in-Some.ensures in
    let back = leads_order _ (content_forward c.args.script.now) c.args.place c.lines.start c.lines.invariant.1 in
    (omega (arith, line.break, line.from), omega (arith, line.break, line.within))

pub lines-preserved : goal.lines-preserved
lines-preserved c =
    let line = c.in-Some.ensures in
    (omega (arith, line.break, line.within), leads_push _ c.args.place c.lines.start c.in-Some.stop c.lines.invariant.1 (line, λ closes. false≢true (c.if-is_lone_dot.ensures.1 closes)))

pub returns-clause-rest : goal.returns-clause-rest
returns-clause-rest c = multi_line_none c.args.script.now c.args.place c.lines.start c.lines.invariant.1 c.in_default.ensures
