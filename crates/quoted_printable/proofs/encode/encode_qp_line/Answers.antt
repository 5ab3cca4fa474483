use Rattle.std.proofs.Common.{◌≢◌, ◌++◌, length, ap, ◌∙◌, arith}
use Rattle.quoted_printable.specs.QuotedPrintable.{run_of, tokens_of}
use Rattle.quoted_printable.proofs.Encoded.{last_line, line_goes_on, long_line, run_some}
use Rattle.quoted_printable.proofs.encode.encode_qp_line.Goals as goal
use Rattle.quoted_printable.proofs.encode.encode_qp_line.Goals.{then-octets-le-LINE_OCTETS+else-taken-octets, else-octets-le-LINE_OCTETS}

pub returns-then-taken-octets-clause-line : goal.returns-then-taken-octets-clause-line
returns-then-taken-octets-clause-line c =
    c.in_ok-extend_from_slice.ensures.items
    ∙ ap (λ l. c.args.out.now.items ++ l) (last_line c.args.octets.now c.fill-taken.result.0 _ c.fill-taken.ensures.tokens c.if-taken-octets.true c.fill-taken.ensures.octets).0

pub returns-then-taken-octets-clause-taken : goal.returns-then-taken-octets-clause-taken
returns-then-taken-octets-clause-taken c =
    (last_line c.args.octets.now c.fill-taken.result.0 _ c.fill-taken.ensures.tokens c.if-taken-octets.true c.fill-taken.ensures.octets).1

pub returns-clause-line : goal.returns-clause-line
returns-clause-line c =
    let octets = c.args.octets.now in
    let more : run_of 76 (tokens_of octets) ≢ length octets = elim c.if-octets-le-LINE_OCTETS.branch [
      | then-octets-le-LINE_OCTETS+else-taken-octets w ↦ λ e. w.if-taken-octets.false (w.fill-taken.ensures.tokens ∙ e)
      | else-octets-le-LINE_OCTETS w ↦ long_line octets w.if-octets-le-LINE_OCTETS.false
    ] in
    c.in_ok-extend_from_slice-2.ensures.items
    ∙ ap (λ l. c.args.out.now.items ++ l) (c.put_soft_break-end.ensures.octets
    ∙ (line_goes_on octets c.fill-taken-2.result.0 _ more c.fill-taken-2.ensures.tokens c.fill-taken-2.ensures.octets).0)

pub returns-clause-taken : goal.returns-clause-taken
returns-clause-taken c =
    let octets = c.args.octets.now in
    let more : run_of 76 (tokens_of octets) ≢ length octets = elim c.if-octets-le-LINE_OCTETS.branch [
      | then-octets-le-LINE_OCTETS+else-taken-octets w ↦ λ e. w.if-taken-octets.false (w.fill-taken.ensures.tokens ∙ e)
      | else-octets-le-LINE_OCTETS w ↦ long_line octets w.if-octets-le-LINE_OCTETS.false
    ] in
    (line_goes_on octets c.fill-taken-2.result.0 _ more c.fill-taken-2.ensures.tokens c.fill-taken-2.ensures.octets).1

pub returns-clause-some : goal.returns-clause-some
returns-clause-some c = λ some. let run = c.fill-taken-2.ensures.tokens in omega (arith, run_some c.args.octets.now some)
