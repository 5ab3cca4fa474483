use Rattle.std.proofs.Common.{◌++◌, arith, ap, ◌∙◌, sym}
use Rattle.quoted_printable.proofs.Held.{release_hard, release_soft}
use Rattle.quoted_printable.proofs.Stretches.{reads_left}
use Rattle.quoted_printable.proofs.decoder.release_line.Goals as goal
use Rattle.quoted_printable.proofs.decoder.release_line.Goals.{else-held-gt0-via-then-held-gt0+else-held-eq-EQUALS, else-held-gt0-via-else-held-gt0}

pub returns-then-held-eq-EQUALS-clause-read : goal.returns-then-held-eq-EQUALS-clause-read
returns-then-held-eq-EQUALS-clause-read c =
    reads_left _ _ _ _ _ (sym c.split_at.ensures.back) (release_soft c.args.out.now.items c.args.held.now c.args.rest.now c.requires.held c.requires.digit c.requires.some c.requires.feed c.if-held-gt0.true c.if-held-eq-EQUALS.true)

pub returns-clause-read : goal.returns-clause-read
returns-clause-read c =
    release_hard c.args.out.now.items _ c.args.held.now c.args.rest.now c.requires.held c.requires.digit c.requires.some c.requires.feed
    (elim c.else-held-gt0.branch [
      | else-held-gt0-via-then-held-gt0+else-held-eq-EQUALS w ↦ λ some. w.if-held-eq-EQUALS.false
      | else-held-gt0-via-else-held-gt0 w ↦ λ some. absurd (let none = w.if-held-gt0.false in omega arith)
    ])
    (c.in_ok-extend_from_slice.ensures.items ∙ ap (λ l. c.args.out.now.items ++ l) c.trim_leading_blanks.ensures)
