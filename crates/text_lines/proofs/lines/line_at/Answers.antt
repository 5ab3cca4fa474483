use Rattle.std.proofs.Common.{arith}
use Rattle.text_lines.proofs.FirstLine.{line_at_end, line_at_feed, line_at_crlf}
use Rattle.text_lines.proofs.lines.line_at.Goals as goal
use Rattle.text_lines.proofs.lines.line_at.Goals.{then-start-feed+then-text-feed-eq13, else-start-feed, else-start-feed-via-then-start-feed+else-text-feed-eq13, else-start-feed-via-else-start-feed}

pub returns-in_default : goal.returns-in_default
returns-in_default c = line_at_end c.args.text.now c.args.start c.requires c.in_default.ensures

pub returns : goal.returns
returns c =
    let found = c.in-Some.ensures in
    elim c.if-start-feed.branch [
      | then-start-feed+then-text-feed-eq13 w ↦ rw w.end-is (line_at_crlf c.args.text.now c.args.start c.in-Some.feed found (omega arith) w.if-text-feed-eq13.true)
      | else-start-feed w ↦ rw w.end-is (line_at_feed c.args.text.now c.args.start c.in-Some.feed found (elim w.else-start-feed.branch [
        | else-start-feed-via-then-start-feed+else-text-feed-eq13 w' ↦ λ pos. w'.if-text-feed-eq13.false
        | else-start-feed-via-else-start-feed w' ↦ λ pos. absurd (omega arith)
      ]))
    ]
