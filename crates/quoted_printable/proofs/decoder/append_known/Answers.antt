use Rattle.std.proofs.Common.{◌++◌, ◌∙◌}
use Rattle.quoted_printable.specs.QuotedPrintable.{unescaped}
use Rattle.quoted_printable.proofs.Pending.{reads_open}
use Rattle.quoted_printable.proofs.decoder.append_known.Goals as goal

pub returns-clause-read : goal.returns-clause-read
returns-clause-read c =
    let lines = c.in_ok-append_decoding.ensures.decoded in
    let known = c.in_ok-append_unescaped.ensures.decoded in
    reads_open c.args.out.now.items c.append_unescaped.new.out.items c.args.text.now c.after_last_break.result.0.now c.after_last_break.result.1.now c.split_at.result.1.now
    c.pending_start.result c.after_last_break.ensures.lines c.after_last_break.ensures.no_feed c.pending_start.ensures c.split_at.ensures.back
    (known ∙ (λ i. lines i ++ unescaped (c.split_at.ensures.front i)))
