use Rattle.std.proofs.Common.{sym, ◌∙◌}
use Rattle.quoted_printable.proofs.Pending.{pending_begins, pending_none}
use Rattle.quoted_printable.proofs.decoder.pending_start.Goals as goal

pub returns-then-begins : goal.returns-then-begins
returns-then-begins c = pending_begins c.args.line.now c.chain_start-start.result c.chain_start-start.ensures (sym c.begins.ensures ∙ c.if-begins.true)

pub returns : goal.returns
returns c = pending_none c.args.line.now c.chain_start-start.result c.chain_start-start.ensures (sym c.begins.ensures ∙ c.if-begins.false)
