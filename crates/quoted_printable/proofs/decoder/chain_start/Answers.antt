use Rattle.std.proofs.Common.{sym, ◌∙◌, arith}
use Rattle.quoted_printable.proofs.Pending.{chain_more}
use Rattle.quoted_printable.proofs.decoder.chain_start.Goals as goal

pub octets-preserved : goal.octets-preserved
octets-preserved c =
    let some = c.octets-test.true in
    let within = c.octets.invariant.within in
    record {
      within = omega arith;
      follow = chain_more c.args.line.now c.octets.start some (sym c.follows.ensures ∙ c.if-follows.true) c.octets.invariant.follow;
    }
