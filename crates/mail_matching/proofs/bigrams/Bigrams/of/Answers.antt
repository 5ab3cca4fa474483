use Rattle.std.proofs.Common.{length-set, arith}
use Rattle.mail_matching.proofs.NotContained.{one_more}
use Rattle.mail_matching.proofs.bigrams.Bigrams.of.Goals as goal

pub places-preserved : goal.places-preserved
places-preserved c =
    (simp length-set c.places.invariant.0, one_more c.places.rows c.args.value.now c.places.place c.from-row.result (omega arith) c.places.invariant.0 c.from-row.ensures c.places.invariant.1)
