use Rattle.std.proofs.Common.{arith, ◌∙◌}
use Rattle.catalog.proofs.StoredLemmas.{one_more}
use Rattle.catalog.proofs.stored.part_digests.Goals as goal

pub loop-part-preserved : goal.loop-part-preserved
loop-part-preserved c =
    let parts = c.args.message.now.parts in
    c.in_ok-push.ensures.items
    ∙ one_more parts c.loop-part.part c.in_ok-part_digest.field-0 c.loop-part.digests.items (omega (arith, c.loop-part-test.true, c.parts-parts.ensures.value)) c.in_ok-part_digest.ensures c.loop-part.invariant
