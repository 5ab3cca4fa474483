use Rattle.std.proofs.Common.{◌∙◌}
use Rattle.std.proofs.lemmas.Result.{IfOk-weaker}
use Rattle.catalog.specs.Stored.{stored_place}
use Rattle.catalog.proofs.InOrder.{values_in_order}
use Rattle.catalog.proofs.index.PartIndex.stored_in.Goals as goal

pub returns : goal.returns
returns c = λ entries messages is.
    IfOk-weaker c.in_order.result _ _
    (λ list are. are
    ∙ values_in_order (stored_place c.args.digests.now) entries c.in_ok-places.places c.in_order.ensures.ordered
    (c.in_ok-places.ensures.places entries is.has_entries))
    c.in_order.ensures.values
