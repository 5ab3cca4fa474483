use Rattle.depot_batch.proofs.Batches.{ahead_as}
use Rattle.depot_batch.proofs.Beginnings.{ready_otherwise, shown_nothing}
use Rattle.depot_batch.proofs.first.first_of.Goals as goal

pub returns-in-Ok-Deliveries-clause-first : goal.returns-in-Ok-Deliveries-clause-first
returns-in-Ok-Deliveries-clause-first g c =
    let ahead = ahead_as _ _ c.in-Ok-Deliveries.field-0-is c.in-Ok-Deliveries.ensures.ahead in
    (shown_nothing _ _ _ ahead.2, ready_otherwise _ _ _ ahead.2 ahead.3 ahead.0)
