use Rattle.std.proofs.Common.{sym}
use Rattle.depot_batch.proofs.Batches.{turned_unread}
use Rattle.depot_batch.proofs.Beginnings.{next_as}
use Rattle.depot_batch.proofs.serving.take_alone.Goals as goal

pub returns-in-Ok-clause-turned : goal.returns-in-Ok-clause-turned
returns-in-Ok-clause-turned g c alone later one =
    c.answer_taken.ensures.turned alone later _ _ one (next_as _ _ _ (sym c.deref.ensures.value) c.in-Ok.ensures.taken)

pub returns-clause-turned : goal.returns-clause-turned
returns-clause-turned g c alone later one = turned_unread g.S.Store _ _ _ c.in-Err.ensures.refused
