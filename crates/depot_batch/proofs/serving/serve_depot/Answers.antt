use Rattle.depot_batch.proofs.Batches.{served_none}
use Rattle.depot_batch.proofs.serving.serve_depot.Goals as goal

pub returns-in-Err : goal.returns-in-Err
returns-in-Err g c =
    let unread = c.in-Err.ensures.refused in
    rw c.tell.ensures.status (served_none g.S.Store _ _ unread.0 unread.1 c.tell.ensures.told)
