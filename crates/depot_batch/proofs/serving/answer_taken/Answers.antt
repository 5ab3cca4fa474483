use Rattle.depot_batch.specs.Turns.{Alone}
use Rattle.depot_batch.proofs.Batches.{broken_within, taken_as, turned_broken, turned_end, turned_line, turned_within}
use Rattle.depot_batch.proofs.serving.answer_taken.Goals as goal

pub returns-in-Ok-clause-turned : goal.returns-in-Ok-clause-turned
returns-in-Ok-clause-turned g c alone later before after one taken =
    turned_line g.S.Store _ _ _ c.in-Ok.outcome one _ (taken_as _ _ _ c.in-Line.is taken) c.in-Ok.ensures.answered c.status_after.ensures.ends c.status_after.ensures.goes_on

pub returns-in-Err-clause-turned : goal.returns-in-Err-clause-turned
returns-in-Err-clause-turned g c alone later before after one taken =
    let broken = c.in-Err.ensures.broken in
    turned_broken g.S.Store _ _ (Alone _ broken.0) one (taken_as _ _ _ c.in-Line.is taken) broken.1

pub returns-in-Ok-serve-clause-turned : goal.returns-in-Ok-serve-clause-turned
returns-in-Ok-serve-clause-turned g c alone later before after one taken =
    turned_within g.S.Store _ _ _ _ one (taken_as _ _ _ c.in-Unfinished.is taken) c.in-Ok-serve.ensures.answered

pub returns-in-Err-serve-clause-turned : goal.returns-in-Err-serve-clause-turned
returns-in-Err-serve-clause-turned g c alone later before after one taken =
    let broken = c.in-Err-serve.ensures.broken in
    broken_within g.S.Store _ _ _ broken.0 one (taken_as _ _ _ c.in-Unfinished.is taken) broken.1

pub returns-in-Nothing-clause-turned : goal.returns-in-Nothing-clause-turned
returns-in-Nothing-clause-turned g c alone later before after one taken =
    let end = taken_as _ _ _ c.in-Nothing.is taken in
    turned_end g.S.Store _ _ end.1
