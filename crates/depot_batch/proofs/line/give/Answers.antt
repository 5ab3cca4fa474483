use Rattle.depot_batch.proofs.line.give.Goals as goal

pub returns-in-Ok-clause-put : goal.returns-in-Ok-clause-put
returns-in-Ok-clause-put g c =
    let has = c.in-Ok.ensures in
    record { wording = has.wording; suits = has.suits; put = record { ok = has.put.ok; err = tt } }

pub returns-in-Err-clause-put : goal.returns-in-Err-clause-put
returns-in-Err-clause-put g c =
    let has = c.in-Err.ensures in
    record { wording = has.wording; suits = has.suits; put = record { ok = tt; err = has.put.err } }
