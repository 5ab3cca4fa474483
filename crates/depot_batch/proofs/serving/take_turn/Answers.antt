use Rattle.std.proofs.Common.{◌-◌, [], arith}
use Rattle.depot_batch.proofs.Batches.{ahead_as, turned_after, turned_end, turned_unread}
use Rattle.depot_batch.proofs.serving.take_turn.Goals as goal

pub returns-then-alone-gt0-clause-turned : goal.returns-then-alone-gt0-clause-turned
returns-then-alone-gt0-clause-turned g c = c.take_alone.ensures.turned c.args.alone.now (c.args.alone.now - 1) (omega arith)

pub returns-in-Ok-Other-clause-turned : goal.returns-in-Ok-Other-clause-turned
returns-in-Ok-Other-clause-turned g c =
    turned_after g.S.Store _ _ _ (ahead_as _ _ c.in-Ok-Other.field-0-is c.in-Ok-Other.ensures.ahead)
    (c.take_alone-in-Ok-Other.ensures.turned c.args.alone.now c.args.alone.now (omega arith))

pub returns-in-Ok-End-clause-turned : goal.returns-in-Ok-End-clause-turned
returns-in-Ok-End-clause-turned g c = turned_end g.S.Store _ _ (ahead_as _ _ c.in-Ok-End.field-0-is c.in-Ok-End.ensures.ahead)

pub returns-in-Err-clause-turned : goal.returns-in-Err-clause-turned
returns-in-Err-clause-turned g c = turned_unread g.S.Store _ _ [] c.in-Err.ensures.refused
