use Rattle.std.proofs.Common.{take_all}
use Rattle.depot_actions.proofs.Keeping.{next_action}
use Rattle.depot_actions.proofs.kept_parts.kept_parts.Goals as goal

pub loop-action-preserved : goal.loop-action-preserved
loop-action-preserved c =
    let step = c.in_ok-keep_stored.ensures in
    record {
      parts = step.parts;
      all = next_action c.loop-action.kept.items c.keep_stored.new.kept.items c.args.actions.now c.loop-action.action-index c.action-item.result c.loop-action-test.true c.action-item.is
          step.more step.there c.loop-action.invariant.all;
    }

pub returns-clause-all : goal.returns-clause-all
returns-clause-all c = let whole = take_all c.loop-action.action-index c.args.actions.now c.loop-action-test.false in rw whole at c.loop-action.invariant.all
