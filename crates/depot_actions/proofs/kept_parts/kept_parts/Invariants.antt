use Rattle.std.proofs.Common.{All, take}
use Rattle.depot_actions.specs.Filing.{AreKept, KeepsAction}
use Rattle.depot_actions.proofs.kept_parts.kept_parts.Given as goal

abbrev pub invariant-loop-action : goal.invariant-loop-action
invariant-loop-action l =
    record {
      parts : AreKept l.message l.kept.items;
      all : All (KeepsAction l.kept.items) (take l.action-index l.actions);
    }
