use Rattle.std.proofs.Common.{map}
use Rattle.part_store.specs.Sharing.{first_of}
use Rattle.depot_actions.proofs.Sharing.{AreShared}
use Rattle.depot_actions.proofs.contents.shared_contents.Given as goal

abbrev pub invariant-loop-action : goal.invariant-loop-action
invariant-loop-action l = AreShared l.message l.actions l.action-index l.firsts.items (map first_of l.shared.items)
