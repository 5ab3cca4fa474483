use Rattle.std.proofs.Common.{map, take}
use Rattle.part_store.specs.Standing.{pair_of}
use Rattle.depot_actions.specs.Renewing.{AreRenewals}
use Rattle.depot_actions.proofs.renewing.renewed_programs.Given as goal

abbrev pub invariant-loop-user : goal.invariant-loop-user
invariant-loop-user l = AreRenewals (map pair_of (take l.user-index l.stored)) (map pair_of l.renewed.items)
