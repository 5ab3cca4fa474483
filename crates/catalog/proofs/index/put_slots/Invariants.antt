use Rattle.std.proofs.Common.{◌≡◌, ℕ, take}
use Rattle.std.specs.BTreeMap.{get}
use Rattle.std.specs.Ordering.{nat_cmp}
use Rattle.catalog.specs.Adding.{at_slots}
use Rattle.catalog.proofs.index.put_slots.Given as goal

abbrev pub invariant-loop-slot : goal.invariant-loop-slot
invariant-loop-slot l = (at : ℕ) → get nat_cmp l.places at ≡ at_slots l.part (take l.slot-index l.slots) (get nat_cmp l.initial.places) at
