use Rattle.std.specs.BTreeMap.{get}
use Rattle.std.specs.Ordering.{nat_cmp}
use Rattle.catalog.specs.declared.index.Slot.{Slot}
use Rattle.catalog.proofs.SlotLemmas.{next_slot}
use Rattle.catalog.proofs.index.put_slots.Goals as goal

pub loop-slot-preserved : goal.loop-slot-preserved
loop-slot-preserved c = λ at.
    let none : Slot = record { number = 0; at = 0 } in
    next_slot c.args.part c.args.slots.now c.loop-slot.slot-index none (get nat_cmp c.args.places.now) at _ _ c.loop-slot-test.true (c.loop-slot.invariant at) (c.in_ok-insert.ensures.updates.0 at)
