use Rattle.std.proofs.Common.{[], arith}
use Rattle.catalog.specs.declared.entry.PartEntry.{PartEntry}
use Rattle.catalog.proofs.SlotLemmas.{next_slots}
use Rattle.catalog.proofs.index.slots_of.Goals as goal

pub loop-at-preserved : goal.loop-at-preserved
loop-at-preserved c = λ digest.
    let none : PartEntry = record { number = 0; digest = [] } in
    next_slots digest c.args.entries.now c.loop-at.at none _ _ (omega (arith, c.loop-at-test.true)) (c.loop-at.invariant digest) (c.in_ok-put.ensures digest)
