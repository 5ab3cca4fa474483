use Rattle.std.proofs.Common.{◌∙◌, arith}
use Rattle.volumes_rows.proofs.Slots.{none_taken, taken}
use Rattle.volumes_rows.proofs.open_volumes.take_from.Goals as goal

pub returns-clause-taken : goal.returns-clause-taken
returns-clause-taken g c =
    taken c.args.slots.now.items c.args.place c.index_mut.result.now c.take.new.self c.take.result c.take.ensures.after (omega arith) (c.take.ensures.value ∙ c.index_mut.ensures.value)

pub returns-clause-none : goal.returns-clause-none
returns-clause-none g c = λ none.
    none_taken c.args.slots.now.items c.args.place c.index_mut.result.now c.take.new.self c.take.result c.take.ensures.after (c.take.ensures.value ∙ c.index_mut.ensures.value) none
