use Rattle.std.proofs.Common.{◌∙◌, ap, arith, sym}
use Rattle.depot_batch.specs.Private.{format_of}
use Rattle.depot_batch.proofs.Batches.{turned_after}
use Rattle.depot_batch.proofs.Beginnings.{begun_json, begun_plain, first_as, next_as, taken_otherwise}
use Rattle.depot_batch.proofs.serving.take_first.Goals as goal

pub returns-in-Taken-clause-begun : goal.returns-in-Taken-clause-begun
returns-in-Taken-clause-begun g c format before has =
    let all = first_as _ _ c.in-Taken.is has in
    begun_plain g.S.Store c.requires.none (format ∙ ap format_of c.in-Taken.is) (taken_otherwise _ _ _ _ all.0 all.1)
    (c.answer_taken.ensures.turned c.args.alone.now c.args.alone.now _ _ (omega arith) (next_as _ _ _ (sym c.deref.ensures.value) all.0))

pub returns-in-Json-clause-begun : goal.returns-in-Json-clause-begun
returns-in-Json-clause-begun g c format before has =
    begun_json g.S.Store c.requires.none (format ∙ ap format_of c.in-Json.is) (first_as _ _ c.in-Json.is has) c.take_turn.ensures.turned

pub returns-in-Ready-clause-begun : goal.returns-in-Ready-clause-begun
returns-in-Ready-clause-begun g c format before has =
    let all = first_as _ _ c.in-Ready.is has in
    begun_plain g.S.Store c.requires.none (format ∙ ap format_of c.in-Ready.is) all.1 (turned_after g.S.Store _ _ _ all.0 c.take_turn-in-Ready.ensures.turned)
