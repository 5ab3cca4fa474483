use Rattle.std.proofs.Common.{◌∙◌, Ok, ap, arith, refl}
use Rattle.depot_batch.specs.Private.{Places}
use Rattle.depot_batch.proofs.Batches.{first_ends, first_ends_told, so_begun, so_counting, so_ends, so_ends_told, so_on, turned_as}
use Rattle.depot_batch.proofs.serving.serve_lines.Goals as goal

pub turns-init : goal.turns-init
turns-init g c = (
  c.take_first.ensures.same,
  refl,
  λ format before has. so_begun g.S.Store _ _ (c.in-Ok-None.is ∙ ap Ok c.in-Ok-None.field-0-is) (c.take_first.ensures.begun format before has),
)

pub turns-preserved : goal.turns-preserved
turns-preserved g c =
    let same = c.turns.invariant.0 in (
      c.take_turn.ensures.same ∙ same,
      c.turns.invariant.1,
      λ format before has.
          so_on g.S.Store _ _ (c.turns.invariant.2 format before has)
          (turned_as g.S.Store (ap (λ (p : Places). p.name) same) (ap (λ (p : Places). p.format) same) (c.in-Ok-None-take_turn.is ∙ ap Ok c.in-Ok-None-take_turn.field-0-is) c.take_turn.ensures.turned),
    )

pub returns-clause-served : goal.returns-clause-served
returns-clause-served g c format before has =
    so_counting g.S.Store _ _ (c.turns.invariant.2 format before has) c.turns.invariant.1 (omega (arith, c.turns-test.false, c.turns.auto.counter-end))

pub returns-in-Ok-Some-clause-served : goal.returns-in-Ok-Some-clause-served
returns-in-Ok-Some-clause-served g c format before has = first_ends g.S.Store _ _ (c.in-Ok-Some.is ∙ ap Ok c.in-Ok-Some.field-0-is) (c.take_first.ensures.begun format before has)

pub returns-in-Err-clause-served : goal.returns-in-Err-clause-served
returns-in-Err-clause-served g c format before has =
    rw c.tell.ensures.status (first_ends_told g.S.Store _ _ c.in-Err.is (c.take_first.ensures.begun format before has) c.tell.ensures.told)

pub returns-in-Ok-Some-take_turn-clause-served : goal.returns-in-Ok-Some-take_turn-clause-served
returns-in-Ok-Some-take_turn-clause-served g c format before has =
    let same = c.turns.invariant.0 in
    so_ends g.S.Store _ _ (c.turns.invariant.2 format before has) c.turns.invariant.1
    (turned_as g.S.Store (ap (λ (p : Places). p.name) same) (ap (λ (p : Places). p.format) same) (c.in-Ok-Some-take_turn.is ∙ ap Ok c.in-Ok-Some-take_turn.field-0-is) c.take_turn.ensures.turned)

pub returns-in-Err-take_turn-clause-served : goal.returns-in-Err-take_turn-clause-served
returns-in-Err-take_turn-clause-served g c format before has =
    let same = c.turns.invariant.0 in
    rw c.tell-in-Err-take_turn.ensures.status
    (so_ends_told g.S.Store _ _ (c.turns.invariant.2 format before has) c.turns.invariant.1
    (turned_as g.S.Store (ap (λ (p : Places). p.name) same) (ap (λ (p : Places). p.format) same) c.in-Err-take_turn.is c.take_turn.ensures.turned) c.tell-in-Err-take_turn.ensures.told)
