use Rattle.std.proofs.Common.{inl, inr, refl, sym}
use Rattle.depot_actions.specs.DepotState.{Text}
use Rattle.depot_actions.specs.DepotState as depot
use Rattle.depot_cli.proofs.TaskLemmas.{stopped_on_depot}
use Rattle.depot_cli.proofs.task.perform.Goals as goal

pub returns-in-Ok-clause-performed : goal.returns-in-Ok-clause-performed
returns-in-Ok-clause-performed g c =
    let written = c.in-Ok.ensures.done in
    rw c.in-Export.is (inl (refl, (Text written.0, written.2, written.1, refl)))

pub returns-in-Err-clause-performed : goal.returns-in-Err-clause-performed
returns-in-Err-clause-performed g c =
    let all = c.in-Err.ensures in
    let command = depot.Export c.in-Export.user.now c.in-Export.number c.in-Export.encoding in
    rw c.in-Export.is (stopped_on_depot c.in-Err.refusal command c.tell.result _ _ tt
    (λ is. let broke = all.stopped is in (Text broke.0, broke.2, broke.1))
    (λ is. elim (all.begun is) [ inl same ↦ inl same | inr begun ↦ inr (Text begun.0, begun.2, begun.1) ])
    all.unwritten (all.which, λ clean. (all.refused clean, all.cause clean, all.unchanged clean)) c.tell.ensures.status c.tell.ensures.told)

pub returns-in-FromFile-clause-performed : goal.returns-in-FromFile-clause-performed
returns-in-FromFile-clause-performed g c = rw (c.in-FromFile.is, sym c.as_slice.ensures.value) c.answer.ensures.performed

pub returns-in-OnUser-clause-performed : goal.returns-in-OnUser-clause-performed
returns-in-OnUser-clause-performed g c = rw c.in-OnUser.is c.answer-in-OnUser.ensures.performed

pub returns-in-Migrate-clause-performed : goal.returns-in-Migrate-clause-performed
returns-in-Migrate-clause-performed g c = rw c.in-Migrate.is c.answer-in-Migrate.ensures.performed
