use Rattle.std.proofs.Common.{inl, inr, refl, sym}
use Rattle.depot_actions.specs.DepotState.{Text}
use Rattle.depot_actions.specs.DepotState as depot
use Rattle.depot_cli.specs.VolumeTasks.{DoesOnVolumes, RefusesOnVolumes}
use Rattle.depot_cli.proofs.TaskLemmas.{stopped}
use Rattle.depot_cli.proofs.on_volumes.perform_on_volumes.Goals as goal

pub returns-in-Ok : goal.returns-in-Ok
returns-in-Ok g c =
    let all = c.in-Ok.ensures in
    rw c.in-Export.is (inl (refl, (Text all.done.0, (all.done.2, all.keeps.sound), all.done.1, refl)))

pub returns-in-Err : goal.returns-in-Err
returns-in-Err g c =
    let all = c.in-Err.ensures in
    let k = g.V.Volumes.holding in
    let command = depot.Export c.in-Export.user.now c.in-Export.number c.in-Export.encoding in
    rw c.in-Export.is (stopped (DoesOnVolumes k command c.args.volumes.now c.export.new.volumes) (RefusesOnVolumes k command c.args.volumes.now c.export.new.volumes) command _ _ _ _ c.tell.result c.in-Err.refusal tt
    (λ is. let broke = all.stopped is in (Text broke.0, (broke.2, all.keeps.sound), broke.1))
    (λ is. elim (all.begun is) [ inl same ↦ inl same | inr begun ↦ inr (Text begun.0, (begun.2, all.keeps.sound), begun.1) ])
    all.unwritten (all.which, all.cause, all.keeps) c.tell.ensures.status c.tell.ensures.told)

pub returns-in-FromFile : goal.returns-in-FromFile
returns-in-FromFile g c = rw (c.in-FromFile.is, sym c.as_slice.ensures.value) c.answer_on_volumes.ensures

pub returns-in-OnUser : goal.returns-in-OnUser
returns-in-OnUser g c = rw c.in-OnUser.is c.answer_on_volumes-in-OnUser.ensures

pub returns-in-Migrate : goal.returns-in-Migrate
returns-in-Migrate g c = rw c.in-Migrate.is c.answer_on_volumes-in-Migrate.ensures
