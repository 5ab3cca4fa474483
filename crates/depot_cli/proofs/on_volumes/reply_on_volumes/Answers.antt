use Rattle.std.proofs.Common.{inr, map, refl}
use Rattle.part_store.specs.Standing.{listed}
use Rattle.depot_actions.specs.DepotState.{Done, Listed, Migrated}
use Rattle.volumes.proofs.Applied.{keeps_self, keeps_whole}
use Rattle.depot_cli.proofs.on_volumes.reply_on_volumes.Goals as goal

pub returns-in-Ok-clause-done : goal.returns-in-Ok-clause-done
returns-in-Ok-clause-done g c =
    let all = c.in-Ok.ensures in
    rw (c.in-FromFile.is, c.in-Script.is) (Done, (all.done, all.sound), refl, refl)

pub returns-in-Ok-set_code-clause-done : goal.returns-in-Ok-set_code-clause-done
returns-in-Ok-set_code-clause-done g c =
    let all = c.in-Ok-set_code.ensures in
    rw (c.in-FromFile.is, c.in-Code.is) (Done, (all.done, all.sound), refl, refl)

pub returns-in-Ok-deliver-clause-done : goal.returns-in-Ok-deliver-clause-done
returns-in-Ok-deliver-clause-done g c =
    let all = c.in-Ok-deliver.ensures in
    rw (c.in-FromFile.is, c.in-Message.is) (Listed (map listed c.in-Ok-deliver.rows.items), (all.done, all.sound), refl, (c.in-Ok-deliver.rows, refl, refl))

pub returns-in-Ok-list-clause-done : goal.returns-in-Ok-list-clause-done
returns-in-Ok-list-clause-done g c =
    let all = c.in-Ok-list.ensures in
    rw (c.in-OnUser.is, c.in-List.is) (Listed (map listed c.in-Ok-list.rows.items), (all.done, all.sound), refl, (c.in-Ok-list.rows, refl, refl))

pub returns-in-Ok-list_since-clause-done : goal.returns-in-Ok-list_since-clause-done
returns-in-Ok-list_since-clause-done g c =
    let all = c.in-Ok-list_since.ensures in
    rw (c.in-OnUser.is, c.in-Since.is) (Listed (map listed c.in-Ok-list_since.rows.items), (all.done, all.sound), refl, (c.in-Ok-list_since.rows, refl, refl))

pub returns-in-Ok-remove-clause-done : goal.returns-in-Ok-remove-clause-done
returns-in-Ok-remove-clause-done g c =
    let all = c.in-Ok-remove.ensures.applies in
    rw (c.in-OnUser.is, c.in-Remove.is) (Done, (all.done, all.sound), refl, refl)

pub returns-in-Ok-migrate-clause-done : goal.returns-in-Ok-migrate-clause-done
returns-in-Ok-migrate-clause-done g c =
    let all = c.in-Ok-migrate.ensures in
    rw c.in-Migrate.is (Migrated c.in-Ok-migrate.count, (all.done, all.sound), refl, (c.in-Ok-migrate.count, refl, refl))

pub returns-in-Err-clause-refused : goal.returns-in-Err-clause-refused
returns-in-Err-clause-refused g c =
    let all = c.in-Err.ensures in
    rw (c.in-FromFile.is, c.in-Script.is) (all.which, all.cause, record { same = all.unchanged; sound = all.sound })

pub returns-in-Err-set_code-clause-refused : goal.returns-in-Err-set_code-clause-refused
returns-in-Err-set_code-clause-refused g c =
    let all = c.in-Err-set_code.ensures in
    rw (c.in-FromFile.is, c.in-Code.is) (all.which, all.cause, record { same = all.unchanged; sound = all.sound })

pub returns-in-Err-deliver-clause-refused : goal.returns-in-Err-deliver-clause-refused
returns-in-Err-deliver-clause-refused g c =
    let all = c.in-Err-deliver.ensures in
    rw (c.in-FromFile.is, c.in-Message.is) (all.which, all.cause, record { same = all.unchanged; sound = all.sound })

pub returns-in-Err-list-clause-refused : goal.returns-in-Err-list-clause-refused
returns-in-Err-list-clause-refused g c =
    let all = c.in-Err-list.ensures in
    rw (c.in-OnUser.is, c.in-List.is) (all.which, all.cause, record { same = all.unchanged; sound = all.sound })

pub returns-in-Err-list_since-clause-refused : goal.returns-in-Err-list_since-clause-refused
returns-in-Err-list_since-clause-refused g c =
    let all = c.in-Err-list_since.ensures in
    rw (c.in-OnUser.is, c.in-Since.is) (all.which, all.cause, record { same = all.unchanged; sound = all.sound })

pub returns-in-Err-remove-clause-refused : goal.returns-in-Err-remove-clause-refused
returns-in-Err-remove-clause-refused g c =
    let all = c.in-Err-remove.ensures.applies in
    rw (c.in-OnUser.is, c.in-Remove.is) (all.which, all.cause, record { same = all.unchanged; sound = all.sound })

pub returns-in-Err-migrate-clause-refused : goal.returns-in-Err-migrate-clause-refused
returns-in-Err-migrate-clause-refused g c =
    let all = c.in-Err-migrate.ensures in
    rw c.in-Migrate.is (all.which, all.cause, record { same = all.unchanged; sound = all.sound })

pub returns-in-Catalog-clause-refused : goal.returns-in-Catalog-clause-refused
returns-in-Catalog-clause-refused g c =
    rw (c.in-OnUser.is, c.in-Catalog.is) (inr (inr refl), λ sound before holds are. tt, keeps_whole g.V.Volumes.holding c.args.volumes.now c.args.volumes.now (keeps_self g.V.Volumes.holding c.args.volumes.now))
