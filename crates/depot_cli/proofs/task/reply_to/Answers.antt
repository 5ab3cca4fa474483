use Rattle.std.proofs.Common.{map, refl}
use Rattle.part_store.specs.Standing.{listed}
use Rattle.depot_actions.specs.DepotState.{Listed, Migrated, Text}
use Rattle.depot_cli.proofs.task.reply_to.Goals as goal

pub returns-in-Ok-deliver-clause-done : goal.returns-in-Ok-deliver-clause-done
returns-in-Ok-deliver-clause-done g c = rw (c.in-FromFile.is, c.in-Message.is) (Listed (map listed c.in-Ok-deliver.rows.items), c.in-Ok-deliver.ensures.done, refl, (c.in-Ok-deliver.rows, refl, refl))

pub returns-in-Ok-list-clause-done : goal.returns-in-Ok-list-clause-done
returns-in-Ok-list-clause-done g c = rw (c.in-OnUser.is, c.in-List.is) (Listed (map listed c.in-Ok-list.rows.items), c.in-Ok-list.ensures.done, refl, (c.in-Ok-list.rows, refl, refl))

pub returns-in-Ok-list_since-clause-done : goal.returns-in-Ok-list_since-clause-done
returns-in-Ok-list_since-clause-done g c = rw (c.in-OnUser.is, c.in-Since.is) (Listed (map listed c.in-Ok-list_since.rows.items), c.in-Ok-list_since.ensures.done, refl, (c.in-Ok-list_since.rows, refl, refl))

pub returns-in-Ok-catalog-clause-done : goal.returns-in-Ok-catalog-clause-done
returns-in-Ok-catalog-clause-done g c = rw (c.in-OnUser.is, c.in-Catalog.is) (Text c.in-Ok-catalog.text.items, c.in-Ok-catalog.ensures.done, refl, (c.in-Ok-catalog.text, refl, refl))

pub returns-in-Ok-migrate-clause-done : goal.returns-in-Ok-migrate-clause-done
returns-in-Ok-migrate-clause-done g c = rw c.in-Migrate.is (Migrated c.in-Ok-migrate.count, c.in-Ok-migrate.ensures.done, refl, (c.in-Ok-migrate.count, refl, refl))

pub returns-in-Err-migrate-clause-refused : goal.returns-in-Err-migrate-clause-refused
returns-in-Err-migrate-clause-refused g c =
    let all = c.in-Err-migrate.ensures in
    rw c.in-Migrate.is (all.which, λ clean. (all.refused clean, all.cause clean, all.unchanged clean))

pub returns-in-Ok-clause-survives : goal.returns-in-Ok-clause-survives
returns-in-Ok-clause-survives g c = rw (c.in-FromFile.is, c.in-Script.is) c.in-Ok.ensures.survives

pub returns-in-Err-clause-survives : goal.returns-in-Err-clause-survives
returns-in-Err-clause-survives g c = rw (c.in-FromFile.is, c.in-Script.is) c.in-Err.ensures.survives

pub returns-in-Ok-set_code-clause-survives : goal.returns-in-Ok-set_code-clause-survives
returns-in-Ok-set_code-clause-survives g c = rw (c.in-FromFile.is, c.in-Code.is) c.in-Ok-set_code.ensures.survives

pub returns-in-Err-set_code-clause-survives : goal.returns-in-Err-set_code-clause-survives
returns-in-Err-set_code-clause-survives g c = rw (c.in-FromFile.is, c.in-Code.is) c.in-Err-set_code.ensures.survives

pub returns-in-Ok-deliver-clause-survives : goal.returns-in-Ok-deliver-clause-survives
returns-in-Ok-deliver-clause-survives g c = rw (c.in-FromFile.is, c.in-Message.is) c.in-Ok-deliver.ensures.survives

pub returns-in-Err-deliver-clause-survives : goal.returns-in-Err-deliver-clause-survives
returns-in-Err-deliver-clause-survives g c = rw (c.in-FromFile.is, c.in-Message.is) c.in-Err-deliver.ensures.survives

pub returns-in-Ok-remove-clause-survives : goal.returns-in-Ok-remove-clause-survives
returns-in-Ok-remove-clause-survives g c = rw (c.in-OnUser.is, c.in-Remove.is) c.in-Ok-remove.ensures.survives

pub returns-in-Err-remove-clause-survives : goal.returns-in-Err-remove-clause-survives
returns-in-Err-remove-clause-survives g c = rw (c.in-OnUser.is, c.in-Remove.is) c.in-Err-remove.ensures.survives

pub returns-in-Ok-migrate-clause-survives : goal.returns-in-Ok-migrate-clause-survives
returns-in-Ok-migrate-clause-survives g c = rw c.in-Migrate.is c.in-Ok-migrate.ensures.survives

pub returns-in-Err-migrate-clause-survives : goal.returns-in-Err-migrate-clause-survives
returns-in-Err-migrate-clause-survives g c = rw c.in-Migrate.is c.in-Err-migrate.ensures.survives
