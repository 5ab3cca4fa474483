use Rattle.part_store.proofs.Siblings.{noted_one}
use Rattle.part_store.proofs.listing.note.Goals as goal

pub returns-in_ok-insert-in-Some : goal.returns-in_ok-insert-in-Some
returns-in_ok-insert-in-Some c = λ other at found.
    noted_one c.in-Some.digest.now c.args.digest.now other c.args.place at _ _ c.in-Some.ensures.cases.same (c.in_ok-insert-in-Some.ensures.updates.0 other) found
