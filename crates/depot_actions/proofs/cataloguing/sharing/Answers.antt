use Rattle.std.proofs.Common.{length, refl}
use Rattle.std.proofs.lemmas.Option.{slice_get_read}
use Rattle.depot_actions.proofs.KeepingRows.{shared_known}
use Rattle.depot_actions.proofs.cataloguing.sharing.Goals as goal

pub returns-in_ok-keep_again-in-Some-clause-shared : goal.returns-in_ok-keep_again-in-Some-clause-shared
returns-in_ok-keep_again-in-Some-clause-shared c =
    let kept = c.args.kept.now in
    let found = c.in-Some.ensures.lookup in
    shared_known c.args.row.now kept c.in-Some.earlier.now c.listed_of.result _ (slice_get_read kept (length kept) c.args.row.now.first c.in-Some.earlier.now refl found.3.0 found.1) c.listed_of.ensures c.in_ok-keep_again-in-Some.ensures
