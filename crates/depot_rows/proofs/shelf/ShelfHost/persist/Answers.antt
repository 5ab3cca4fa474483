use Rattle.std.proofs.Common.{◌∙◌, ap}
use Rattle.depot_jobs.specs.Host.{with_faults}
use Rattle.depot_rows.specs.Shelf.{state_of}
use Rattle.depot_rows.proofs.ShelfLemmas.{not_noted, with_one_more}
use Rattle.depot_rows.proofs.shelf.ShelfHost.persist.Goals as goal

pub returns-then-not-note-clause-err : goal.returns-then-not-note-clause-err
returns-then-not-note-clause-err c =
    c.fail.ensures ∙ ap (with_faults 1) (not_noted c.note.result _ _ (state_of c.note.new.self) c.note.ensures c.if-not-note.true)
    ∙ with_one_more c.args.writer.faults c.saturating_add-self.result (state_of c.args.self.now) c.saturating_add-self.ensures
