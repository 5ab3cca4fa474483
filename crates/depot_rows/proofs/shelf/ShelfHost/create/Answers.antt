use Rattle.std.proofs.Common.{◌∙◌, ap, inr}
use Rattle.depot_jobs.specs.Host.{made_from, makes, with_faults}
use Rattle.depot_rows.specs.Shelf.{call_of, state_of}
use Rattle.depot_rows.proofs.ShelfLemmas.{not_noted, noted}
use Rattle.depot_rows.proofs.shelf.ShelfHost.create.Goals as goal

pub returns-then-not-note-clause-err : goal.returns-then-not-note-clause-err
returns-then-not-note-clause-err c =
    inr (not_noted c.note.result (call_of c.in-Ok.asked) (state_of c.args.self.now) (state_of c.note.new.self) c.note.ensures c.if-not-note.true)

pub returns-clause-ok : goal.returns-clause-ok
returns-clause-ok c =
    noted c.note.result (call_of c.in-Ok.asked) (makes c.args.name.now (made_from c.args.from)) (state_of c.args.self.now) (state_of c.note.new.self) c.note.ensures c.if-not-note.false
    c.in-Ok.ensures

pub returns-clause-apart : goal.returns-clause-apart
returns-clause-apart c = c.is_kept_from.ensures c.if-is_kept_from.false

pub returns-then-is_kept_from-clause-err : goal.returns-then-is_kept_from-clause-err
returns-then-is_kept_from-clause-err c =
    c.fail.ensures
    ∙ ap (with_faults 1)
    (noted c.note.result (call_of c.in-Ok.asked) (makes c.args.name.now (made_from c.args.from)) (state_of c.args.self.now) (state_of c.note.new.self) c.note.ensures c.if-not-note.false
    c.in-Ok.ensures)
