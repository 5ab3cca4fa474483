use Rattle.std.proofs.Common.{◌∙◌, ap, inr}
use Rattle.depot_jobs.specs.Host.{opens, origin_of, with_faults}
use Rattle.depot_rows.specs.Shelf.{call_of, state_of}
use Rattle.depot_rows.proofs.ShelfLemmas.{not_noted, noted}
use Rattle.depot_rows.proofs.shelf.ShelfHost.open.Goals as goal

pub returns-then-not-note-clause-err : goal.returns-then-not-note-clause-err
returns-then-not-note-clause-err c =
    inr (not_noted c.note.result (call_of c.in-Ok.asked) (state_of c.args.self.now) (state_of c.note.new.self) c.note.ensures c.if-not-note.true)

pub returns-in-Some-clause-ok : goal.returns-in-Some-clause-ok
returns-in-Some-clause-ok c =
    noted c.note.result (call_of c.in-Ok.asked) (opens (origin_of c.args.input)) (state_of c.args.self.now) (state_of c.note.new.self) c.note.ensures c.if-not-note.false c.in-Ok.ensures

pub returns-in-None-clause-err : goal.returns-in-None-clause-err
returns-in-None-clause-err c =
    c.fail.ensures
    ∙ ap (with_faults 1)
    (noted c.note.result (call_of c.in-Ok.asked) (opens (origin_of c.args.input)) (state_of c.args.self.now) (state_of c.note.new.self) c.note.ensures c.if-not-note.false c.in-Ok.ensures)
