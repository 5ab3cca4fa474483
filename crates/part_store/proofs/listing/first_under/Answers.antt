use Rattle.part_store.proofs.Siblings.{place_noted}
use Rattle.part_store.proofs.listing.first_under.Goals as goal

pub returns-in_ok-note-in-None-clause-named : goal.returns-in_ok-note-in-None-clause-named
returns-in_ok-note-in-None-clause-named c = λ db xs x firsts there has. (x, there, has)

pub returns-in_ok-note-in-None-clause-noted : goal.returns-in_ok-note-in-None-clause-noted
returns-in_ok-note-in-None-clause-noted c = λ db xs x firsts there has.
    place_noted db xs x c.args.digest.now c.args.place c.args.firsts.now c.note.new.firsts firsts there has c.in_ok-note-in-None.ensures
