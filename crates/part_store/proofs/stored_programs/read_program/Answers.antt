use Rattle.sqlite.specs.Held.{state}
use Rattle.part_store.proofs.Afterwards.{asked, reading}
use Rattle.part_store.proofs.Programs.{program_read}
use Rattle.part_store.proofs.Failing.{unread}
use Rattle.part_store.proofs.Readable.{user_readable}
use Rattle.part_store.proofs.Runs.{err_then}
use Rattle.part_store.proofs.stored_programs.read_program.Goals as goal

pub returns-in-Some-clause-answer : goal.returns-in-Some-clause-answer
returns-in-Some-clause-answer g c clean =
    program_read (state g.S.Store c.args.tx.now.conn.now) (state g.S.Store c.find.new.tx.conn.now) c.args.user.now c.in-Some.row _ c.get.result (rw c.in-Some.is at (c.in_ok-row.ensures.step clean)) c.get.ensures.ok

pub returns-in-Some-clause-cause : goal.returns-in-Some-clause-cause
returns-in-Some-clause-cause g c clean =
    err_then c.get.result _ _ (λ e kind is before stands.
    let shown = user_readable (state g.S.Store c.args.tx.now.conn.now) (state g.S.Store c.find.new.tx.conn.now) before stands c.in-Some.row c.args.user.now (rw c.in-Some.is at (c.in_ok-row.ensures.step clean)) in
    absurd (unread c.in-Some.row 1 e kind shown.1.0 shown.1.1 is)) c.get.ensures.kind

pub returns-in-Some-clause-within : goal.returns-in-Some-clause-within
returns-in-Some-clause-within g c = reading g.S.Store (asked g.S.Store c.in_ok-row.ensures) _

pub returns-in-None-clause-within : goal.returns-in-None-clause-within
returns-in-None-clause-within g c = reading g.S.Store (asked g.S.Store c.in_ok-row.ensures) _
