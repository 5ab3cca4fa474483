use Rattle.sqlite.specs.Held.{state}
use Rattle.part_store.proofs.Afterwards.{asked, reading}
use Rattle.part_store.proofs.Failing.{unread}
use Rattle.part_store.proofs.Readable.{last_readable}
use Rattle.part_store.proofs.Runs.{passed}
use Rattle.part_store.proofs.Programs.{number_read}
use Rattle.part_store.proofs.adding.last_of.Goals as goal

pub returns-in_ok-get-in-Some-clause-answer : goal.returns-in_ok-get-in-Some-clause-answer
returns-in_ok-get-in-Some-clause-answer g c clean =
    number_read (state g.S.Store c.args.tx.now.conn.now) (state g.S.Store c.find_last.new.tx.conn.now) c.args.user.now c.in-Some.row c.in_ok-get-in-Some.field-0
    (rw c.in-Some.is at (c.in_ok-row.ensures.step clean)) c.in_ok-get-in-Some.ensures.ok.1

pub returns-in_err-get-in-Some-clause-cause : goal.returns-in_err-get-in-Some-clause-cause
returns-in_err-get-in-Some-clause-cause g c clean =
    passed c.from_residual-in_err-get-in-Some.result _ _ c.from_residual-in_err-get-in-Some.ensures.1 (λ is before stands.
    let there = last_readable (state g.S.Store c.args.tx.now.conn.now) (state g.S.Store c.find_last.new.tx.conn.now) before stands c.in-Some.row c.args.user.now (rw c.in-Some.is at (c.in_ok-row.ensures.step clean)) in
    absurd (unread c.in-Some.row 0 _ c.in_err-get-in-Some.ensures.kind there.0 there.1 is))

pub returns-in_ok-get-in-Some-clause-within : goal.returns-in_ok-get-in-Some-clause-within
returns-in_ok-get-in-Some-clause-within g c = reading g.S.Store (asked g.S.Store c.in_ok-row.ensures) _

pub returns-in_err-get-in-Some-clause-within : goal.returns-in_err-get-in-Some-clause-within
returns-in_err-get-in-Some-clause-within g c = reading g.S.Store (asked g.S.Store c.in_ok-row.ensures) _

pub returns-in-None-clause-within : goal.returns-in-None-clause-within
returns-in-None-clause-within g c = reading g.S.Store (asked g.S.Store c.in_ok-row.ensures) _
