use Rattle.sqlite.specs.Held.{state}
use Rattle.part_store.proofs.Afterwards.{asked, reading}
use Rattle.part_store.proofs.Finding.{size_there}
use Rattle.part_store.proofs.Runs.{err_then, if_ok}
use Rattle.part_store.proofs.Failing.{unread}
use Rattle.part_store.proofs.Readable.{not_missing, size_readable}
use Rattle.part_store.specs.Changes.{length_at}
use Rattle.part_store.proofs.listing.size_of.Goals as goal

pub returns-in-Some-clause-answer : goal.returns-in-Some-clause-answer
returns-in-Some-clause-answer g c clean =
    if_ok c.get.result _ _ (λ n read. size_there (state g.S.Store c.args.tx.now.conn.now) (state g.S.Store c.size.new.tx.conn.now) c.args.digest.now c.in-Some.row n (rw c.in-Some.is at (c.in_ok-row.ensures.step clean)) read.1) c.get.ensures.ok

pub returns-in-Some-clause-shown : goal.returns-in-Some-clause-shown
returns-in-Some-clause-shown g c clean =
    if_ok c.get.result _ _ (λ n read has. (c.in-Some.row, ((rw c.in-Some.is at (c.in_ok-row.ensures.step clean)) has).change.1, read.1)) c.get.ensures.ok

pub returns-in-Some-clause-cause : goal.returns-in-Some-clause-cause
returns-in-Some-clause-cause g c clean =
    err_then c.get.result _ _ (λ e kind octets there is before stands.
    let shown = size_readable (state g.S.Store c.args.tx.now.conn.now) (state g.S.Store c.size.new.tx.conn.now) before stands c.in-Some.row c.args.digest.now (rw c.in-Some.is at (c.in_ok-row.ensures.step clean)) in
    absurd (unread c.in-Some.row 0 e kind shown.0 shown.1 is)) c.get.ensures.kind

pub returns-in-None-clause-cause : goal.returns-in-None-clause-cause
returns-in-None-clause-cause g c clean octets there is before stands =
    absurd (not_missing (length_at 2) (state g.S.Store c.args.tx.now.conn.now) (state g.S.Store c.size.new.tx.conn.now) before stands c.args.digest.now octets (rw c.in-None.is at (c.in_ok-row.ensures.step clean)) there)

pub returns-in-Some-clause-within : goal.returns-in-Some-clause-within
returns-in-Some-clause-within g c = reading g.S.Store (asked g.S.Store c.in_ok-row.ensures) _

pub returns-in-None-clause-within : goal.returns-in-None-clause-within
returns-in-None-clause-within g c = reading g.S.Store (asked g.S.Store c.in_ok-row.ensures) _
