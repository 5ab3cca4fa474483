use Rattle.std.proofs.Common.{inl, inr, ◌<◌, length, subst, sym, arith}
use Rattle.sqlite_value.specs.Order.{Row}
use Rattle.sqlite.specs.Held.{state}
use Rattle.part_store.proofs.Afterwards.{asked, reading}
use Rattle.part_store.proofs.Failing.{unread}
use Rattle.part_store.proofs.Finding.{named_there, none_there, one_there, unnamed_there}
use Rattle.part_store.proofs.Runs.{passed}
use Rattle.part_store.proofs.Readable.{digest_readable}
use Rattle.part_store.proofs.store.digest_of.Goals as goal

pub returns-in_ok-get-in-Some-clause-answer : goal.returns-in_ok-get-in-Some-clause-answer
returns-in_ok-get-in-Some-clause-answer g c clean =
    one_there (state g.S.Store c.args.tx.now.conn.now) (state g.S.Store c.find.new.tx.conn.now) c.args.user.now c.args.number c.in-Some.row c.in_ok-get-in-Some.field-0.items
    (rw c.in-Some.is at (c.in_ok-row.ensures.step clean)) c.in_ok-get-in-Some.ensures.ok.1

pub returns-in_ok-get-in-Some-clause-named : goal.returns-in_ok-get-in-Some-clause-named
returns-in_ok-get-in-Some-clause-named g c clean =
    named_there (state g.S.Store c.args.tx.now.conn.now) (state g.S.Store c.find.new.tx.conn.now) c.args.user.now c.args.number c.in-Some.row c.in_ok-get-in-Some.field-0.items
    (rw c.in-Some.is at (c.in_ok-row.ensures.step clean)) c.in_ok-get-in-Some.ensures.ok.1

pub returns-in-None-clause-answer : goal.returns-in-None-clause-answer
returns-in-None-clause-answer g c clean =
    none_there (state g.S.Store c.args.tx.now.conn.now) (state g.S.Store c.find.new.tx.conn.now) c.args.user.now c.args.number (rw c.in-None.is at (c.in_ok-row.ensures.step clean))

pub returns-in_err-get-in-Some-clause-cause : goal.returns-in_err-get-in-Some-clause-cause
returns-in_err-get-in-Some-clause-cause g c clean =
    passed c.from_residual-in_err-get-in-Some.result _ _ c.from_residual-in_err-get-in-Some.ensures.1 (λ is before stands.
    let there = digest_readable (state g.S.Store c.args.tx.now.conn.now) (state g.S.Store c.find.new.tx.conn.now) before stands c.in-Some.row c.args.user.now c.args.number (rw c.in-Some.is at (c.in_ok-row.ensures.step clean)) in
    absurd (unread c.in-Some.row 0 _ c.in_err-get-in-Some.ensures.kind there.0 there.1 is))

pub returns-in_err-get-in-Some-clause-unnamed : goal.returns-in_err-get-in-Some-clause-unnamed
returns-in_err-get-in-Some-clause-unnamed g c clean =
    passed c.from_residual-in_err-get-in-Some.result _ _ c.from_residual-in_err-get-in-Some.ensures.1 (λ is has.
    let step = rw c.in-Some.is at (c.in_ok-row.ensures.step clean) in
    let found = (step has).change.1 in
    let wide : 0 < length c.in-Some.row = subst (λ (r : Row). 0 < length r) (sym found.3) (omega arith) in
    inr (unnamed_there (state g.S.Store c.args.tx.now.conn.now) (state g.S.Store c.find.new.tx.conn.now) c.args.user.now c.args.number c.in-Some.row step
    (λ digest there. unread c.in-Some.row 0 _ c.in_err-get-in-Some.ensures.kind wide (digest, there) is) has))

pub returns-in_err-row-clause-unnamed : goal.returns-in_err-row-clause-unnamed
returns-in_err-row-clause-unnamed g c clean = passed c.from_residual.result _ _ c.from_residual.ensures.1 (λ is has. inl (c.in_err-row.ensures.fault clean is has))

pub returns-in_ok-get-in-Some-clause-within : goal.returns-in_ok-get-in-Some-clause-within
returns-in_ok-get-in-Some-clause-within g c = reading g.S.Store (asked g.S.Store c.in_ok-row.ensures) _

pub returns-in_err-get-in-Some-clause-within : goal.returns-in_err-get-in-Some-clause-within
returns-in_err-get-in-Some-clause-within g c = reading g.S.Store (asked g.S.Store c.in_ok-row.ensures) _

pub returns-in-None-clause-within : goal.returns-in-None-clause-within
returns-in-None-clause-within g c = reading g.S.Store (asked g.S.Store c.in_ok-row.ensures) _
