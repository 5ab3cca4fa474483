use Rattle.std.proofs.Common.{inl, inr, [], ◌∷◌, ◌<◌, length, subst, sym, arith}
use Rattle.sqlite_value.specs.Order.{Row}
use Rattle.sqlite.specs.Held.{state}
use Rattle.part_store.specs.Changes.{columns}
use Rattle.part_store.proofs.Afterwards.{asked, reading}
use Rattle.part_store.proofs.Failing.{unread}
use Rattle.part_store.proofs.Readable.{not_missing, octets_readable}
use Rattle.part_store.proofs.Runs.{err_then, if_ok, passed}
use Rattle.part_store.proofs.Finding.{content_there, kept_there, lacking_there}
use Rattle.part_store.proofs.store.content_of.Goals as goal

pub returns-in-Some-clause-answer : goal.returns-in-Some-clause-answer
returns-in-Some-clause-answer g c clean =
    if_ok c.get.result _ _ (λ octets got. content_there (state g.S.Store c.args.tx.now.conn.now) (state g.S.Store c.find.new.tx.conn.now) c.args.digest.now c.in-Some.row octets.items
    (rw c.in-Some.is at (c.in_ok-row.ensures.step clean)) got.1) c.get.ensures.ok

pub returns-in-Some-clause-found : goal.returns-in-Some-clause-found
returns-in-Some-clause-found g c clean =
    if_ok c.get.result _ _ (λ octets got. kept_there (state g.S.Store c.args.tx.now.conn.now) (state g.S.Store c.find.new.tx.conn.now) c.args.digest.now c.in-Some.row octets.items
    (rw c.in-Some.is at (c.in_ok-row.ensures.step clean)) got.1) c.get.ensures.ok

pub returns-in-Some-clause-lacking : goal.returns-in-Some-clause-lacking
returns-in-Some-clause-lacking g c clean =
    err_then c.get.result _ _ (λ e kind is has.
    let step = rw c.in-Some.is at (c.in_ok-row.ensures.step clean) in
    let found = (step has).change.1 in
    let wide : 0 < length c.in-Some.row = subst (λ (r : Row). 0 < length r) (sym found.3) (omega arith) in
    inr (lacking_there (state g.S.Store c.args.tx.now.conn.now) (state g.S.Store c.find.new.tx.conn.now) c.args.digest.now c.in-Some.row step
    (λ octets there. unread c.in-Some.row 0 e kind wide (octets, there) is) has)) c.get.ensures.kind

pub returns-in-None-clause-lacking : goal.returns-in-None-clause-lacking
returns-in-None-clause-lacking g c clean _ has = inr (inl ((rw c.in-None.is at (c.in_ok-row.ensures.step clean)) has).change.1)

pub returns-in_err-row-clause-lacking : goal.returns-in_err-row-clause-lacking
returns-in_err-row-clause-lacking g c clean = passed c.from_residual.result _ _ c.from_residual.ensures.1 (λ is has. inl (c.in_err-row.ensures.fault clean is has))

pub returns-in-Some-clause-cause : goal.returns-in-Some-clause-cause
returns-in-Some-clause-cause g c clean =
    err_then c.get.result _ _ (λ e kind octets there is before stands.
    let shown = octets_readable (state g.S.Store c.args.tx.now.conn.now) (state g.S.Store c.find.new.tx.conn.now) before stands c.in-Some.row c.args.digest.now (rw c.in-Some.is at (c.in_ok-row.ensures.step clean)) in
    absurd (unread c.in-Some.row 0 e kind shown.0 shown.1 is)) c.get.ensures.kind

pub returns-in-None-clause-cause : goal.returns-in-None-clause-cause
returns-in-None-clause-cause g c clean octets there is before stands =
    absurd (not_missing (columns (2 ∷ [])) (state g.S.Store c.args.tx.now.conn.now) (state g.S.Store c.find.new.tx.conn.now) before stands c.args.digest.now octets (rw c.in-None.is at (c.in_ok-row.ensures.step clean)) there)

pub returns-in-Some-clause-within : goal.returns-in-Some-clause-within
returns-in-Some-clause-within g c = reading g.S.Store (asked g.S.Store c.in_ok-row.ensures) _

pub returns-in-None-clause-within : goal.returns-in-None-clause-within
returns-in-None-clause-within g c = reading g.S.Store (asked g.S.Store c.in_ok-row.ensures) _
