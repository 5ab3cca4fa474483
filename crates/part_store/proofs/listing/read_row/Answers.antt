use Rattle.std.proofs.Common.{◌≡◌, length, sym, subst, ◌∙◌, refl}
use Rattle.sqlite.specs.Held.{state}
use Rattle.part_store.specs.Tables.{contents_tree}
use Rattle.part_store.specs.Standing.{HasContent}
use Rattle.part_store.proofs.Runs.{passed}
use Rattle.part_store.proofs.listing.read_row.Goals as goal

pub returns-clause-answer : goal.returns-clause-answer
returns-clause-answer g c clean before stands x shows =
    let old = state g.S.Store c.args.tx.now.conn.now in
    let parts = c.in_ok-number.ensures.parts x shows.0 shows.1 in
    let named : shows.0 ≡ c.deref.result.now = sym (c.deref.ensures.value ∙ parts.digest) in
    let size : c.in_ok-octets.octets ≡ length x.octets = c.in_ok-octets.ensures.answer clean before stands x.octets (subst (λ d. HasContent (old.now.trees contents_tree) d x.octets) named shows.2) in
    rw (parts.number, parts.kind, parts.folder, parts.name, parts.media, size) refl

pub returns-in_err-octets-clause-cause : goal.returns-in_err-octets-clause-cause
returns-in_err-octets-clause-cause g c clean =
    passed c.from_residual-in_err-octets.result _ _ c.from_residual-in_err-octets.ensures.1 (λ x shows low is before stands.
    let old = state g.S.Store c.args.tx.now.conn.now in
    let parts = c.in_ok-number.ensures.parts x shows.0 shows.1 in
    let named : shows.0 ≡ c.deref.result.now = sym (c.deref.ensures.value ∙ parts.digest) in
    c.in_err-octets.ensures.cause clean x.octets (subst (λ d. HasContent (old.now.trees contents_tree) d x.octets) named shows.2) is before stands)
