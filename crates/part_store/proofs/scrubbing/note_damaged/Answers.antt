use Rattle.std.proofs.Common.{◌≡◌, ◌≢◌, ap, refl, subst, sym, ◌∙◌}
use Rattle.sha2.specs.Sha256.{sha256}
use Rattle.sqlite.specs.Held.{state}
use Rattle.part_store.specs.Scanning.{texts_of}
use Rattle.part_store.specs.Standing.{HasContent}
use Rattle.part_store.specs.Tables.{contents_tree}
use Rattle.part_store.proofs.Afterwards.{reading}
use Rattle.part_store.proofs.Damaged.{none_noted, one_noted}
use Rattle.part_store.proofs.Finding.{same_blob}
use Rattle.part_store.proofs.Runs.{passed}
use Rattle.part_store.proofs.scrubbing.note_damaged.Goals as goal

pub returns-then-has_digest-clause-answer : goal.returns-then-has_digest-clause-answer
returns-then-has_digest-clause-answer g c clean before stands shows =
    let db = (state g.S.Store c.args.tx.now.conn.now).now.trees in
    let digest = c.in_ok-digest.digest.items in
    let octets = c.in_ok-octets.octets.items in
    let held = subst (λ d. HasContent (db contents_tree) d octets) c.deref.ensures.value (c.in_ok-octets.ensures.answer clean before stands) in
    let is : sha256 octets ≡ digest = ap sha256 (sym c.deref-2.ensures.value) ∙ c.has_digest.ensures.is c.if-has_digest.true ∙ c.deref-3.ensures.value in
    none_noted db before stands.tables c.args.row.now digest octets c.args.digests.now.items c.in_ok-digest.ensures.ok.1 held is

pub returns-clause-answer : goal.returns-clause-answer
returns-clause-answer g c clean before stands shows =
    let db = (state g.S.Store c.args.tx.now.conn.now).now.trees in
    let digest = c.in_ok-digest.digest.items in
    let octets = c.in_ok-octets.octets.items in
    let held = subst (λ d. HasContent (db contents_tree) d octets) c.deref.ensures.value (c.in_ok-octets.ensures.answer clean before stands) in
    let other : sha256 octets ≢ digest = λ is. c.has_digest.ensures.other c.if-has_digest.false (ap sha256 c.deref-2.ensures.value ∙ is ∙ sym c.deref-3.ensures.value) in
    ap texts_of c.in_ok-push.ensures.items ∙ one_noted db before stands.tables c.args.row.now digest octets c.args.digests.now.items c.in_ok-digest.digest c.in_ok-digest.ensures.ok.1 held other refl

pub returns-in_err-octets-clause-cause : goal.returns-in_err-octets-clause-cause
returns-in_err-octets-clause-cause g c clean =
    let db = (state g.S.Store c.args.tx.now.conn.now).now.trees in
    passed c.from_residual-in_err-octets.result _ _ c.from_residual-in_err-octets.ensures.1 (λ shows.
    let same = same_blob shows.1.0 c.in_ok-digest.digest.items (sym shows.1.2 ∙ c.in_ok-digest.ensures.ok.1) in
    c.in_err-octets.ensures.cause clean shows.1.1 (subst (λ d. HasContent (db contents_tree) d shows.1.1) (same ∙ sym c.deref.ensures.value) shows.1.3))

pub returns-then-has_digest-clause-within : goal.returns-then-has_digest-clause-within
returns-then-has_digest-clause-within g c = reading g.S.Store c.in_ok-octets.ensures.within _

pub returns-in_err-push-clause-within : goal.returns-in_err-push-clause-within
returns-in_err-push-clause-within g c = reading g.S.Store c.in_ok-octets.ensures.within _

pub returns-clause-within : goal.returns-clause-within
returns-clause-within g c = reading g.S.Store c.in_ok-octets.ensures.within _
