use Rattle.std.proofs.Common.{inl, inr, ℕ, Vec, ap, arith, ◌∙◌}
use Rattle.std.specs.declared.alloc.Global.{Global}
use Rattle.sqlite.specs.State.{HasCleanDisk}
use Rattle.sqlite.specs.Held.{state}
use Rattle.part_store.proofs.Failing.{later_failed}
use Rattle.part_store.proofs.Reading.{bytes_read, named_lacks, other_digest, verified_bytes}
use Rattle.part_store.proofs.Runs.{passed}
use Rattle.part_store.proofs.store.read_bytes.Goals as goal

pub returns-clause-answer : goal.returns-clause-answer
returns-clause-answer g c clean before stands =
    let old = state g.S.Store c.args.tx.now.conn.now in
    let mid = state g.S.Store c.digest_of.new.tx.conn.now in
    let early : HasCleanDisk mid = omega (arith, c.content_of.ensures.within.survives.clean) in
    let told = rw c.in-Some.is at (c.in_ok-digest.ensures.answer early) in
    let x = bytes_read old mid c.args.user.now c.args.number c.in-Some.digest.items c.in_ok-octets.octets.items told (c.in_ok-digest.ensures.within.same early)
    (rw c.deref.ensures.value at (c.in_ok-octets.ensures.answer clean)) before stands in
    (x.0, x.1, ap (λ (it : Vec ℕ Global). it.items) c.in_ok-verified.ensures.same ∙ x.2)

pub returns-clause-verified : goal.returns-clause-verified
returns-clause-verified g c clean has =
    let old = state g.S.Store c.args.tx.now.conn.now in
    let mid = state g.S.Store c.digest_of.new.tx.conn.now in
    let early : HasCleanDisk mid = omega (arith, c.content_of.ensures.within.survives.clean) in
    let same = c.in_ok-digest.ensures.within.same early has in
    let named = rw c.in-Some.is at (c.in_ok-digest.ensures.named early has) in
    let found = rw c.deref.ensures.value at (c.in_ok-octets.ensures.found clean same.0) in
    let is = c.in_ok-verified.ensures.same in
    verified_bytes old.now.trees mid.now.trees c.args.user.now c.args.number c.in-Some.digest.items c.in_ok-verified.field-0.items same.1 named
    (rw is found) (rw c.deref-2.ensures.value at c.in_ok-verified.ensures.has)

pub returns-in_err-octets-clause-cause : goal.returns-in_err-octets-clause-cause
returns-in_err-octets-clause-cause g c clean =
    let old = state g.S.Store c.args.tx.now.conn.now in
    let mid = state g.S.Store c.digest_of.new.tx.conn.now in
    let new = state g.S.Store c.content_of.new.tx.conn.now in
    let early : HasCleanDisk mid = omega (arith, clean, c.content_of.ensures.within.survives.clean) in
    let lacking = rw c.deref.ensures.value at (c.in_err-octets.ensures.lacking clean) in
    passed c.from_residual-in_err-octets.result _ _ c.from_residual-in_err-octets.ensures.1 (λ is has.
    let same = c.in_ok-digest.ensures.within.same early has in
    let named = rw c.in-Some.is at (c.in_ok-digest.ensures.named early has) in
    elim (lacking is same.0) [
      | inl failed ↦ inl (later_failed old mid new c.digest_of.ensures.within.survives c.content_of.ensures.within.survives clean failed)
      | inr lacks ↦ inr (named_lacks old.now.trees mid.now.trees c.args.user.now c.args.number c.in-Some.digest.items same.1 named lacks)
    ])

pub returns-in_err-verified-clause-cause : goal.returns-in_err-verified-clause-cause
returns-in_err-verified-clause-cause g c clean =
    let old = state g.S.Store c.args.tx.now.conn.now in
    let mid = state g.S.Store c.digest_of.new.tx.conn.now in
    let early : HasCleanDisk mid = omega (arith, clean, c.content_of.ensures.within.survives.clean) in
    let other = rw c.deref-2.ensures.value at c.in_err-verified.ensures.other.1 in
    passed c.from_residual-in_err-verified.result _ _ c.from_residual-in_err-verified.ensures.1 (λ is has.
    let same = c.in_ok-digest.ensures.within.same early has in
    let named = rw c.in-Some.is at (c.in_ok-digest.ensures.named early has) in
    let found = rw c.deref.ensures.value at (c.in_ok-octets.ensures.found clean same.0) in
    inr (named_lacks old.now.trees mid.now.trees c.args.user.now c.args.number c.in-Some.digest.items same.1 named (other_digest mid.now.trees c.in-Some.digest.items c.in_ok-octets.octets.items found other)))

pub returns-in_err-digest-clause-cause : goal.returns-in_err-digest-clause-cause
returns-in_err-digest-clause-cause g c clean = passed c.from_residual.result _ _ c.from_residual.ensures.1 (c.in_err-digest.ensures.unnamed clean)
