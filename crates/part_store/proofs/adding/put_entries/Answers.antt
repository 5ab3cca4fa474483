use Rattle.std.proofs.Common.{◌≡◌, true, false, map, ◌∙◌, arith, rules, subst, sym}
use Rattle.std.proofs.lemmas.List.{length-map}
use Rattle.sqlite.specs.State.{HasCleanDisk}
use Rattle.sqlite.specs.Held.{state}
use Rattle.part_store.specs.Causes.{TellsOfRow}
use Rattle.part_store.specs.Filing.{Collides}
use Rattle.part_store.specs.Standing.{AddsVerified, draft_of}
use Rattle.part_store.proofs.Afterwards.{went_on}
use Rattle.part_store.proofs.Entering.{collides_after, stands_still}
use Rattle.part_store.proofs.NoRoom.{entries_after, entries_blamed, stood}
use Rattle.part_store.proofs.Runs.{passed}
use Rattle.part_store.proofs.adding.put_entries.Goals as goal

pub returns-then-branch-clause-adds : goal.returns-then-branch-clause-adds
returns-then-branch-clause-adds g c clean before stands =
    let old = state g.S.Store c.args.tx.now.conn.now in
    let mid = state g.S.Store c.last_of.new.tx.conn.now in
    let early : HasCleanDisk mid = omega (arith, c.claim_and_file.ensures.within.survives.clean) in
    let entries = c.args.entries.now in
    let told = c.in_ok-last.ensures.answer early before stands in
    let still = c.in_ok-last.ensures.within.same early in
    let done : c.in_ok-claim_and_file.field-0 ≡ true = search rules in
    let enters = c.in_ok-claim_and_file.ensures.filed clean done before (stands_still old mid before still stands) told.0 (subst (λ t. TellsOfRow c.args.user.now t c.in_ok-last.is_known) (sym (still stands.schema).1) told.1) in
    let kept = c.last_of.ensures.within.kept early stands.schema in (
      omega (arith, told.0, c.if-entries-last.false, length-map entries draft_of),
      omega (arith, told.0),
      λ h. enters.apart (collides_after old mid (map draft_of entries) (still stands.schema).1 h),
      enters.stands,
      enters.committed ∙ kept.committed enters.was_open,
      subst (λ t. AddsVerified t (state g.S.Store c.claim_and_file.new.tx.conn.now).now.trees) (still stands.schema).1 enters.verified,
    )

pub returns-else-branch-clause-adds : goal.returns-else-branch-clause-adds
returns-else-branch-clause-adds g c clean before stands =
    let old = state g.S.Store c.args.tx.now.conn.now in
    let mid = state g.S.Store c.last_of.new.tx.conn.now in
    let early : HasCleanDisk mid = omega (arith, c.claim_and_file.ensures.within.survives.clean) in
    let entries = c.args.entries.now in
    let told = c.in_ok-last.ensures.answer early before stands in
    let still = c.in_ok-last.ensures.within.same early in
    let failed : c.in_ok-claim_and_file.field-0 ≡ false = search rules in
    let other = c.in_ok-claim_and_file.ensures.other clean failed before (stands_still old mid before still stands) told.0 (subst (λ t. TellsOfRow c.args.user.now t c.in_ok-last.is_known) (sym (still stands.schema).1) told.1) in (
      omega (arith, told.0, c.if-entries-last.false, length-map entries draft_of),
      subst (λ t. Collides t (map draft_of entries)) (still stands.schema).1 other,
    )

pub returns-in_err-last-clause-cause : goal.returns-in_err-last-clause-cause
returns-in_err-last-clause-cause g c clean =
    let old = state g.S.Store c.args.tx.now.conn.now in
    let new = state g.S.Store c.last_of.new.tx.conn.now in
    passed c.from_residual.result _ _ c.from_residual.ensures.1 (λ _. entries_blamed old new c.args.user.now (map draft_of c.args.entries.now) _ (c.in_err-last.ensures.cause clean))

pub returns-in_err-claim_and_file-clause-cause : goal.returns-in_err-claim_and_file-clause-cause
returns-in_err-claim_and_file-clause-cause g c clean =
    let old = state g.S.Store c.args.tx.now.conn.now in
    let mid = state g.S.Store c.last_of.new.tx.conn.now in
    let new = state g.S.Store c.claim_and_file.new.tx.conn.now in
    let early : HasCleanDisk mid = omega (arith, clean, c.claim_and_file.ensures.within.survives.clean) in
    let user = c.args.user.now in
    let drafts = map draft_of c.args.entries.now in
    let still = c.in_ok-last.ensures.within.same early in
    passed c.from_residual-in_err-claim_and_file.result _ _ c.from_residual-in_err-claim_and_file.ensures.1 (λ inside.
    entries_after old mid new user drafts _ c.last_of.ensures.within.survives c.claim_and_file.ensures.within.survives clean still
    (λ before stands. omega (arith, (c.in_ok-last.ensures.answer early before stands).0, c.if-entries-last.false, length-map c.args.entries.now draft_of)) (λ before stands.
    c.in_err-claim_and_file.ensures.cause clean (c.in_ok-last.ensures.within.inside early stands.schema inside) (λ other there.
    let told = c.in_ok-last.ensures.answer early other (stood old mid before other still stands there) in
    (told.0, subst (λ t. TellsOfRow user t c.in_ok-last.is_known) (sym (still stands.schema).1) told.1))))

pub returns-in_err-claim_and_file-clause-within : goal.returns-in_err-claim_and_file-clause-within
returns-in_err-claim_and_file-clause-within g c = went_on g.S.Store c.in_ok-last.ensures.within _ c.claim_and_file.ensures.within

pub returns-then-branch-clause-within : goal.returns-then-branch-clause-within
returns-then-branch-clause-within g c = went_on g.S.Store c.in_ok-last.ensures.within _ c.claim_and_file.ensures.within

pub returns-else-branch-clause-within : goal.returns-else-branch-clause-within
returns-else-branch-clause-within g c = went_on g.S.Store c.in_ok-last.ensures.within _ c.claim_and_file.ensures.within
