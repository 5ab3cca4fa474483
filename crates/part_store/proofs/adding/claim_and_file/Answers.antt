use Rattle.std.proofs.Common.{◌⊎◌, ◌+◌, length, map, subst, sym, ◌∙◌, rules, arith}
use Rattle.std.proofs.lemmas.List.{length-map}
use Rattle.sqlite.specs.State.{HasCleanDisk}
use Rattle.sqlite.specs.Held.{state}
use Rattle.sqlite.proofs.StateLemmas.{survives_then}
use Rattle.part_store.specs.Entries.{with_last}
use Rattle.part_store.specs.Refusals.{HasFailed, HasNoUserRoom}
use Rattle.part_store.specs.Standing.{draft_of}
use Rattle.part_store.proofs.Entering.{can_file, collides_before, entered, kept_then}
use Rattle.part_store.proofs.NoRoom.{claim_refused, files_refused}
use Rattle.part_store.proofs.Runs.{err_then, if_ok, passed}
use Rattle.part_store.proofs.adding.claim_and_file.Goals as goal

pub returns-clause-filed : goal.returns-clause-filed
returns-clause-filed g c clean =
    let old = state g.S.Store c.args.tx.now.conn.now in
    let mid = state g.S.Store c.claim.new.tx.conn.now in
    let new = state g.S.Store c.file_all.new.tx.conn.now in
    let early : HasCleanDisk mid = omega (arith, c.file_all.ensures.within.survives.clean) in
    let user = c.args.user.now in
    let entries = c.args.entries.now in
    if_ok c.file_all.result _ _ (λ done files is before stands last_is known.
    let claims = c.in_ok-claim.ensures.claimed early before stands known (omega (arith, last_is)) in
    entered old mid new user c.args.last (length entries) (map draft_of entries) before (sym (length-map entries draft_of)) last_is claims
    (files is (with_last user (c.args.last + length entries) before) claims.stands (can_file old.now before user c.args.last (length entries) stands last_is))) (c.file_all.ensures.filed clean)

pub returns-clause-other : goal.returns-clause-other
returns-clause-other g c clean =
    let old = state g.S.Store c.args.tx.now.conn.now in
    let mid = state g.S.Store c.claim.new.tx.conn.now in
    let early : HasCleanDisk mid = omega (arith, c.file_all.ensures.within.survives.clean) in
    let user = c.args.user.now in
    let entries = c.args.entries.now in
    if_ok c.file_all.result _ _ (λ done other is before stands last_is known.
    let claims = c.in_ok-claim.ensures.claimed early before stands known (omega (arith, last_is)) in
    collides_before old mid (map draft_of entries) claims.contents
    (other is (with_last user (c.args.last + length entries) before) claims.stands (can_file old.now before user c.args.last (length entries) stands last_is))) (c.file_all.ensures.other clean)

pub returns-clause-within : goal.returns-clause-within
returns-clause-within g c =
    let old = state g.S.Store c.args.tx.now.conn.now in
    let mid = state g.S.Store c.claim.new.tx.conn.now in
    let new = state g.S.Store c.file_all.new.tx.conn.now in
    record {
      same_reference = c.file_all.ensures.within.same_reference ∙ c.claim.ensures.within.same_reference;
      schema = search rules;
      kept = λ clean has.
          let early : HasCleanDisk mid = omega (arith, clean, c.file_all.ensures.within.survives.clean) in
          kept_then old mid new (c.claim.ensures.within.kept early has) (c.file_all.ensures.within.kept clean (c.in_ok-claim.ensures.within.schema early has));
      survives = survives_then old mid new (λ _. ⊥) (λ _. ⊥) (λ _. ⊥) (λ _ _ h. h) (λ _ _ h. h) c.claim.ensures.within.survives c.file_all.ensures.within.survives;
    }

pub returns-in_err-claim-clause-cause : goal.returns-in_err-claim-clause-cause
returns-in_err-claim-clause-cause g c clean =
    let old = state g.S.Store c.args.tx.now.conn.now in
    let new = state g.S.Store c.claim.new.tx.conn.now in
    let entries = c.args.entries.now in
    let user = c.args.user.now in
    let drafts = map draft_of entries in
    passed c.from_residual.result _ _ c.from_residual.ensures.1 (λ inside told.
    claim_refused old new user c.args.last drafts _ (λ is before stands.
    subst (λ n. HasFailed old new ⊎ HasNoUserRoom user (with_last user (c.args.last + n) before) old.now.trees) (sym (length-map entries draft_of))
    (c.in_err-claim.ensures.cause clean is inside before stands (told before stands).1)) (λ before stands. (told before stands).0))

pub returns-clause-cause : goal.returns-clause-cause
returns-clause-cause g c clean =
    let old = state g.S.Store c.args.tx.now.conn.now in
    let mid = state g.S.Store c.claim.new.tx.conn.now in
    let new = state g.S.Store c.file_all.new.tx.conn.now in
    let early : HasCleanDisk mid = omega (arith, clean, c.file_all.ensures.within.survives.clean) in
    let user = c.args.user.now in
    let entries = c.args.entries.now in
    err_then c.file_all.result _ _ (λ e cause inside told.
    files_refused old mid new user c.args.last (length entries) (map draft_of entries) e c.claim.ensures.within.survives c.file_all.ensures.within.survives clean
    (λ before stands.
    let last_is = (told before stands).0 in
    (c.in_ok-claim.ensures.claimed early before stands (told before stands).1 (omega (arith, last_is)), can_file old.now before user c.args.last (length entries) stands last_is))
    (λ is. cause is (c.in_ok-claim.ensures.inside early))) (c.file_all.ensures.cause clean)
