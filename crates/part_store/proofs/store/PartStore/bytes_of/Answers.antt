use Rattle.std.proofs.Common.{◌≡◌, Ok, IfErr, arith, rules, subst}
use Rattle.sqlite.specs.Held.{state}
use Rattle.sqlite.specs.State.{HasCleanDisk}
use Rattle.part_store.specs.Access.{ReadsStore}
use Rattle.part_store.specs.Refusals.{refusal_of, OnlyWhenFailed}
use Rattle.part_store.specs.Standing.{HaveDigests}
use Rattle.part_store.specs.Tables.{store_schema}
use Rattle.part_store.specs.Verifying.{IsVerified, OnlyWhenFailedOrAltered}
use Rattle.part_store.proofs.Afterwards.{undone}
use Rattle.part_store.proofs.Reading.{dropped_altered, only_when_failed}
use Rattle.part_store.proofs.RolledBack.{read_back}
use Rattle.part_store.proofs.Runs.{passed}
use Rattle.part_store.proofs.Verified.{never_answered}
use Rattle.part_store.proofs.store.PartStore.bytes_of.Goals as goal

pub returns-in_err-octets-clause-refused : goal.returns-in_err-octets-clause-refused
returns-in_err-octets-clause-refused g c = record {
  which = search rules;
  cause = λ clean.
      let mid = state g.S.Store c.read_bytes.new.tx.conn.now in
      let new = state g.S.Store c.drop-tx.new.self.0 in
      let user = c.args.user.now in
      let number = c.args.number in
      let error = refusal_of c.in_err-octets.field-0.0 in
      let early : HasCleanDisk mid = omega (arith, clean, c.drop-tx.ensures.survives.clean) in
      let cause = subst (λ h. OnlyWhenFailedOrAltered user number (state g.S.Store h) mid error) c.begin-tx.ensures.begun (c.in_err-octets.ensures.cause early) in
      subst (λ h. IfErr c.from_residual.result (OnlyWhenFailedOrAltered user number (state g.S.Store h) new)) c.self.view_is
      (passed c.from_residual.result _ _ c.from_residual.ensures.1 (dropped_altered g.S.Store c.self.inside.conn mid new user number error c.drop-tx.ensures.survives cause));
}

pub returns-in_err-octets-clause-sound : goal.returns-in_err-octets-clause-sound
returns-in_err-octets-clause-sound g c clean =
    let mid = state g.S.Store c.read_bytes.new.tx.conn.now in
    let new = state g.S.Store c.drop-tx.new.self.0 in
    let user = c.args.user.now in
    let number = c.args.number in
    let error = refusal_of c.in_err-octets.field-0.0 in
    let early : HasCleanDisk mid = omega (arith, clean, c.drop-tx.ensures.survives.clean) in
    let cause = subst (λ h. OnlyWhenFailedOrAltered user number (state g.S.Store h) mid error) c.begin-tx.ensures.begun (c.in_err-octets.ensures.cause early) in
    subst (λ h. IfErr c.from_residual.result (λ e. HaveDigests (state g.S.Store h).now.trees → OnlyWhenFailed (state g.S.Store h) new e)) c.self.view_is
    (passed c.from_residual.result _ _ c.from_residual.ensures.1
    (only_when_failed (state g.S.Store c.self.inside.conn) new user number error (dropped_altered g.S.Store c.self.inside.conn mid new user number error c.drop-tx.ensures.survives cause)))

pub returns-in-Some-clause-unaltered : goal.returns-in-Some-clause-unaltered
returns-in-Some-clause-unaltered g c clean before stands altered =
    let user = c.args.user.now in
    let number = c.args.number in
    let octets = c.in-Some.octets.items in
    let early : HasCleanDisk (state g.S.Store c.read_bytes.new.tx.conn.now) = omega (arith, clean, c.drop-tx-in-Some.ensures.survives.clean) in
    let told = rw c.in-Some.is at (c.in_ok-octets.ensures.verified early) in
    let begun = subst (λ h. (state g.S.Store h).now.schema ≡ store_schema → IsVerified (state g.S.Store h).now.trees user number octets) c.begin-tx.ensures.begun told in
    let verified = subst (λ h. (state g.S.Store h).now.schema ≡ store_schema → IsVerified (state g.S.Store h).now.trees user number octets) c.self.view_is begun in
    never_answered (state g.S.Store c.args.self.now).now.trees before user number octets stands.tables (verified stands.schema) altered

pub returns-in_err-octets-clause-reads : goal.returns-in_err-octets-clause-reads
returns-in_err-octets-clause-reads g c =
    let within = c.read_bytes.ensures.within in
    let drops = c.drop-tx.ensures in
    subst (λ h. ReadsStore g.S.Store h c.drop-tx.new.self.0 c.from_residual.result) c.self.view_is
    (read_back g.S.Store c.self.inside.conn _ c.read_bytes.new.tx.conn.now c.drop-tx.new.self.0 c.begin-tx.ensures.begun c.begin-tx.ensures.settled within.survives within.stays_closed within.kept drops.survives drops.undone c.from_residual.result (λ _. undone c.from_residual.result _ _ c.from_residual.ensures.1))

pub returns-in-Some-clause-reads : goal.returns-in-Some-clause-reads
returns-in-Some-clause-reads g c =
    let within = c.read_bytes.ensures.within in
    let drops = c.drop-tx-in-Some.ensures in
    subst (λ h. ReadsStore g.S.Store h c.drop-tx-in-Some.new.self.0 (Ok c.in-Some.octets)) c.self.view_is
    (read_back g.S.Store c.self.inside.conn _ c.read_bytes.new.tx.conn.now c.drop-tx-in-Some.new.self.0 c.begin-tx.ensures.begun c.begin-tx.ensures.settled within.survives within.stays_closed within.kept drops.survives drops.undone (Ok c.in-Some.octets) (λ clean. c.in_ok-octets.ensures.within.was_open clean))
