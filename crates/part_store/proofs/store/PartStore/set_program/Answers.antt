use Rattle.std.proofs.Common.{IfErr, IsTrue, arith, rules, subst}
use Rattle.sqlite.specs.Held.{state}
use Rattle.sqlite.specs.State.{HasCleanDisk, Survives}
use Rattle.part_store.specs.Entries.{with_program}
use Rattle.part_store.specs.Refusals.{refusal_of, OnlyWhenFailedOrNoUserRoom, HasNoUserRoom}
use Rattle.part_store.specs.Inside.{Brings}
use Rattle.part_store.specs.Access.{MayMakeOpen, WritesStore}
use Rattle.part_store.specs.Standing.{Makes}
use Rattle.part_store.proofs.Failing.{dropped}
use Rattle.part_store.proofs.RolledBack.{given_up}
use Rattle.part_store.proofs.Runs.{passed}
use Rattle.part_store.proofs.Stored.{committed_change}
use Rattle.part_store.proofs.Commits.{committed_made}
use Rattle.part_store.proofs.store.PartStore.set_program.Goals as goal

pub returns-in_err-commit-clause-writes : goal.returns-in_err-commit-clause-writes
returns-in_err-commit-clause-writes g c =
    let mid = state g.S.Store c.put_program.new.tx.conn.now in
    let new = state g.S.Store c.commit.new.self.0 in
    let change = with_program c.args.user.now c.args.program.now in
    let begun = c.begin-tx.ensures.begun in
    let survives = subst (λ h. Survives (state g.S.Store h) new (λ trees. MayMakeOpen change (state g.S.Store h) trees)) c.self.view_is
    (committed_change g.S.Store c.self.inside.conn mid new change (subst (λ h. Survives (state g.S.Store h) mid (λ _. ⊥)) begun c.put_program.ensures.within.survives)
    (λ clean. subst (λ h. IsTrue (state g.S.Store h).is_open) begun (c.in_ok-put_program.ensures.within.was_open clean)) (λ clean. subst (λ h. Brings change (state g.S.Store h) mid) begun (c.in_ok-put_program.ensures.step clean)) c.commit.ensures.survives) in
    record { made = search rules; unchanged = search rules; survives = survives }

pub returns-clause-writes : goal.returns-clause-writes
returns-clause-writes g c =
    let mid = state g.S.Store c.put_program.new.tx.conn.now in
    let new = state g.S.Store c.commit.new.self.0 in
    let change = with_program c.args.user.now c.args.program.now in
    let begun = c.begin-tx.ensures.begun in
    let is_open = λ (clean : HasCleanDisk mid). subst (λ h. IsTrue (state g.S.Store h).is_open) begun (c.in_ok-put_program.ensures.within.was_open clean) in
    let brings = λ (clean : HasCleanDisk mid). subst (λ h. Brings change (state g.S.Store h) mid) begun (c.in_ok-put_program.ensures.step clean) in
    record {
      made = λ clean.
          let early : HasCleanDisk mid = omega (arith, clean, c.commit.ensures.survives.clean) in
          subst (λ h. Makes change (state g.S.Store h) new) c.self.view_is (committed_made g.S.Store c.self.inside.conn mid new change (is_open early) (brings early) (c.in_ok-commit.ensures.ok clean).1);
      unchanged = search rules;
      survives = subst (λ h. Survives (state g.S.Store h) new (λ trees. MayMakeOpen change (state g.S.Store h) trees)) c.self.view_is
          (committed_change g.S.Store c.self.inside.conn mid new change (subst (λ h. Survives (state g.S.Store h) mid (λ _. ⊥)) begun c.put_program.ensures.within.survives) is_open brings c.commit.ensures.survives);
    }

pub returns-in_err-put_program-clause-refused : goal.returns-in_err-put_program-clause-refused
returns-in_err-put_program-clause-refused g c = record {
  which = search rules;
  cause = λ clean.
      let mid = state g.S.Store c.put_program.new.tx.conn.now in
      let new = state g.S.Store c.drop-tx.new.self.0 in
      let user = c.args.user.now in
      let change = with_program user c.args.program.now in
      let early : HasCleanDisk mid = omega (arith, clean, c.drop-tx.ensures.survives.clean) in
      let cause = subst (λ h. IsTrue (state g.S.Store h).in_transaction → OnlyWhenFailedOrNoUserRoom user change (state g.S.Store h) mid (refusal_of c.in_err-put_program.field-0.0)) c.begin-tx.ensures.begun (c.in_err-put_program.ensures.cause early) in
      subst (λ h. IfErr c.from_residual.result (OnlyWhenFailedOrNoUserRoom user change (state g.S.Store h) new)) c.self.view_is
      (passed c.from_residual.result _ _ c.from_residual.ensures.1 (dropped g.S.Store c.self.inside.conn mid new (λ before. HasNoUserRoom user (change before)) (refusal_of c.in_err-put_program.field-0.0) c.drop-tx.ensures.survives cause));
}

pub returns-in_err-put_program-clause-writes : goal.returns-in_err-put_program-clause-writes
returns-in_err-put_program-clause-writes g c =
    let new = c.drop-tx.new.self.0 in
    let change = with_program c.args.user.now c.args.program.now in
    let within = c.put_program.ensures.within in
    subst (λ h. WritesStore g.S.Store h new c.from_residual.result change (MayMakeOpen change)) c.self.view_is
    (given_up g.S.Store c.self.inside.conn _ c.put_program.new.tx.conn.now new c.begin-tx.ensures.begun c.begin-tx.ensures.settled within.survives within.stays_closed within.kept c.drop-tx.ensures.survives c.drop-tx.ensures.undone
    c.from_residual.result _ change (MayMakeOpen change) c.from_residual.ensures.1)
