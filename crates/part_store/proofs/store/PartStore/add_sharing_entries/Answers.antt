use Rattle.std.proofs.Common.{Ok, Err, IfErr, IsTrue, arith, map, rules, subst}
use Rattle.sqlite.specs.Held.{state}
use Rattle.sqlite.specs.State.{HasCleanDisk, Survives}
use Rattle.part_store.specs.Access.{AddsEntries, MayMakeOpen, WritesStore}
use Rattle.part_store.specs.Entries.{with_entries}
use Rattle.part_store.specs.Inside.{Brings}
use Rattle.part_store.specs.Refusals.{OnlyWhenFailedOrNoEntryRoom, LackRoom}
use Rattle.part_store.specs.Standing.{Makes, draft_of}
use Rattle.part_store.proofs.Failing.{dropped}
use Rattle.part_store.proofs.RefusedAdding.{committed_adds, failed_adds, refused_adds}
use Rattle.part_store.proofs.RolledBack.{given_up}
use Rattle.part_store.proofs.Runs.{passed}
use Rattle.part_store.proofs.Stored.{committed_change}
use Rattle.part_store.proofs.Commits.{committed_made}
use Rattle.part_store.proofs.store.PartStore.add_sharing_entries.Goals as goal

pub returns-in_err-first-clause-refused : goal.returns-in_err-first-clause-refused
returns-in_err-first-clause-refused g c = record {
  which = search rules;
  cause = λ clean.
      let mid = state g.S.Store c.add_within.new.tx.conn.now in
      let new = state g.S.Store c.drop-tx.new.self.0 in
      let user = c.args.user.now in
      let drafts = map draft_of c.args.entries.now in
      let early : HasCleanDisk mid = omega (arith, clean, c.drop-tx.ensures.survives.clean) in
      let cause = subst (λ h. IsTrue (state g.S.Store h).in_transaction → OnlyWhenFailedOrNoEntryRoom user drafts (state g.S.Store h) mid c.in_err-first.field-0.0) c.begin-tx.ensures.begun (c.in_err-first.ensures.refused.cause early) in
      subst (λ h. IfErr c.from_residual.result (OnlyWhenFailedOrNoEntryRoom user drafts (state g.S.Store h) new)) c.self.view_is
      (passed c.from_residual.result _ _ c.from_residual.ensures.1 (dropped g.S.Store c.self.inside.conn mid new (LackRoom user drafts) c.in_err-first.field-0.0 c.drop-tx.ensures.survives cause));
}

pub returns-in_err-commit-clause-writes : goal.returns-in_err-commit-clause-writes
returns-in_err-commit-clause-writes g c =
    let mid = state g.S.Store c.add_within.new.tx.conn.now in
    let new = state g.S.Store c.commit.new.self.0 in
    let change = with_entries c.args.user.now (map draft_of c.args.entries.now) in
    let begun = c.begin-tx.ensures.begun in
    let survives = subst (λ h. Survives (state g.S.Store h) new (λ trees. MayMakeOpen change (state g.S.Store h) trees)) c.self.view_is
    (committed_change g.S.Store c.self.inside.conn mid new change (subst (λ h. Survives (state g.S.Store h) mid (λ _. ⊥)) begun c.add_within.ensures.within.survives)
    (λ clean. subst (λ h. IsTrue (state g.S.Store h).is_open) begun (c.in_ok-first.ensures.within.was_open clean))
    (λ clean. subst (λ h. Brings change (state g.S.Store h) mid) begun (c.in_ok-first.ensures.made clean)) c.commit.ensures.survives) in
    record { made = search rules; unchanged = search rules; survives = survives }

pub returns-clause-writes : goal.returns-clause-writes
returns-clause-writes g c =
    let mid = state g.S.Store c.add_within.new.tx.conn.now in
    let new = state g.S.Store c.commit.new.self.0 in
    let change = with_entries c.args.user.now (map draft_of c.args.entries.now) in
    let begun = c.begin-tx.ensures.begun in
    let is_open = λ (clean : HasCleanDisk mid). subst (λ h. IsTrue (state g.S.Store h).is_open) begun (c.in_ok-first.ensures.within.was_open clean) in
    let brings = λ (clean : HasCleanDisk mid). subst (λ h. Brings change (state g.S.Store h) mid) begun (c.in_ok-first.ensures.made clean) in
    record {
      made = λ clean.
          let early : HasCleanDisk mid = omega (arith, clean, c.commit.ensures.survives.clean) in
          subst (λ h. Makes change (state g.S.Store h) new) c.self.view_is (committed_made g.S.Store c.self.inside.conn mid new change (is_open early) (brings early) (c.in_ok-commit.ensures.ok clean).1);
      unchanged = search rules;
      survives = subst (λ h. Survives (state g.S.Store h) new (λ trees. MayMakeOpen change (state g.S.Store h) trees)) c.self.view_is
          (committed_change g.S.Store c.self.inside.conn mid new change (subst (λ h. Survives (state g.S.Store h) mid (λ _. ⊥)) begun c.add_within.ensures.within.survives) is_open brings c.commit.ensures.survives);
    }

pub returns-in_err-first-clause-adds : goal.returns-in_err-first-clause-adds
returns-in_err-first-clause-adds g c =
    let mid = c.add_within.new.tx.conn.now in
    let new = c.drop-tx.new.self.0 in
    let user = c.args.user.now in
    let entries = c.args.entries.now in
    let error = c.in_err-first.field-0.0 in
    let adds = subst (λ h. AddsEntries g.S.Store h mid (Err error) user entries) c.begin-tx.ensures.begun c.in_err-first.ensures.adds in
    subst (λ h. AddsEntries g.S.Store h new c.from_residual.result user entries) c.self.view_is
    (refused_adds g.S.Store c.self.inside.conn mid new user entries error c.from_residual.result c.from_residual.ensures.1 c.drop-tx.ensures.survives c.drop-tx.ensures.undone adds)

pub returns-in_err-commit-clause-adds : goal.returns-in_err-commit-clause-adds
returns-in_err-commit-clause-adds g c =
    let new = c.commit.new.self.0 in
    let user = c.args.user.now in
    let entries = c.args.entries.now in
    let result = c.from_residual-in_err-commit.result in
    subst (λ h. AddsEntries g.S.Store h new result user entries) c.self.view_is
    (failed_adds g.S.Store c.self.inside.conn new user entries _ result c.from_residual-in_err-commit.ensures.1 (λ clean _.
    let early : HasCleanDisk (state g.S.Store c.add_within.new.tx.conn.now) = omega (arith, clean, c.commit.ensures.survives.clean) in
    subst (λ h. IsTrue (state g.S.Store h).is_open) c.begin-tx.ensures.begun (c.in_ok-first.ensures.within.was_open early)))

pub returns-clause-adds : goal.returns-clause-adds
returns-clause-adds g c =
    let mid = c.add_within.new.tx.conn.now in
    let new = c.commit.new.self.0 in
    let user = c.args.user.now in
    let entries = c.args.entries.now in
    let first = c.in_ok-first.first in
    let adds = subst (λ h. AddsEntries g.S.Store h mid (Ok first) user entries) c.begin-tx.ensures.begun c.in_ok-first.ensures.adds in
    subst (λ h. AddsEntries g.S.Store h new (Ok first) user entries) c.self.view_is (committed_adds g.S.Store c.self.inside.conn mid new user entries first c.commit.ensures.survives adds)

pub returns-in_err-first-clause-writes : goal.returns-in_err-first-clause-writes
returns-in_err-first-clause-writes g c =
    let new = c.drop-tx.new.self.0 in
    let change = with_entries c.args.user.now (map draft_of c.args.entries.now) in
    let within = c.add_within.ensures.within in
    subst (λ h. WritesStore g.S.Store h new c.from_residual.result change (MayMakeOpen change)) c.self.view_is
    (given_up g.S.Store c.self.inside.conn _ c.add_within.new.tx.conn.now new c.begin-tx.ensures.begun c.begin-tx.ensures.settled within.survives within.stays_closed within.kept c.drop-tx.ensures.survives c.drop-tx.ensures.undone
    c.from_residual.result _ change (MayMakeOpen change) c.from_residual.ensures.1)
