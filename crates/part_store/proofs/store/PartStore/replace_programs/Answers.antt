use Rattle.std.proofs.Common.{◌<◌, IfErr, IsTrue, arith, length, map, rules, subst}
use Rattle.sqlite.specs.Held.{state}
use Rattle.sqlite.specs.State.{State, HasCleanDisk, Survives}
use Rattle.sqlite_trees.specs.Tree.{Trees}
use Rattle.part_store.specs.Access.{WritesStore}
use Rattle.part_store.specs.Refusals.{refusal_of, OnlyWhenFailedOrNoProgramRoom, HaveNoUserRoom}
use Rattle.part_store.specs.Standing.{Makes, MayMake, pair_of}
use Rattle.part_store.proofs.Failing.{dropped}
use Rattle.part_store.specs.Calls.{StaysClosed}
use Rattle.part_store.specs.Entries.{with_programs}
use Rattle.part_store.specs.Inside.{Brings}
use Rattle.part_store.proofs.RolledBack.{given_up}
use Rattle.part_store.proofs.Runs.{passed}
use Rattle.part_store.proofs.Commits.{commits_shown, committed_made, brought_store}
use Rattle.part_store.proofs.store.PartStore.replace_programs.Goals as goal

pub returns-in_err-replace_all-clause-refused : goal.returns-in_err-replace_all-clause-refused
returns-in_err-replace_all-clause-refused g c = record {
  which = search rules;
  cause = λ clean.
      let mid = state g.S.Store c.replace_all.new.tx.conn.now in
      let new = state g.S.Store c.drop-tx.new.self.0 in
      let pairs = map pair_of c.args.programs.now in
      let early : HasCleanDisk mid = omega (arith, clean, c.drop-tx.ensures.survives.clean) in
      let cause = subst (λ h. IsTrue (state g.S.Store h).in_transaction → OnlyWhenFailedOrNoProgramRoom pairs (state g.S.Store h) mid (refusal_of c.in_err-replace_all.field-0.0)) c.begin-tx.ensures.begun (c.in_err-replace_all.ensures.cause early) in
      subst (λ h. IfErr c.from_residual.result (OnlyWhenFailedOrNoProgramRoom pairs (state g.S.Store h) new)) c.self.view_is
      (passed c.from_residual.result _ _ c.from_residual.ensures.1 (dropped g.S.Store c.self.inside.conn mid new (HaveNoUserRoom pairs) (refusal_of c.in_err-replace_all.field-0.0) c.drop-tx.ensures.survives cause));
}

pub returns-in_err-commit-clause-writes : goal.returns-in_err-commit-clause-writes
returns-in_err-commit-clause-writes g c =
    let mid = state g.S.Store c.replace_all.new.tx.conn.now in
    let new = state g.S.Store c.commit.new.self.0 in
    let programs = c.args.programs.now in
    let change = with_programs (map pair_of programs) in
    let begun = c.begin-tx.ensures.begun in
    let brings = λ (clean : HasCleanDisk mid). subst (λ h. Brings change (state g.S.Store h) mid) begun (c.in_ok-replace_all.ensures.step clean) in
    let is_open = λ (clean : HasCleanDisk mid). subst (λ h. 0 < length programs → IsTrue (state g.S.Store h).is_open) begun (c.in_ok-replace_all.ensures.open clean) in
    let survives = subst (λ h. Survives (state g.S.Store h) new (λ trees. (0 < length programs → IsTrue (state g.S.Store h).is_open) × MayMake change (state g.S.Store h) trees)) c.self.view_is
    (commits_shown g.S.Store c.self.inside.conn mid new (λ trees. (0 < length programs → IsTrue (state g.S.Store c.self.inside.conn).is_open) × MayMake change (state g.S.Store c.self.inside.conn) trees)
    (subst (λ h. Survives (state g.S.Store h) mid (λ _. ⊥)) begun c.replace_all.ensures.within.survives) (λ clean. (is_open clean, brought_store g.S.Store c.self.inside.conn mid new change (brings clean))) c.commit.ensures.survives) in
    record { made = search rules; unchanged = search rules; survives = survives }

pub returns-clause-writes : goal.returns-clause-writes
returns-clause-writes g c =
    let mid = state g.S.Store c.replace_all.new.tx.conn.now in
    let new = state g.S.Store c.commit.new.self.0 in
    let programs = c.args.programs.now in
    let change = with_programs (map pair_of programs) in
    let begun = c.begin-tx.ensures.begun in
    let brings = λ (clean : HasCleanDisk mid). subst (λ h. Brings change (state g.S.Store h) mid) begun (c.in_ok-replace_all.ensures.step clean) in
    let is_open = λ (clean : HasCleanDisk mid). subst (λ h. 0 < length programs → IsTrue (state g.S.Store h).is_open) begun (c.in_ok-replace_all.ensures.open clean) in
    let survives = subst (λ h. Survives (state g.S.Store h) new (λ trees. (0 < length programs → IsTrue (state g.S.Store h).is_open) × MayMake change (state g.S.Store h) trees)) c.self.view_is
    (commits_shown g.S.Store c.self.inside.conn mid new (λ trees. (0 < length programs → IsTrue (state g.S.Store c.self.inside.conn).is_open) × MayMake change (state g.S.Store c.self.inside.conn) trees)
    (subst (λ h. Survives (state g.S.Store h) mid (λ _. ⊥)) begun c.replace_all.ensures.within.survives) (λ clean. (is_open clean, brought_store g.S.Store c.self.inside.conn mid new change (brings clean))) c.commit.ensures.survives) in
    record {
      made = λ clean.
          let early : HasCleanDisk mid = omega (arith, clean, c.commit.ensures.survives.clean) in
          let shows = (c.in_ok-commit.ensures.ok clean).1 in
          subst (λ h. Makes change (state g.S.Store h) new) c.self.view_is (committed_made g.S.Store c.self.inside.conn mid new change
          (subst (λ h. StaysClosed (state g.S.Store h) mid) begun (c.replace_all.ensures.stays_closed early) shows.was_open) (brings early) shows);
      unchanged = search rules;
      survives = survives;
    }

pub returns-in_err-replace_all-clause-writes : goal.returns-in_err-replace_all-clause-writes
returns-in_err-replace_all-clause-writes g c =
    let new = c.drop-tx.new.self.0 in
    let change = with_programs (map pair_of c.args.programs.now) in
    let commits = λ (old : State) (trees : Trees). (0 < length c.args.programs.now → IsTrue old.is_open) × MayMake change old trees in
    let within = c.replace_all.ensures.within in
    subst (λ h. WritesStore g.S.Store h new c.from_residual.result change commits) c.self.view_is
    (given_up g.S.Store c.self.inside.conn _ c.replace_all.new.tx.conn.now new c.begin-tx.ensures.begun c.begin-tx.ensures.settled within.survives c.replace_all.ensures.stays_closed within.kept c.drop-tx.ensures.survives c.drop-tx.ensures.undone
    c.from_residual.result _ change commits c.from_residual.ensures.1)
