use Rattle.std.proofs.Common.{◌≡◌, ℕ, List, IsTrue, arith, rules, subst, true}
use Rattle.sqlite.specs.Held.{state}
use Rattle.sqlite.specs.State.{State, HasCleanDisk, Survives}
use Rattle.sqlite_trees.specs.Tree.{Trees}
use Rattle.part_store.specs.Access.{WritesStore}
use Rattle.part_store.specs.Entries.{Entries, Entry, without_entry}
use Rattle.part_store.specs.Inside.{Brings}
use Rattle.part_store.specs.Standing.{AddsVerified, IsEntryAt, IsStored, Makes, Stands}
use Rattle.part_store.proofs.Commits.{commits_shown, committed_made, brought_store}
use Rattle.part_store.proofs.RolledBack.{given_up}
use Rattle.part_store.proofs.store.PartStore.remove_entry.Goals as goal

abbrev MayRemove : List ℕ → ℕ → State → Trees → Type 0
MayRemove user number old trees = IsTrue old.is_open × ((before : Entries) → Stands old.now before
    → ((x : Entry) × IsEntryAt before user number x) × IsStored trees (without_entry user number before) × AddsVerified old.now.trees trees)

pub returns-in_err-commit-clause-writes : goal.returns-in_err-commit-clause-writes
returns-in_err-commit-clause-writes g c =
    let mid = state g.S.Store c.take_entry.new.tx.conn.now in
    let new = state g.S.Store c.commit.new.self.0 in
    let user = c.args.user.now in
    let number = c.args.number in
    let change = without_entry user number in
    let begun = c.begin-tx.ensures.begun in
    let done : c.in_ok-take_entry.field-0 ≡ true = search rules in
    let is_open = λ (clean : HasCleanDisk mid). subst (λ h. IsTrue (state g.S.Store h).is_open) begun (c.in_ok-take_entry.ensures.within.was_open clean) in
    let brings = λ (clean : HasCleanDisk mid). subst (λ h. Brings change (state g.S.Store h) mid) begun (c.in_ok-take_entry.ensures.taken clean done) in
    let there = λ (clean : HasCleanDisk mid). subst (λ h. (before : Entries) → Stands (state g.S.Store h).now before → (x : Entry) × IsEntryAt before user number x) begun (c.in_ok-take_entry.ensures.there clean done) in
    let survives = subst (λ h. Survives (state g.S.Store h) new (MayRemove user number (state g.S.Store h))) c.self.view_is
    (commits_shown g.S.Store c.self.inside.conn mid new (MayRemove user number (state g.S.Store c.self.inside.conn)) (subst (λ h. Survives (state g.S.Store h) mid (λ _. ⊥)) begun c.take_entry.ensures.within.survives)
    (λ clean. (is_open clean, λ before stands. let made = brought_store g.S.Store c.self.inside.conn mid new change (brings clean) before stands in (there clean before stands, made.0, made.1))) c.commit.ensures.survives) in
    record { made = search rules; unchanged = search rules; survives = survives }

pub returns-clause-writes : goal.returns-clause-writes
returns-clause-writes g c =
    let mid = state g.S.Store c.take_entry.new.tx.conn.now in
    let new = state g.S.Store c.commit.new.self.0 in
    let user = c.args.user.now in
    let number = c.args.number in
    let change = without_entry user number in
    let begun = c.begin-tx.ensures.begun in
    let done : c.in_ok-take_entry.field-0 ≡ true = search rules in
    let is_open = λ (clean : HasCleanDisk mid). subst (λ h. IsTrue (state g.S.Store h).is_open) begun (c.in_ok-take_entry.ensures.within.was_open clean) in
    let brings = λ (clean : HasCleanDisk mid). subst (λ h. Brings change (state g.S.Store h) mid) begun (c.in_ok-take_entry.ensures.taken clean done) in
    let there = λ (clean : HasCleanDisk mid). subst (λ h. (before : Entries) → Stands (state g.S.Store h).now before → (x : Entry) × IsEntryAt before user number x) begun (c.in_ok-take_entry.ensures.there clean done) in
    let survives = subst (λ h. Survives (state g.S.Store h) new (MayRemove user number (state g.S.Store h))) c.self.view_is
    (commits_shown g.S.Store c.self.inside.conn mid new (MayRemove user number (state g.S.Store c.self.inside.conn)) (subst (λ h. Survives (state g.S.Store h) mid (λ _. ⊥)) begun c.take_entry.ensures.within.survives)
    (λ clean. (is_open clean, λ before stands. let made = brought_store g.S.Store c.self.inside.conn mid new change (brings clean) before stands in (there clean before stands, made.0, made.1))) c.commit.ensures.survives) in
    record {
      made = λ clean.
          let early : HasCleanDisk mid = omega (arith, clean, c.commit.ensures.survives.clean) in
          subst (λ h. Makes change (state g.S.Store h) new) c.self.view_is (committed_made g.S.Store c.self.inside.conn mid new change (is_open early) (brings early) (c.in_ok-commit.ensures.ok clean).1);
      unchanged = search rules;
      survives = survives;
    }

pub returns-in_err-take_entry-clause-writes : goal.returns-in_err-take_entry-clause-writes
returns-in_err-take_entry-clause-writes g c =
    let new = c.drop-tx.new.self.0 in
    let change = without_entry c.args.user.now c.args.number in
    let commits = MayRemove c.args.user.now c.args.number in
    let within = c.take_entry.ensures.within in
    subst (λ h. WritesStore g.S.Store h new c.from_residual.result change commits) c.self.view_is
    (given_up g.S.Store c.self.inside.conn _ c.take_entry.new.tx.conn.now new c.begin-tx.ensures.begun c.begin-tx.ensures.settled within.survives within.stays_closed within.kept c.drop-tx.ensures.survives c.drop-tx.ensures.undone
    c.from_residual.result _ change commits c.from_residual.ensures.1)
