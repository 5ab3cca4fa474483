-- The next volume begins.
use Rattle.std.proofs.Common.{◌≡◌, inl, inr, List, [], ◌∷◌, ◌++◌, refl, subst}
use Rattle.sqlite_trees.specs.declared.store.Store.{Ghosts}
use Rattle.sqlite_value.specs.Order.{Row}
use Rattle.sqlite.specs.Held.{Held, state}
use Rattle.sqlite.specs.State.{HasCleanDisk}
use Rattle.part_store.specs.Entries.{Entries, no_entries}
use Rattle.part_store.specs.Standing.{Makes, Stands}
use Rattle.part_store.specs.UserLines.{AreUsersOf, UserLine, with_users}
use Rattle.volumes.specs.Applying.{KeepsWhole}
use Rattle.volumes.specs.Holding.{HasAdded, HasMade, Holding, Keeps}
use Rattle.volumes.specs.Private.{AreNewestUsers, FillsNext}
use Rattle.volumes.specs.Volumes.{begun, current}
use Rattle.volumes.proofs.Applied.{IsLawful}
use Rattle.volumes.proofs.Whole.{begins_after, begins_whole}

-- the users of a store, in an empty one, make it the next volume
abbrev CarryOver : Type 0
CarryOver = (table : List Row) (e : Entries) (lines : List UserLine) → AreUsersOf table e lines → with_users lines no_entries ≡ record e { entries = [] }

pub filled : {S V : Type 0} (g : Ghosts S) (lawful : IsLawful g) (k : Holding V) (lines : List UserLine) (old mid new : V) (was is : Held S) → HasMade k g old mid was
    → (HasCleanDisk (state g is) → Makes (with_users lines) (state g was) (state g is)) → HasAdded k g mid new is → CarryOver → FillsNext k old new lines
filled g lawful k lines old mid new was is made makes added carry = record {
  same = λ sound vs table users holds.
      let after = added.sound sound in
      let done = makes (lawful is after.0) in
      let empty = made.empty (lawful was done.0.0) in
      let stands = subst (Stands (state g is).now) (carry table (current vs) lines users) (done.1 no_entries empty.0).0 in
      inr (added.held sound vs (begun (current vs)) (made.keeps.same after.1 vs holds) (stands, done.0.2, done.0.1));
  sound = λ sound. made.keeps.sound (added.sound sound).1;
}

pub unfilled : {V : Type 0} (k : Holding V) (lines : List UserLine) (old new : V) → Keeps k old new → FillsNext k old new lines
unfilled k lines old new keeps = record { same = λ sound vs table users holds. inl (keeps.same sound vs holds); sound = keeps.sound }

pub begun_whole : {V : Type 0} (k : Holding V) (lines : List UserLine) (old mid new : V) → AreNewestUsers k old mid lines → Keeps k old mid → FillsNext k mid new lines → KeepsWhole k old new
begun_whole k lines old mid new users keeps fills = record {
  same = λ sound before holds are.
      let earlier = fills.sound sound in
      let told = users earlier before holds in
      elim (fills.same sound before told.0 told.1 (keeps.same earlier before holds)) [
        | inl same ↦ (before, refl, are, same)
        | inr next ↦ (before ++ begun (current before) ∷ [], begins_whole before, begins_after before are, next)
      ];
  sound = λ sound. keeps.sound (fills.sound sound);
}
