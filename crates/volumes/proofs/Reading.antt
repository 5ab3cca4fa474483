-- A depot that was opened, only read, and given back.
use Rattle.std.proofs.Common.{◌≡◌, ℕ, ◌+◌, List, [], ◌∷◌, ◌++◌, length, map, sym, ap, subst, ◌∙◌}
use Rattle.sqlite_trees.specs.declared.store.Store.{Ghosts}
use Rattle.sqlite.specs.Held.{Held, state}
use Rattle.sqlite.specs.State.{HasCleanDisk}
use Rattle.part_store.specs.Entries.{Entries, Listing, entries_since, listing_of, no_entries}
use Rattle.part_store.specs.Standing.{LeavesUnchanged, Stands}
use Rattle.part_store.specs.Tables.{users_tree}
use Rattle.part_store.specs.UserLines.{AreUsersOf, UserLine}
use Rattle.volumes.specs.Holding.{HasClosed, HasOpened, Holding, IsLastAt, Keeps}
use Rattle.volumes.specs.Private.{AreListedAt, AreNewestUsers}
use Rattle.volumes.specs.Volumes.{current}
use Rattle.volumes.proofs.Applied.{IsLawful, clean_after, has_last, open_after, sound_before, still_held, was_at}
use Rattle.volumes.proofs.Sought.{has_at}
use Rattle.volumes.proofs.Whole.{newest_join}

module _ {S V : Type 0} (g : Ghosts S) (lawful : IsLawful g) (k : Holding V) (place : ℕ) (old mid new : V) (was is : Held S) (opened : HasOpened k g place old mid was) (closed : HasClosed k g place mid new is)
    (spares : HasCleanDisk (state g is) → LeavesUnchanged (state g was) (state g is)) where
  module _ (sound : k.is_sound new) where
    unchanged : LeavesUnchanged (state g was) (state g is)
    unchanged = spares (clean_after g lawful k place old mid new was is opened closed sound)

    pub shown : (earlier : List Entries) (v : Entries) (later : List Entries) → k.holds old (earlier ++ v ∷ later) → length earlier ≡ place → Stands (state g was).now v
    shown earlier v later holds at =
        (was_at g lawful k place old mid new was is opened closed sound earlier v later holds at (unchanged.stays_closed (open_after g lawful k place old mid new was is opened closed sound))).0

  pub read_keeps : Keeps k old new
  read_keeps = record {
    same = λ sound vs holds.
        let is_open = (unchanged sound).stays_closed (open_after g lawful k place old mid new was is opened closed sound) in
        let there = has_at vs place (opened.there (closed.sound sound).1 is_open vs holds) in
        subst (k.holds new) (sym there.are)
        (still_held g lawful k place old mid new was is opened closed sound there.earlier there.v there.later (subst (k.holds old) there.are holds) there.at (unchanged sound));
    sound = λ sound. sound_before g lawful k place old mid new was is opened closed sound ((unchanged sound).stays_closed (open_after g lawful k place old mid new was is opened closed sound));
  }

  pub read_last : (user : List ℕ) (last : ℕ) → (HasCleanDisk (state g is) → (before : Entries) → Stands (state g was).now before → last ≡ before.lasts user) → IsLastAt k old new user place last
  read_last user last told sound earlier v later holds at =
      told (clean_after g lawful k place old mid new was is opened closed sound) v (shown sound earlier v later holds at)

  pub read_users : ((vs : List Entries) → k.holds old vs → length vs ≡ place + 1) → (lines : List UserLine)
      → (HasCleanDisk (state g is) → (before : Entries) → Stands (state g was).now before → AreUsersOf ((state g was).now.trees users_tree) before lines) → AreNewestUsers k old new lines
  read_users newest lines told sound vs holds =
      let last = has_last vs place (newest vs holds) in
      let stands = shown sound last.earlier last.last [] (subst (k.holds old) last.are holds) last.at in
      let is_last : current vs ≡ last.last = ap current last.are ∙ newest_join no_entries last.earlier (last.last ∷ []) in (
        (state g was).now.trees users_tree,
        subst (λ e. AreUsersOf ((state g was).now.trees users_tree) e lines) (sym is_last) (told (clean_after g lawful k place old mid new was is opened closed sound) last.last stands),
      )

  pub read_rows : (user : List ℕ) (number : ℕ) (rows : List Listing) → (HasCleanDisk (state g is) → (before : Entries) → Stands (state g was).now before → rows ≡ map listing_of (entries_since user number before)) → AreListedAt k old new user number place rows
  read_rows user number rows told sound earlier v later holds at =
      told (clean_after g lawful k place old mid new was is opened closed sound) v (shown sound earlier v later holds at)
