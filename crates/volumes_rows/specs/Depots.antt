-- Private: what volumes hold whose depots stay open.
use Rattle.std.specs.Prelude.{◌≡◌, ℕ, false, IsTrue, List, ◌∷◌, ◌++◌, length, Option, Some, None}
use Rattle.std.specs.List.{AllByRecursion, AllZip}
use Rattle.sqlite_trees.specs.declared.store.Store.{Ghosts}
use Rattle.sqlite.specs.Held.{Held, state}
use Rattle.part_store.specs.Entries.{Entries}
use Rattle.part_store.specs.Opening.{IsAt}
use Rattle.volumes.specs.Holding.{Holding, IsFailure}
use Rattle.volumes_rows.specs.declared.open_volumes.OpenVolumes.{OpenVolumes}

-- The depot of a volume shows what the volume holds. While it is out, that isn't known here: the one who has it can change it.
abbrev pub Shows : {S : Type 0} → Ghosts S → Option (Held S) → Entries → Type 0
Shows g None v = Unit {0}
Shows g (Some depot) v = IsAt v (state g depot)

-- no failure has shut the depot
abbrev pub IsOpen : {S : Type 0} → Ghosts S → Option (Held S) → Type 0
IsOpen g None = Unit {0}
IsOpen g (Some depot) = IsTrue (state g depot).is_open

-- Each depot that isn't out shows what its volume holds. All is sound unless a depot was lost, or a failure shut one.
-- No note is kept of why the latest question was refused: it can be either of the two.
abbrev pub holding_of : {S : Type 0} → Ghosts S → Holding (OpenVolumes S)
holding_of g = record {
  holds = λ m vs. AllZip (Shows g) m.depots.items vs;
  is_sound = λ m. (m.has_lost ≡ false) × AllByRecursion (IsOpen g) m.depots.items;
  opened = λ m. m.opened;
  refuses = λ m refusal. IsFailure refusal;
}

-- the slot at a place, from 0, was this and is that, and the others are as they were
pub record IsPut {X : Type 0} (place : ℕ) (old new : List (Option X)) (was is : Option X) : Type 0 where
  pub earlier : List (Option X)
  pub later : List (Option X)
  pub were : old ≡ earlier ++ was ∷ later
  pub are : new ≡ earlier ++ is ∷ later
  pub at : length earlier ≡ place
