-- What the calls on volumes promise where nothing is known of the volumes.
use Rattle.std.proofs.Common.{◌≡◌, ℕ, List, [], ap, inl, length}
use Rattle.sqlite_trees.specs.declared.store.Store.{Ghosts}
use Rattle.sqlite.specs.Held.{Held, state}
use Rattle.sqlite.specs.Recovery.{Image}
use Rattle.sqlite.specs.State.{HasCleanDisk}
use Rattle.part_store.specs.Entries.{Entries, no_entries}
use Rattle.part_store.specs.Opening.{HoldsNoTables, IsAt}
use Rattle.volumes.specs.Holding.{HasAdded, HasClosed, HasMade, HasOpened, IsLastAt, Keeps}
use Rattle.depot_folder.specs.Folders.{unknown}

module _ {V : Type 0} where
  pub keeps : (old new : V) → Keeps unknown old new
  keeps old new = record { same = λ none. absurd none; sound = λ none. absurd none }

  pub last : (old new : V) (user : List ℕ) (place number : ℕ) → IsLastAt unknown old new user place number
  last old new user place number = λ none. absurd none

  pub counted : (folder : V) (count : ℕ) (vs : List Entries) → ⊥ → length vs ≡ count
  counted folder count vs none = absurd none

  module _ {S : Type 0} (g : Ghosts S) where
    pub opened : (place : ℕ) (old new : V) (depot : Held S) → HasOpened unknown g place old new depot
    opened place old new depot = record {
      there = λ none. absurd none;
      found = λ none. absurd none;
      same = λ none. absurd none;
      sound = λ none. absurd none;
    }

    pub closed : (place : ℕ) (old new : V) (depot : Held S) → HasClosed unknown g place old new depot
    closed place old new depot = record { held = λ none. absurd none; sound = λ none. absurd none }

    pub made : (old new : V) (depot : Held S) → (HasCleanDisk (state g depot) → IsAt no_entries (state g depot)) → HasMade unknown g old new depot
    made old new depot empty = record { empty = empty; keeps = keeps old new }

    pub added : (old new : V) (depot : Held S) → HasAdded unknown g old new depot
    added old new depot = record { held = λ none. absurd none; sound = λ none. absurd none }

-- files without an octet are no database
pub nothing_there : (image : Image) → image.db ≡ [] → HoldsNoTables image
nothing_there image empty = inl (inl (inl (ap length empty)))
