-- What holds volumes, and what its calls do with the depots of them: each is opened by itself, used, and given back.
use Rattle.std.specs.Prelude.{◌≡◌, ◌⊎◌, ℕ, ◌<◌, IsTrue, List, [], ◌∷◌, ◌++◌, length}
use Rattle.sqlite_trees.specs.declared.store.Store.{Ghosts}
use Rattle.sqlite.specs.Held.{Held, state}
use Rattle.sqlite.specs.State.{HasCleanDisk}
use Rattle.part_store.specs.Entries.{Entries, no_entries}
use Rattle.part_store.specs.Opening.{IsAt}
use Rattle.part_store.specs.declared.error.StoreError.{StoreError}
use Rattle.part_store.specs.declared.error.StoreError.TheVariants as store
use Rattle.refusals.specs.declared.refusal.Refusal.{Refusal}
use Rattle.refusals.specs.declared.refusal.Refusal.TheVariants.{Memory, Database}

-- what holds volumes, as a contract sees it
pub record Holding (V : Type 0) : Type 1 where
  -- It holds these volumes, the oldest first. One that is open elsewhere counts as what it was when it was opened.
  pub holds : V → List Entries → Type 0
  -- no depot that it was given back had been shut by a failure
  pub is_sound : V → Type 0
  -- how many depots it has opened
  pub opened : V → ℕ
  -- the latest question for a last number was refused, with this refusal
  pub refuses : V → Refusal → Type 0

abbrev pub IsFailure : Refusal → Type 0
IsFailure e = (e ≡ Memory) ⊎ (e ≡ Database)

-- the refusal for a store that can't be read or filled
abbrev pub failure_for : StoreError → Refusal
failure_for store.Memory = Memory
failure_for store.NoSuchEntry = Database
failure_for store.NumberFull = Database
failure_for store.Collision = Database
failure_for store.Database = Database

module _ {V : Type 0} (k : Holding V) where
  -- it holds what it held
  pub record Keeps (old new : V) : Type 0 where
    pub same : k.is_sound new → (vs : List Entries) → k.holds old vs → k.holds new vs
    pub sound : k.is_sound new → k.is_sound old

  -- The depot of the volume at this place, from 0, was opened. As long as nothing failed: there is that volume, the depot shows it,
  -- and all volumes are as they were.
  pub record HasOpened {S : Type 0} (g : Ghosts S) (place : ℕ) (old new : V) (depot : Held S) : Type 0 where
    pub there : k.is_sound new → IsTrue (state g depot).is_open → (vs : List Entries) → k.holds old vs → place < length vs
    pub found : k.is_sound new → IsTrue (state g depot).is_open → (earlier : List Entries) (v : Entries) (later : List Entries)
        → k.holds old (earlier ++ v ∷ later) → length earlier ≡ place → IsAt v (state g depot)
    pub same : k.is_sound new → IsTrue (state g depot).is_open → (vs : List Entries) → k.holds old vs → k.holds new vs
    pub sound : k.is_sound new → IsTrue (state g depot).is_open → k.is_sound old

  -- the depot of the volume at this place was given back, and that volume is what the depot shows
  pub record HasClosed {S : Type 0} (g : Ghosts S) (place : ℕ) (old new : V) (depot : Held S) : Type 0 where
    pub held : k.is_sound new → (earlier : List Entries) (was is : Entries) (later : List Entries)
        → k.holds old (earlier ++ was ∷ later) → length earlier ≡ place → IsAt is (state g depot)
        → k.holds new (earlier ++ is ∷ later)
    pub sound : k.is_sound new → IsTrue (state g depot).is_open × k.is_sound old

  -- it is the last number that the user was given in the volume at this place
  abbrev pub IsLastAt : V → V → List ℕ → ℕ → ℕ → Type 0
  IsLastAt old new user place last = k.is_sound new → (earlier : List Entries) (v : Entries) (later : List Entries)
      → k.holds old (earlier ++ v ∷ later) → length earlier ≡ place → last ≡ v.lasts user

  -- the next volume's depot was made, which is empty; the volume doesn't count
  pub record HasMade {S : Type 0} (g : Ghosts S) (old new : V) (depot : Held S) : Type 0 where
    pub empty : HasCleanDisk (state g depot) → IsAt no_entries (state g depot)
    pub keeps : Keeps old new

  -- the next volume's depot was given back, and the volume counts: it is what the depot shows
  pub record HasAdded {S : Type 0} (g : Ghosts S) (old new : V) (depot : Held S) : Type 0 where
    pub held : k.is_sound new → (vs : List Entries) (v : Entries) → k.holds old vs → IsAt v (state g depot)
        → k.holds new (vs ++ v ∷ [])
    pub sound : k.is_sound new → IsTrue (state g depot).is_open × k.is_sound old
