-- Private: what the steps of a call on volumes answer.
use Rattle.std.specs.Prelude.{◌≡◌, ◌⊎◌, ℕ, ◌+◌, IsTrue, List, [], ◌∷◌, ◌++◌, drop, length, map}
use Rattle.std.specs.List.{flat_map}
use Rattle.sqlite_trees.specs.declared.store.Store.{Ghosts}
use Rattle.sqlite_value.specs.Order.{Row}
use Rattle.sqlite.specs.Held.{Held, state}
use Rattle.part_store.specs.Entries.{Entries, Listing, entries_since, listing_of}
use Rattle.part_store.specs.UserLines.{AreUsersOf, UserLine}
use Rattle.volumes.specs.Holding.{HasOpened, Holding}
use Rattle.volumes.specs.Places.{IsPlaceAmong, lasts_of}
use Rattle.volumes.specs.Volumes.{AreVolumes, begun, current}

module _ {V : Type 0} (k : Holding V) where
  -- the depot of the newest volume was opened, which is at this place
  pub record HasOpenedNewest {S : Type 0} (g : Ghosts S) (place : ℕ) (old new : V) (depot : Held S) : Type 0 where
    pub opened : HasOpened k g place old new depot
    pub newest : (vs : List Entries) → k.holds old vs → length vs ≡ place + 1

module _ {V : Type 0} (k : Holding V) (old new : V) where
  -- whatever volumes were held, if no depot was shut by a failure
  abbrev pub OfHeld : (List Entries → Type 0) → Type 0
  OfHeld Is = k.is_sound new → (vs : List Entries) → k.holds old vs → Is vs

  -- the users of the newest volume
  abbrev pub AreNewestUsers : List UserLine → Type 0
  AreNewestUsers lines = OfHeld (λ vs. (table : List Row) × AreUsersOf table (current vs) lines)

  -- the next volume begins with these users, or nothing changes: if they are those of the newest, nothing changes for all
  pub record FillsNext (lines : List UserLine) : Type 0 where
    pub same : k.is_sound new → (vs : List Entries) → (table : List Row) → AreUsersOf table (current vs) lines → k.holds old vs
        → k.holds new vs ⊎ k.holds new (vs ++ begun (current vs) ∷ [])
    pub sound : k.is_sound new → k.is_sound old

  -- a volume's depot was opened: that which the number is in, or else the newest
  pub record HasOpenedFor {S : Type 0} (g : Ghosts S) (user : List ℕ) (number place : ℕ) (depot : Held S) : Type 0 where
    pub opened : HasOpened k g place old new depot
    pub sought : k.is_sound new → IsTrue (state g depot).is_open → (vs : List Entries) → k.holds old vs → AreVolumes vs
        → (count : ℕ) × (length vs ≡ count + 1) × IsPlaceAmong count number (lasts_of user vs) place

  -- a user's entries above a number in the volume at a place, as they are listed
  abbrev pub AreListedAt : List ℕ → ℕ → ℕ → List Listing → Type 0
  AreListedAt user number place rows = k.is_sound new → (earlier : List Entries) (v : Entries) (later : List Entries)
      → k.holds old (earlier ++ v ∷ later) → length earlier ≡ place → rows ≡ map listing_of (entries_since user number v)

  -- the rows of a volume at a place came after those that were there
  abbrev pub PutsListed : List ℕ → ℕ → ℕ → List Listing → List Listing → Type 0
  PutsListed user number place before after = k.is_sound new → (earlier : List Entries) (v : Entries) (later : List Entries)
      → k.holds old (earlier ++ v ∷ later) → length earlier ≡ place → after ≡ before ++ map listing_of (entries_since user number v)

  -- a user's entries above a number in all volumes from a place on, of so many
  abbrev pub AreListedFrom : List ℕ → ℕ → ℕ → ℕ → List Listing → Type 0
  AreListedFrom user number first count rows = OfHeld (λ vs. length vs ≡ count
      → rows ≡ flat_map (λ v. map listing_of (entries_since user number v)) (drop first vs))
