-- Private: what one part of a message adds to an index.
use Rattle.std.specs.Prelude.{ℕ, ◌==◌, List, [], ◌∷◌, Bool, false, Option, Some, fold, is_none, if◌then◌else◌}
use Rattle.std.specs.Option.{option_map_or}
use Rattle.catalog.specs.Stored.{place_of}
use Rattle.catalog.specs.declared.entry.Place.{Place}
use Rattle.catalog.specs.declared.index.Slot.{Slot}

-- whether there are such entries, and the first has no place
abbrev pub is_new : (ℕ → Option Place) → List Slot → Bool
is_new known [] = false
is_new known (slot ∷ slots) = is_none (known slot.at)

-- the places of entries, and at the places of these entries the part
abbrev pub at_slots : ℕ → List Slot → (ℕ → Option Place) → ℕ → Option Place
at_slots part slots known at = fold (λ found (slot : Slot). if slot.at == at then Some (record { number = slot.number; part = part }) else found) (known at) slots

-- the same, unless the entries have a place
abbrev pub with_slots : ℕ → List Slot → (ℕ → Option Place) → ℕ → Option Place
with_slots part slots known at = if is_new known slots then at_slots part slots known at else known at

-- a message and its first part with this digest, if there is one
abbrev pub first_with : ℕ → List (List ℕ) → List ℕ → List Place
first_with number digests digest = option_map_or (λ part. record { number = number; part = part } ∷ []) (place_of digests digest) []
