-- The definitions of volumes at small depots: none, one and two volumes, and the older one of two removed.
use Rattle.std.proofs.Common.{◌≡◌, ℕ, List, [], ◌∷◌, None, Some, append-nil, refl, arith}
use Rattle.part_store.specs.Entries.{Entries, Entry, no_entries}
use Rattle.part_store.specs.declared.entry.Kind.TheVariants.{Message}
use Rattle.volumes.specs.Places.{IsFirstAt, IsPlaceOf, lasts_of}
use Rattle.volumes.specs.Volumes.{AreVolumes, begun, current, whole, without_up_to}

abbrev ann : List ℕ
ann = 97 ∷ []

abbrev mail : ℕ → Entry
mail number = record { user = ann; number = number; folder = []; kind = Message; name = []; media = []; octets = [] }

-- two mails and then a third one, after which the last number is 4, because the fourth was removed
abbrev older : Entries
older = record { entries = mail 1 ∷ mail 2 ∷ []; programs = λ _. None; lasts = λ _. 2 }

abbrev newer : Entries
newer = record { entries = mail 3 ∷ []; programs = λ _. Some []; lasts = λ _. 4 }

-- no volume holds what an empty depot does, and is what the first one begins from
none_hold : whole [] ≡ no_entries
none_hold = refl

none_are : AreVolumes []
none_are = tt

first_begins : begun (current []) ≡ no_entries
first_begins = refl

-- one volume is the depot
one_holds : (v : Entries) → whole (v ∷ []) ≡ v
one_holds v = λ i. record { entries = append-nil v.entries i; programs = v.programs; lasts = v.lasts }

two_hold : whole (older ∷ newer ∷ []) ≡ record { entries = mail 1 ∷ mail 2 ∷ mail 3 ∷ []; programs = λ _. Some []; lasts = λ _. 4 }
two_hold = refl

two_are : AreVolumes (older ∷ newer ∷ [])
two_are = (
  record { lasts = λ user. omega arith; numbers = ((omega arith, omega arith), ((omega arith, omega arith), tt)) },
  (record { lasts = λ user. omega arith; numbers = ((omega arith, omega arith), tt) }, tt),
)

-- in the other order they aren't
not_turned : AreVolumes (newer ∷ older ∷ []) → ⊥
not_turned are = omega (arith, are.1.0.lasts ann)

-- a volume that was made and has no last numbers isn't one
not_half_made : AreVolumes (older ∷ no_entries ∷ []) → ⊥
not_half_made are = omega (arith, are.1.0.lasts ann)

-- without the older one, its numbers are gone: 1 and 2
newer_stays : AreVolumes (newer ∷ [])
newer_stays = (record { lasts = λ user. omega arith; numbers = ((omega arith, omega arith), tt) }, tt)

numbers_gone : without_up_to older.lasts (whole (older ∷ newer ∷ [])) ≡ newer
numbers_gone = refl

-- 2 is in the first of them, 3 and 4 are looked for in the second, and 5 in none
place_of_two : IsPlaceOf 2 (lasts_of ann (older ∷ newer ∷ [])) 0
place_of_two = record { within = omega arith; smaller = λ i lt. absurd (omega (arith, lt)); enough = λ lt. omega arith }

place_of_four : IsPlaceOf 4 (lasts_of ann (older ∷ newer ∷ [])) 1 → IsFirstAt ann 4 (older ∷ newer ∷ []) 1
place_of_four is = record { earlier = older ∷ []; v = newer; later = []; are = refl; before = refl; first = ((omega arith, tt), omega arith) }
