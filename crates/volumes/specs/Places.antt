-- The place of the volume that has a number, found by few questions.
use Rattle.std.specs.Prelude.{◌≡◌, ℕ, ◌+◌, ◌*◌, ◌^◌, ◌<◌, ◌≤◌, List, ◌∷◌, ◌++◌, length, map, slice_index}
use Rattle.std.specs.List.{AllByRecursion}
use Rattle.part_store.specs.Entries.{Entries}

-- no number is smaller than one before it
abbrev pub NeverFall : List ℕ → Type 0
NeverFall numbers = (i j : ℕ) → i ≤ j → j < length numbers → slice_index numbers i ≤ slice_index numbers j

-- the place, from 0, of the first of so many that is at least this number: if there is none, how many they are
pub record IsPlaceAmong (count number : ℕ) (numbers : List ℕ) (place : ℕ) : Type 0 where
  pub within : place ≤ count
  pub smaller : (i : ℕ) → i < place → slice_index numbers i < number
  pub enough : place < count → number ≤ slice_index numbers place

-- the same of all of them
abbrev pub IsPlaceOf : ℕ → List ℕ → ℕ → Type 0
IsPlaceOf number numbers place = IsPlaceAmong (length numbers) number numbers place

-- it is the first volume in which the user's last number is at least this one
abbrev pub IsFirstUpTo : List ℕ → ℕ → List Entries → Entries → Type 0
IsFirstUpTo user number earlier v = AllByRecursion (λ w. w.lasts user < number) earlier × (number ≤ v.lasts user)

-- that volume is at the place, from 0
pub record IsFirstAt (user : List ℕ) (number : ℕ) (vs : List Entries) (place : ℕ) : Type 0 where
  pub earlier : List Entries
  pub v : Entries
  pub later : List Entries
  pub are : vs ≡ earlier ++ v ∷ later
  pub before : length earlier ≡ place
  pub first : IsFirstUpTo user number earlier v

-- a user's last number in each volume
abbrev pub lasts_of : List ℕ → List Entries → List ℕ
lasts_of user vs = map (λ v. v.lasts user) vs

-- at most so many questions more were asked as halvings take: none of nothing; otherwise the logarithm to base 2, rounded down, and 1
abbrev pub AsksFew : ℕ → ℕ → ℕ → Type 0
AsksFew count old new = (questions : ℕ) × (new ≤ old + questions) × (2 ^ questions ≤ 2 * count + 1)
