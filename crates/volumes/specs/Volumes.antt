-- A depot in volumes: depots that follow one another, and answer as one. A list of them has the oldest first.
use Rattle.std.specs.Prelude.{ℕ, ◌<◌, ◌≤◌, List, [], ◌∷◌, filter, nat_lt}
use Rattle.std.specs.List.{AllByRecursion, flat_map}
use Rattle.part_store.specs.Entries.{Entries, no_entries}

-- the newest of these, or the one before them, if there is none
abbrev pub newest_after : Entries → List Entries → Entries
newest_after v [] = v
newest_after v (next ∷ vs) = newest_after next vs

-- the current volume is the newest; where there is none, nothing is held
abbrev pub current : List Entries → Entries
current vs = newest_after no_entries vs

-- what volumes hold as one depot: all entries, one volume after the other; and the programs and last numbers of the current one
abbrev pub whole : List Entries → Entries
whole vs = record { entries = flat_map (λ v. v.entries) vs; programs = (current vs).programs; lasts = (current vs).lasts }

-- A volume comes after another: no user's last number is smaller than there, and each entry's number is above the last number
-- that its user had there, and at most the one that he has here.
pub record ComesAfter (before v : Entries) : Type 0 where
  pub lasts : (user : List ℕ) → before.lasts user ≤ v.lasts user
  pub numbers : AllByRecursion (λ x. (before.lasts x.user < x.number) × (x.number ≤ v.lasts x.user)) v.entries

-- each comes after the one before it, and the first one after this
abbrev pub ComeAfter : Entries → List Entries → Type 0
ComeAfter before [] = Unit {0}
ComeAfter before (v ∷ vs) = ComesAfter before v × ComeAfter v vs

-- These are volumes of one depot. Before the oldest there may have been others, which were removed: its numbers needn't begin
-- with 1.
abbrev pub AreVolumes : List Entries → Type 0
AreVolumes vs = ComeAfter no_entries vs

-- the volume that begins after this one: no entries, and its programs and last numbers
abbrev pub begun : Entries → Entries
begun v = record v { entries = [] }

-- without the entries that have numbers up to these last ones
abbrev pub without_up_to : (List ℕ → ℕ) → Entries → Entries
without_up_to lasts e = record e { entries = filter (λ x. nat_lt (lasts x.user) x.number) e.entries }
