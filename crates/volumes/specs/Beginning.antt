-- A volume that is being begun: its file is made, then its tables, and then, all together, its users with their programs and last
-- numbers. So a crash leaves it without anything, holding nothing, or begun.
use Rattle.std.specs.Prelude.{◌≡◌, ◌≢◌, ◌⊎◌, ℕ, ◌<◌, List, [], ◌∷◌, ◌++◌, None}
use Rattle.part_store.specs.Entries.{Entries, no_entries}
use Rattle.volumes.specs.Volumes.{begun, current}

-- somebody was given a number, or has a program
abbrev pub HasUsers : Entries → Type 0
HasUsers e = (user : List ℕ) × ((0 < e.lasts user) ⊎ (e.programs user ≢ None))

-- the newest of these volumes isn't begun: it holds nothing, though there are users in those before it
abbrev pub HasUnbegun : List Entries → List Entries → Type 0
HasUnbegun vs earlier = (vs ≡ earlier ++ no_entries ∷ []) × HasUsers (current earlier)

-- no newest one is like that
abbrev pub AreBegun : List Entries → Type 0
AreBegun vs = (earlier : List Entries) → ¬ HasUnbegun vs earlier

-- the volumes that count among those that are there: all, or all but a newest one that isn't begun
abbrev pub Count : List Entries → List Entries → Type 0
Count counted there = ((counted ≡ there) × AreBegun there) ⊎ HasUnbegun there counted

-- what may be there, if the next volume was being begun
abbrev pub MayBeBeginning : List Entries → List Entries → Type 0
MayBeBeginning vs there = (there ≡ vs) ⊎ ((there ≡ vs ++ no_entries ∷ []) ⊎ (there ≡ vs ++ begun (current vs) ∷ []))
