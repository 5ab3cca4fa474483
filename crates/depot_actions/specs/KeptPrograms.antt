-- Private: which of the programs that were checked are kept. They are told by their octets, in the order in which they
-- were checked.
use Rattle.std.specs.Prelude.{◌-◌, ℕ, List, [], ◌∷◌, ◌++◌, Bool, Option, None, Some, bytes_eq, drop, is_some, length, unwrap_or, if◌then◌else◌}
use Rattle.std.specs.List.{position}

-- the place of the program with these octets, if it is kept
abbrev pub place_of : List ℕ → List (List ℕ) → Option ℕ
place_of program kept = position (λ one. bytes_eq one program) kept

abbrev pub is_kept : List ℕ → List (List ℕ) → Bool
is_kept program kept = is_some (place_of program kept)

-- one more was checked: the last 63 of those before, and this one
abbrev pub with_checked : List ℕ → List (List ℕ) → List (List ℕ)
with_checked program kept = drop (length kept - 63) kept ++ program ∷ []

-- a program was needed: it is kept, and checked only where it wasn't kept before
abbrev pub kept_with : List ℕ → List (List ℕ) → List (List ℕ)
kept_with program kept = if is_kept program kept then kept else with_checked program kept

-- what is kept after a delivery to a user with this program, or without one; before the first program nothing is
abbrev pub kept_after : Option (List ℕ) → Option (List (List ℕ)) → Option (List (List ℕ))
kept_after None kept = kept
kept_after (Some program) kept = Some (kept_with program (unwrap_or kept []))
