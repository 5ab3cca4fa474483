-- Places in a script that steps lead between.
use Rattle.std.specs.Prelude.{◌≡◌, ℕ, ◌<◌, ◌≤◌, Bool, true, false, List, [], ◌∷◌, length, slice_index}

-- the steps lead from place a to place b, each from one of the places given to the next
abbrev pub Chain : (ℕ → ℕ → Type 0) → List ℕ → ℕ → ℕ → Type 0
Chain Step [] a b = a ≡ b
Chain Step (m ∷ ms) a b = Step a m × Chain Step ms m b

-- some number of steps lead from place a to place b
abbrev pub Leads : (ℕ → ℕ → Type 0) → ℕ → ℕ → Type 0
Leads Step a b = (ms : List ℕ) × Chain Step ms a b

-- no step leads on from place a
abbrev pub Stops : (ℕ → ℕ → Type 0) → ℕ → Type 0
Stops Step a = (b : ℕ) → Step a b → ⊥

-- from place a to place b stand octets that pass the test, and at b stands one that doesn't, or the script's end
pub record IsRun (passes : ℕ → Bool) (script : List ℕ) (a b : ℕ) : Type 0 where
  pub from : a ≤ b
  pub within : b ≤ length script
  pub all : (i : ℕ) → a ≤ i → i < b → passes (slice_index script i) ≡ true
  pub ended : b < length script → passes (slice_index script b) ≡ false
