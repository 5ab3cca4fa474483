-- Private: the errors of the store, and of stored programs.
use Rattle.std.specs.Prelude.{◌≡◌, ◌⊎◌, ℕ, List, Option}
use Rattle.part_store.specs.declared.error.StoreError.{StoreError}
use Rattle.refusals.specs.declared.refusal.Refusal.{Refusal}
use Rattle.refusals.specs.declared.refusal.Refusal.TheVariants.{Memory, NoSuchEntry, NumberFull, Collision, Database}
use Rattle.part_store.specs.declared.error.StoreError.TheVariants as store
use Rattle.depot_actions.specs.Causes.{IsSpoilt}

-- an error of the store, as the refusal of its name
abbrev pub of_store : StoreError → Refusal
of_store store.Memory = Memory
of_store store.NoSuchEntry = NoSuchEntry
of_store store.NumberFull = NumberFull
of_store store.Collision = Collision
of_store store.Database = Database

-- why a stored program isn't used: memory is refused, or it no longer reads and verifies
pub record IsUnusable (program : Option (List ℕ)) (refusal : Refusal) : Type 0 where
  pub which : (refusal ≡ Memory) ⊎ (refusal ≡ Database)
  pub cause : refusal ≡ Database → IsSpoilt program
