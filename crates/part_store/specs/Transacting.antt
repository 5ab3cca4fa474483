-- What becomes of work that is done in a transaction of its own.
use Rattle.std.specs.Prelude.{◌≡◌, Err, IsTrue, Ok, Result, false, true}
use Rattle.sqlite_trees.specs.declared.store.Store.{Ghosts}
use Rattle.sqlite.specs.Held.{Held, state}
use Rattle.sqlite.specs.State.{HasCleanDisk, IsRolledBack, Shows, Survives}
use Rattle.sqlite.specs.Steps.{FailsToCommit}
use Rattle.sqlite.specs.declared.error.Error.{Error}
use Rattle.part_store.specs.Refusals.{refusal_of}
use Rattle.part_store.specs.declared.within.Undone.{Undone}
use Rattle.part_store.specs.declared.within.Undone.TheVariants.{Refused, Uncommitted}

module _ {S : Type 0} (g : Ghosts S) (mid new : Held S) {A E : Type 0} where
  -- The work gave this, and its transaction is committed: what it showed is now the store. Or the commit failed.
  abbrev pub IsCommitted : A → Result A (Undone E) → Type 0
  IsCommitted given (Ok x) = (x ≡ given)
      × (HasCleanDisk (state g new) → Shows (state g mid) (state g new) (state g mid).now (state g mid).now false)
  IsCommitted given (Err (Refused e)) = ⊥
  IsCommitted given (Err (Uncommitted told)) = (error : Error) × (told ≡ refusal_of error)
      × (HasCleanDisk (state g new) → FailsToCommit (state g mid) (state g new) error)

  -- what is left of a transaction after work with this result: it is committed, or else rolled back
  abbrev pub Ends : Result A E → Result A (Undone E) → Type 0
  Ends (Ok given) result = IsCommitted given result
      × Survives (state g mid) (state g new) (λ trees. trees ≡ (state g mid).now.trees)
  Ends (Err e) result = (result ≡ Err (Refused e))
      × (HasCleanDisk (state g new) → IsRolledBack (state g mid) (state g new))
      × Survives (state g mid) (state g new) (λ _. ⊥)

-- The work is done in a transaction, which is then committed or rolled back. An open store shows what is committed as it begins.
pub record Transacts {S : Type 0} (g : Ghosts S) (old new : Held S) {A E : Type 0} (result : Result A (Undone E)) (Does : Held S → Held S → Result A E → Type 0) : Type 0 where
  -- what the work left, and its result
  pub mid : Held S
  pub given : Result A E
  pub does : Does (record old { in_transaction = true }) mid given
  pub settled : IsTrue (state g old).is_open → (state g old).now ≡ (state g old).committed
  pub ends : Ends g mid new given result
