-- Private: what is said of errors of the database, by the refusals that they become.
use Rattle.std.specs.Prelude.{IsTrue}
use Rattle.sqlite.specs.State.{State}
use Rattle.sqlite.specs.declared.error.Error.{Error}
use Rattle.part_store.specs.Refusals.{refusal_of}
use Rattle.part_store.specs.declared.error.StoreError.{StoreError}

-- what is said of the refusal that an error of the database becomes
abbrev pub AsRefusal : (State → State → StoreError → Type 0) → State → State → Error → Type 0
AsRefusal Is old new e = Is old new (refusal_of e)

-- the same in a transaction
abbrev pub AsRefusalInside : (State → State → StoreError → Type 0) → State → State → Error → Type 0
AsRefusalInside Is old new e = IsTrue old.in_transaction → Is old new (refusal_of e)
