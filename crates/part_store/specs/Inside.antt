-- What is said of a call within a transaction.
use Rattle.std.specs.Prelude.{◌≡◌, IsTrue}
use Rattle.sqlite.specs.State.{State, KeepsCommit}
use Rattle.part_store.specs.Entries.{Entries}
use Rattle.part_store.specs.Standing.{AddsVerified, Stands}
use Rattle.part_store.specs.Tables.{store_schema}
use Rattle.part_store.specs.declared.error.StoreError.{StoreError}

-- the transaction is open
abbrev pub IsInside : State → State → Type 0
IsInside old new = IsTrue new.in_transaction

-- where there are the three tables, a transaction that was open is so still
abbrev pub StaysInside : State → State → Type 0
StaysInside old new = old.now.schema ≡ store_schema → IsTrue old.in_transaction → IsTrue new.in_transaction

-- the three tables are still those
abbrev pub KeepsTables : State → State → Type 0
KeepsTables old new = old.now.schema ≡ store_schema → new.now.schema ≡ store_schema

-- where there are the three tables, nothing is committed
abbrev pub KeepsStored : State → State → Type 0
KeepsStored old new = old.now.schema ≡ store_schema → KeepsCommit old new

-- within a transaction: what the tables stand for has changed so, and nothing is committed
abbrev pub Brings : (Entries → Entries) → State → State → Type 0
Brings change old new = (before : Entries) → Stands old.now before
    → Stands new.now (change before) × (new.committed ≡ old.committed) × AddsVerified old.now.trees new.now.trees

-- in a transaction: the tables are read, and stay as they are
abbrev pub Stays : State → State → Type 0
Stays old new = old.now.schema ≡ store_schema → (new.now.schema ≡ store_schema) × (new.now.trees ≡ old.now.trees)

-- of what is refused in a transaction
abbrev pub IfInside : (State → State → StoreError → Type 0) → State → State → StoreError → Type 0
IfInside Is old new e = IsTrue old.in_transaction → Is old new e
