-- Private: what is promised of a function within a transaction, which is on the same connection after it.
use Rattle.std.specs.Prelude.{◌≡◌, Result, IfOk, IfErr}
use Rattle.std.specs.Borrow.{MutBor}
use Rattle.sqlite_trees.specs.declared.store.Store.{Ghosts}
use Rattle.sqlite_trees.specs.Tree.{Trees}
use Rattle.sqlite.specs.Held.{Held}
use Rattle.sqlite.specs.State.{State, KeepsCommit}
use Rattle.sqlite.specs.declared.error.Error.{Error}
use Rattle.part_store.specs.Access.{IsFailure}
use Rattle.part_store.specs.Blaming.{AsRefusalInside}
use Rattle.part_store.specs.Calls.{Always, CommitsNothing, IfDone, IfRefused, OnDone, OnRefused, StaysClosed, WasOpen}
use Rattle.part_store.specs.Causes.{Faults, RisesFrom}
use Rattle.part_store.specs.Changes.{Reads, Steps}
use Rattle.part_store.specs.Entries.{Entries}
use Rattle.part_store.specs.Inside.{Brings, IsInside, KeepsStored, KeepsTables, Stays, StaysInside}
use Rattle.part_store.specs.Standing.{Stands}
use Rattle.part_store.specs.Tables.{users_tree}
use Rattle.part_store.specs.declared.error.StoreError.{StoreError}
use Rattle.part_store.specs.declared.error.StoreError.TheVariants.{Database}

-- What is read of the rows of an answer is so. `Database` is told only where this holds.
pub record ReadsRows {A : Type 0} (result : Result A StoreError) (Is : A → Type 0) (Why : Type 0) : Type 0 where
  pub shown : IfOk result Is
  pub refused : IfErr result IsFailure
  pub cause : IfErr result (λ e. e ≡ Database → Why)

module _ {S : Type 0} (g : Ghosts S) (old new : MutBor (Held S)) where
  -- ---- one statement

  module _ {A : Type 0} (result : Result A Error) where
    -- It is asked of an open store and commits nothing. Where there are the three tables, they stay as they are, it
    -- finds what is so of them, and is refused by the database alone.
    pub record AsksTables (Finds : A → Trees → Type 0) : Type 0 where
      pub same_reference : new.ghost_name ≡ old.ghost_name
      pub step : IfDone g old.now new.now result (λ found. Steps (Reads (Finds found)))
      pub was_open : OnDone g old.now new.now result WasOpen
      pub kept : OnRefused g old.now new.now result KeepsCommit
      pub fault : IfRefused g old.now new.now result Faults
      pub survives : CommitsNothing g old.now new.now

    -- It makes this change in a transaction that goes on, and commits nothing. It is refused only where this holds.
    pub record WritesTables (Changes : State → State → Type 0) (Why : State → State → Error → Type 0) : Type 0 where
      pub same_reference : new.ghost_name ≡ old.ghost_name
      pub step : OnDone g old.now new.now result Changes
      pub inside : OnDone g old.now new.now result IsInside
      pub kept : Always g old.now new.now KeepsCommit
      pub fault : IfRefused g old.now new.now result Why
      pub survives : CommitsNothing g old.now new.now

    -- It makes tables so in an open database, in a transaction that goes on, and commits nothing.
    pub record MakesTables (Changes : State → State → Type 0) : Type 0 where
      pub same_reference : new.ghost_name ≡ old.ghost_name
      pub step : OnDone g old.now new.now result Changes
      pub was_open : OnDone g old.now new.now result WasOpen
      pub inside : OnDone g old.now new.now result IsInside
      pub kept : Always g old.now new.now KeepsCommit
      pub survives : CommitsNothing g old.now new.now

  -- ---- several statements

  module _ {A E : Type 0} (result : Result A E) where
    -- Where there are the three tables, they are still those, and it commits nothing.
    pub record KeepsInside : Type 0 where
      pub same_reference : new.ghost_name ≡ old.ghost_name
      pub schema : OnDone g old.now new.now result KeepsTables
      pub kept : Always g old.now new.now KeepsStored
      pub survives : CommitsNothing g old.now new.now

    -- It works on an open store, and commits nothing. What a failure has shut stays shut.
    pub record WorksInside : Type 0 where
      pub same_reference : new.ghost_name ≡ old.ghost_name
      pub was_open : OnDone g old.now new.now result WasOpen
      pub stays_closed : Always g old.now new.now StaysClosed
      pub kept : Always g old.now new.now KeepsStored
      pub survives : CommitsNothing g old.now new.now

    -- The same, and where there are the three tables, they stay as they are, and the transaction goes on.
    pub record ReadsInside : Type 0 where
      pub same_reference : new.ghost_name ≡ old.ghost_name
      pub was_open : OnDone g old.now new.now result WasOpen
      pub stays_closed : Always g old.now new.now StaysClosed
      pub same : OnDone g old.now new.now result Stays
      pub inside : OnDone g old.now new.now result StaysInside
      pub kept : Always g old.now new.now KeepsStored
      pub survives : CommitsNothing g old.now new.now

  -- It tells this of the tables and of what they stand for. It is refused only where this holds.
  pub record TellsTables {A : Type 0} (result : Result A StoreError) (Is : Trees → Entries → A → Type 0) (Why : State → State → StoreError → Type 0) : Type 0 where
    pub answer : IfDone g old.now new.now result (λ x old _. (before : Entries) → Stands old.now before → Is old.now.trees before x)
    pub refused : IfErr result IsFailure
    pub cause : IfRefused g old.now new.now result Why
    pub within : ReadsInside result

  -- It changes the row of one user, and so what the tables stand for. It is refused only where this holds.
  pub record PutsUser {A : Type 0} (result : Result A Error) (change : Entries → Entries) (Inside : State → State → Type 0) (Why : State → State → StoreError → Type 0) : Type 0 where
    pub step : OnDone g old.now new.now result (Brings change)
    pub inside : OnDone g old.now new.now result Inside
    pub schema : OnDone g old.now new.now result KeepsTables
    pub cause : IfRefused g old.now new.now result (AsRefusalInside Why)
    pub rowids : OnDone g old.now new.now result (λ old new. (before : Entries) → Stands old.now before
        → RisesFrom 1 (old.now.trees users_tree) (new.now.trees users_tree))
    pub within : WorksInside result
