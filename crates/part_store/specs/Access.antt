-- What a call does with the store, beside what it tells or makes.
use Rattle.std.specs.Prelude.{◌≡◌, ◌⊎◌, ◌+◌, ℕ, List, Result, IsTrue, IfErr, length, map}
use Rattle.sqlite_trees.specs.declared.store.Store.{Ghosts}
use Rattle.sqlite_trees.specs.Tree.{Trees}
use Rattle.sqlite.specs.Held.{Held}
use Rattle.sqlite.specs.State.{State}
use Rattle.part_store.specs.Calls.{Always, CommitsNothing, DoneWhere, IfRefused, MayCommit, OnDone, OnRefused, RefusedWhere, Settles, StaysClosed, Tells, WasOpen}
use Rattle.part_store.specs.Entries.{Entries}
use Rattle.part_store.specs.Filing.{Collides, HasRoom}
use Rattle.part_store.specs.Inside.{KeepsStored}
use Rattle.part_store.specs.Standing.{Makes, MayMake, LeavesUnchanged, Stands, draft_of}
use Rattle.part_store.specs.declared.entry.NewEntry.{NewEntry}
use Rattle.part_store.specs.declared.error.StoreError.{StoreError}
use Rattle.part_store.specs.declared.error.StoreError.TheVariants.{Memory, NoSuchEntry, NumberFull, Collision, Database}

-- ---- what a call may be refused for

abbrev pub IsFailure : StoreError → Type 0
IsFailure e = (e ≡ Memory) ⊎ (e ≡ Database)

-- also of an entry that isn't there
abbrev pub IsFailureOrAbsence : StoreError → Type 0
IsFailureOrAbsence e = (e ≡ Memory) ⊎ ((e ≡ NoSuchEntry) ⊎ (e ≡ Database))

-- also of entries that can't be added
abbrev pub IsFailureOrObstacle : StoreError → Type 0
IsFailureOrObstacle e = (e ≡ Memory) ⊎ ((e ≡ NumberFull) ⊎ ((e ≡ Collision) ⊎ (e ≡ Database)))

-- it is refused for one of these alone, and where it is, this says why
pub record IsRefusedAs {S : Type 0} (g : Ghosts S) (old new : Held S) {A E : Type 0} (result : Result A E) (May : E → Type 0) (Why : State → State → E → Type 0) : Type 0 where
  pub which : IfErr result May
  pub cause : IfRefused g old new result Why

-- ---- what it does with the store

-- It reads an open store. Nothing has changed, whatever it answers, and an open store shows what is committed.
pub record ReadsStore {S : Type 0} (g : Ghosts S) (old new : Held S) {A E : Type 0} (result : Result A E) : Type 0 where
  pub was_open : OnDone g old new result WasOpen
  pub unchanged : Always g old new LeavesUnchanged
  pub settled : Always g old new Settles
  pub survives : CommitsNothing g old new

-- It makes the change of an open store and commits it, or changes nothing. A crash leaves what was, or what `Commits` says.
pub record WritesStore {S : Type 0} (g : Ghosts S) (old new : Held S) {A E : Type 0} (result : Result A E) (change : Entries → Entries) (Commits : State → Trees → Type 0) : Type 0 where
  pub made : OnDone g old new result (Makes change)
  pub unchanged : OnRefused g old new result LeavesUnchanged
  pub survives : MayCommit g old new Commits

-- what is made of an open store
abbrev pub MayMakeOpen : (Entries → Entries) → State → Trees → Type 0
MayMakeOpen change old trees = IsTrue old.is_open × MayMake change old trees

-- Within a transaction it works on an open store, and commits nothing. What a failure has shut stays shut.
pub record InTransaction {S : Type 0} (g : Ghosts S) (old new : Held S) {A E : Type 0} (result : Result A E) : Type 0 where
  pub was_open : OnDone g old new result WasOpen
  pub stays_closed : Always g old new StaysClosed
  pub kept : Always g old new KeepsStored
  pub survives : CommitsNothing g old new

-- ---- adding entries

-- The entries got the user's next numbers, of which the first is answered; or his numbers don't
-- suffice, or else one collides. A store that a failure has shut tells neither.
pub record AddsEntries {S : Type 0} (g : Ghosts S) (old new : Held S) (result : Result ℕ StoreError) (user : List ℕ) (entries : List NewEntry) : Type 0 where
  pub first : Tells g old new result (λ before first. first ≡ before.lasts user + 1)
  pub room : DoneWhere g old new result (λ before. HasRoom before user (length entries))
  pub apart : OnDone g old new result (λ old _. (before : Entries) → Stands old.now before → Collides old.now.trees (map draft_of entries) → ⊥)
  pub full : RefusedWhere g old new result NumberFull (λ before. HasRoom before user (length entries) → ⊥)
  pub collision : IfRefused g old new result (λ old _ e. e ≡ Collision → (before : Entries) → Stands old.now before
      → HasRoom before user (length entries) × Collides old.now.trees (map draft_of entries))
  pub was_open : OnDone g old new result WasOpen
  pub begun : IfRefused g old new result (λ old _ e. (e ≡ NumberFull) ⊎ (e ≡ Collision) → IsTrue old.is_open)
  pub stays_closed : Always g old new StaysClosed
