-- How a call's promises speak of the store before it and after it.
use Rattle.std.specs.Prelude.{◌≡◌, Result, IsTrue, IfOk, IfErr, OnOk, OnErr}
use Rattle.sqlite_trees.specs.declared.store.Store.{Ghosts}
use Rattle.sqlite_trees.specs.Tree.{Trees}
use Rattle.sqlite.specs.Held.{Held, state}
use Rattle.sqlite.specs.State.{State, HasCleanDisk, Survives}
use Rattle.part_store.specs.Entries.{Entries}
use Rattle.part_store.specs.Standing.{Stands}

-- ---- what is said of a state and the one after it

abbrev pub WasOpen : State → State → Type 0
WasOpen old new = IsTrue old.is_open

-- what is shut stays shut
abbrev pub StaysClosed : State → State → Type 0
StaysClosed old new = IsTrue new.is_open → IsTrue old.is_open

-- an open store shows what is committed
abbrev pub Settles : State → State → Type 0
Settles old new = IsTrue new.is_open → new.committed ≡ new.now

-- ---- what a call promises

-- What a call leaves, and what a crash may leave, is promised only where the disk has returned what was written.
module _ {S : Type 0} (g : Ghosts S) (old new : Held S) where
  -- whatever it answers
  abbrev pub Always : (State → State → Type 0) → Type 0
  Always Is = HasCleanDisk (state g new) → Is (state g old) (state g new)

  module _ {A E : Type 0} (result : Result A E) where
    -- where it is done
    abbrev pub OnDone : (State → State → Type 0) → Type 0
    OnDone Is = HasCleanDisk (state g new) → OnOk result (Is (state g old) (state g new))

    -- the same of its answer
    abbrev pub IfDone : (A → State → State → Type 0) → Type 0
    IfDone Is = HasCleanDisk (state g new) → IfOk result (λ x. Is x (state g old) (state g new))

    -- where it is refused
    abbrev pub OnRefused : (State → State → Type 0) → Type 0
    OnRefused Is = HasCleanDisk (state g new) → OnErr result (Is (state g old) (state g new))

    -- the same of its refusal
    abbrev pub IfRefused : (State → State → E → Type 0) → Type 0
    IfRefused Is = HasCleanDisk (state g new) → IfErr result (λ e. Is (state g old) (state g new) e)

    -- its answer is so of the state that the tables stood for
    abbrev pub Tells : (Entries → A → Type 0) → Type 0
    Tells Is = HasCleanDisk (state g new)
        → IfOk result (λ x. (before : Entries) → Stands (state g old).now before → Is before x)

    -- it is done only where that state is so
    abbrev pub DoneWhere : (Entries → Type 0) → Type 0
    DoneWhere Is = HasCleanDisk (state g new)
        → OnOk result ((before : Entries) → Stands (state g old).now before → Is before)

    -- and this refusal is told only where it is
    abbrev pub RefusedWhere : E → (Entries → Type 0) → Type 0
    RefusedWhere why Is = HasCleanDisk (state g new)
        → IfErr result (λ e. e ≡ why → (before : Entries) → Stands (state g old).now before → Is before)

  -- a crash leaves what it could leave before, or this
  abbrev pub MayCommit : (State → Trees → Type 0) → Type 0
  MayCommit Commits = Survives (state g old) (state g new) (λ trees. Commits (state g old) trees)

  -- or nothing else
  abbrev pub CommitsNothing : Type 0
  CommitsNothing = Survives (state g old) (state g new) (λ _. ⊥)
