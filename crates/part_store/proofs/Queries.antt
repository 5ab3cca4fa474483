-- What a query of the tables promises: whatever it asks, if only it is one that the tables answer.
use Rattle.std.proofs.Common.{◌≡◌, ◌⊎◌, ℕ, List, Vec, Result, Ok, Err, IsErrAnd, IfOk, IfErr, refl, sym, subst}
use Rattle.std.specs.Borrow.{MutBor}
use Rattle.std.specs.declared.alloc.Global.{Global}
use Rattle.sqlite_trees.specs.Tree.{Trees}
use Rattle.sqlite_trees.specs.declared.store.Store as store
use Rattle.sqlite_value.specs.Order.{Row}
use Rattle.sqlite.specs.Held.{Held, state}
use Rattle.sqlite.specs.State.{State, FailsToQuery, HasCleanDisk, IsTooLate, Shown, Survives}
use Rattle.sqlite.specs.declared.error.Error.{Error}
use Rattle.part_store.specs.Causes.{Faults}
use Rattle.part_store.specs.Changes.{Reads, Steps}
use Rattle.part_store.specs.Entries.{Entries}
use Rattle.part_store.specs.Private.{AsksTables, ReadsRows, TellsTables}
use Rattle.part_store.specs.Standing.{Stands}
use Rattle.part_store.specs.declared.error.StoreError.{StoreError}
use Rattle.part_store.specs.declared.error.StoreError.TheVariants.{Database}
use Rattle.part_store.proofs.Runs.{err_then, if_ok, on_ok, query_keeps, shown_open}

abbrev IsRefused : List ℕ → Row → State → State → Error → Type 0
IsRefused sql params old new e = FailsToQuery sql params old new e ⊎ IsTooLate sql params old new e

module _ {S : Type 0} (g : store.Ghosts S) (old new : MutBor (Held S)) (sql : List ℕ) (params : Row) (same : new.ghost_name ≡ old.ghost_name) (survives : Survives (state g old.now) (state g new.now) (λ _. ⊥)) where
  module _ {A : Type 0} (Finds : A → Trees → Type 0) where
    -- it was answered
    pub answered : (x : A) (rows : List Row) → (HasCleanDisk (state g new.now) → Shown sql params (state g old.now) (state g new.now) rows)
        → (Shown sql params (state g old.now) (state g new.now) rows → Steps (Reads (Finds x)) (state g old.now) (state g new.now)) → AsksTables g old new (Ok x) Finds
    answered x rows shown finds = record {
      same_reference = same;
      step = λ clean. finds (shown clean);
      was_open = λ clean. shown_open sql params (state g old.now) (state g new.now) rows (shown clean);
      kept = λ _. tt;
      fault = λ _. tt;
      survives = survives;
    }

    -- it was refused, and the refusal is passed on
    pub refused : ((e : Error) → IsRefused sql params (state g old.now) (state g new.now) e → Faults (state g old.now) (state g new.now) e) → (result : Result A Error) (e : Error) → IsErrAnd result (λ x. x ≡ e)
        → (HasCleanDisk (state g new.now) → IsRefused sql params (state g old.now) (state g new.now) e) → AsksTables g old new result Finds
    refused faults (Ok x) e is why = absurd is
    refused faults (Err x) e is why = record {
      same_reference = same;
      step = λ _. tt;
      was_open = λ _. tt;
      kept = λ clean. query_keeps sql params (state g old.now) (state g new.now) e (why clean);
      fault = λ clean. subst (Faults (state g old.now) (state g new.now)) (sym is) (faults e (why clean));
      survives = survives;
    }

  -- and where its rows are the answer
  pub asks : (Finds : Vec Row Global → Trees → Type 0) → ((rows : Vec Row Global) → Shown sql params (state g old.now) (state g new.now) rows.items → Steps (Reads (Finds rows)) (state g old.now) (state g new.now))
      → ((e : Error) → IsRefused sql params (state g old.now) (state g new.now) e → Faults (state g old.now) (state g new.now) e)
      → (result : Result (Vec Row Global) Error) → (HasCleanDisk (state g new.now) → IfOk result (λ rows. Shown sql params (state g old.now) (state g new.now) rows.items))
      → (HasCleanDisk (state g new.now) → IfErr result (IsRefused sql params (state g old.now) (state g new.now))) → AsksTables g old new result Finds
  asks Finds finds faults (Ok rows) shown why = answered Finds rows rows.items shown (finds rows)
  asks Finds finds faults (Err e) shown why = refused Finds faults (Err e) e refl why

-- what is told of the tables by reading the rows that were found
pub tells : {S A B : Type 0} (g : store.Ghosts S) (old new : MutBor (Held S)) (found : A) (Finds : A → Trees → Type 0) → AsksTables g old new (Ok found) Finds → (result : Result B StoreError) (Shown : B → Type 0) (Unread : Type 0) → ReadsRows result Shown Unread
    → (Is : Trees → Entries → B → Type 0) (Why : State → State → StoreError → Type 0)
    → (Steps (Reads (Finds found)) (state g old.now) (state g new.now) → (x : B) → Shown x → (before : Entries) → Stands (state g old.now).now before → Is (state g old.now).now.trees before x)
    → (Steps (Reads (Finds found)) (state g old.now) (state g new.now) → (e : StoreError) → (e ≡ Database → Unread) → Why (state g old.now) (state g new.now) e) → TellsTables g old new result Is Why
tells g old new found Finds asked result Shown Unread read Is Why is why = record {
  answer = λ clean. if_ok result _ _ (is (asked.step clean)) read.shown;
  refused = read.refused;
  cause = λ clean. err_then result _ _ (why (asked.step clean)) read.cause;
  within = record {
    same_reference = asked.same_reference;
    was_open = λ clean. on_ok result _ (λ _ _. asked.was_open clean);
    stays_closed = λ clean _. asked.was_open clean;
    same = λ clean. on_ok result _ (λ _ _ has. ((asked.step clean has).schema, (asked.step clean has).change.0));
    inside = λ clean. on_ok result _ (λ _ _ has. (asked.step clean has).inside);
    kept = λ clean has. record { was_open = λ _. (asked.step clean has).was_open; committed = λ _. (asked.step clean has).committed };
    survives = asked.survives;
  };
}
