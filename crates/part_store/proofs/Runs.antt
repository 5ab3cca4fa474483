-- What a statement in a transaction leaves, and what it was.
use Rattle.std.proofs.Common.{◌≡◌, ◌≢◌, ◌⊎◌, inl, inr, ℕ, Bool, true, false, ◌&&◌, List, [], ◌∷◌, Option, Some, None, Ok, Err, Result, refl, sym, ap, subst, ◌∙◌, IsTrue, slice_get, OnOk, IfOk, IfErr, IsErrAnd, not}
use Rattle.std.proofs.lemmas.Bool.{cases_Bool, false_from_ne_true}
use Rattle.std.specs.Borrow.{MutBor}
use Rattle.sqlite_trees.specs.declared.store.Store as store
use Rattle.sqlite_trees.specs.Tree.{Trees}
use Rattle.sqlite_value.specs.Order.{Row}
use Rattle.sqlite_value.specs.declared.keys.Key.{Key}
use Rattle.sqlite_sql.specs.Term.{Term}
use Rattle.sqlite_sql.specs.Query.{Query, IsAnswer}
use Rattle.sqlite_sql.specs.Program.{overlay}
use Rattle.sqlite_schema.specs.declared.command.Returning.{Returning}
use Rattle.sqlite_schema.specs.declared.command.Command.{Command}
use Rattle.sqlite_schema.specs.declared.command.Command.TheVariants.{Select}
use Rattle.sqlite_resolve.specs.declared.compiled.Compiled.{Compiled}
use Rattle.sqlite.specs.declared.error.Error.{Error}
use Rattle.sqlite.specs.declared.error.Error.TheVariants.{SqliteFailure}
use Rattle.sqlite.specs.declared.error.ErrorCode.TheVariants.{TransactionState}
use Rattle.sqlite.specs.Effect.{Database, IsDatabase}
use Rattle.sqlite.specs.Listing.{understood}
use Rattle.sqlite.specs.Held.{Held, state}
use Rattle.sqlite.specs.State.{State, HasCleanDisk, KeepsCommit, IsUnchanged, IsRolledBack, IsNotRun, ExecutesInside, FailsToQuery, FailsToShow, IsTooLate, Shown, ShowsRows, Runs, Survives}
use Rattle.sqlite.proofs.Callers.{IsPlain, statement_of, runs_as, reads_as}
use Rattle.part_store.specs.Tables.{store_schema}
use Rattle.part_store.specs.Changes.{Steps, Reads, IsFound, IsTaken}
use Rattle.part_store.specs.Private.{MakesTables, WritesTables}
use Rattle.part_store.proofs.Meaning.{Means, picked, alone}
use Rattle.part_store.proofs.Writes.{filter_same}
use Rattle.part_store.proofs.Rows.{passes, shown, answer_from, answer_has}

-- ---- the last commit stays

unchanged_keeps : (old new : State) → IsUnchanged old new → KeepsCommit old new
unchanged_keeps old new h = record { was_open = λ _. h.0.was_open; committed = λ _. h.0.committed_is }

rolled_keeps : (old new : State) → IsRolledBack old new → KeepsCommit old new
rolled_keeps old new h = record { was_open = h.was_open; committed = λ is. (h.undone is).1 }

either_keeps : (old new : State) → IsUnchanged old new ⊎ IsRolledBack old new → KeepsCommit old new
either_keeps old new (inl h) = unchanged_keeps old new h
either_keeps old new (inr h) = rolled_keeps old new h

execute_keeps : (sql : List ℕ) (params : Row) (old new : State) (r : Result ℕ Error) → ExecutesInside 0 sql params old new r → KeepsCommit old new
execute_keeps sql params old new (Ok count) h = record { was_open = λ _. h.1.was_open; committed = λ _. h.1.committed_is }
execute_keeps sql params old new (Err e) (inl h) = either_keeps old new h.1
execute_keeps sql params old new (Err e) (inr h) = unchanged_keeps old new h.2

not_run : (sql : List ℕ) (params : Row) (old new : State) (e : Error) → IsNotRun old new sql params e → IsUnchanged old new ⊎ IsRolledBack old new
unfolding IsNotRun
not_run sql params old new e (inl h) = inl h.1
not_run sql params old new e (inr h) = inr h.3

show_fails : (sql : List ℕ) (params : Row) (old new : State) (c : Compiled) (e : Error) (returning : Option Returning) → FailsToShow old new sql c params e returning → IsUnchanged old new ⊎ IsRolledBack old new
show_fails sql params old new c e None h = inl h.3
show_fails sql params old new c e (Some what) (inl h) = inl h.1
show_fails sql params old new c e (Some what) (inr h) = inr h.3

pub query_keeps : (sql : List ℕ) (params : Row) (old new : State) (e : Error) → FailsToQuery sql params old new e ⊎ IsTooLate sql params old new e → KeepsCommit old new
unfolding FailsToQuery
query_keeps sql params old new e (inl (inl h)) = either_keeps old new (not_run sql params old new e h)
query_keeps sql params old new e (inl (inr h)) = either_keeps old new (show_fails sql _ old new h.0 e h.0.returning h.2)
query_keeps sql params old new e (inr h) = unchanged_keeps old new h.5

shows_open : (sql : List ℕ) (params : Row) (old new : State) (c : Compiled) (rows : List Row) (returning : Option Returning) → ShowsRows old new sql c params rows returning → IsTrue old.is_open
shows_open sql params old new c rows None h = h.3.0.was_open
shows_open sql params old new c rows (Some what) h = h.1.shown.was_open

-- what a query shows, it shows of an open connection
pub shown_open : (sql : List ℕ) (params : Row) (old new : State) (rows : List Row) → Shown sql params old new rows → IsTrue old.is_open
unfolding Shown
shown_open sql params old new rows (c, it, shows) = shows_open sql _ old new c rows c.returning shows

pub stays : (s : State) → KeepsCommit s s
stays s = record { was_open = λ h. h; committed = λ _. refl }

pub on_ok : {B E : Type 0} (r : Result B E) (P : Type 0) → ((b : B) → r ≡ Ok b → P) → OnOk r P
on_ok (Ok b) P f = f b refl
on_ok (Err e) P f = tt

pub failed_in : {B E : Type 0} (r : Result B E) (P : E → Type 0) → ((e : E) → r ≡ Err e → P e) → IfErr r P
failed_in (Ok b) P f = tt
failed_in (Err e) P f = f e refl

module _ {S : Type 0} (g : store.Ghosts S) (old new : Held S) (sql : List ℕ) (params : Row) (r : Result ℕ Error)
    (ended : (state g old).in_transaction ≡ false → (r ≡ Err (SqliteFailure TransactionState)) × (new ≡ old))
    (runs : HasCleanDisk (state g new) → IsTrue (state g old).in_transaction → ExecutesInside 0 sql params (state g old) (state g new) r) (clean : HasCleanDisk (state g new)) where
  pub execute_kept : KeepsCommit (state g old) (state g new)
  execute_kept = elim (cases_Bool (state g old).in_transaction) [
    | inl on ↦ execute_keeps sql params (state g old) (state g new) r (runs clean on)
    | inr off ↦ subst (λ h. KeepsCommit (state g old) (state g h)) (sym (ended off).1) (stays (state g old))
  ]

  pub executed : (count : ℕ) → r ≡ Ok count → ExecutesInside 0 sql params (state g old) (state g new) (Ok count)
  executed count is = elim (cases_Bool (state g old).in_transaction) [
    | inl on ↦ subst (ExecutesInside 0 sql params (state g old) (state g new)) is (runs clean on)
    | inr off ↦ absurd (let e = sym is ∙ (ended off).0 in cc)
  ]

  -- what else is refused is so in a transaction
  pub refused_inside : (e : Error) → e ≢ SqliteFailure TransactionState → r ≡ Err e → IsTrue (state g old).in_transaction
  refused_inside e other is = elim (cases_Bool (state g old).in_transaction) [
    | inl on ↦ on
    | inr off ↦ absurd (other (let same = sym is ∙ (ended off).0 in cc))
  ]

  pub refused_with : (e : Error) → e ≢ SqliteFailure TransactionState → r ≡ Err e → ExecutesInside 0 sql params (state g old) (state g new) (Err e)
  refused_with e other is = subst (ExecutesInside 0 sql params (state g old) (state g new)) is (runs clean (refused_inside e other is))

-- what a statement that writes promises
module _ {S : Type 0} (g : store.Ghosts S) (old new : MutBor (Held S)) (sql : List ℕ) (params : Row) (r : Result ℕ Error) (same : new.ghost_name ≡ old.ghost_name)
    (ended : (state g old.now).in_transaction ≡ false → (r ≡ Err (SqliteFailure TransactionState)) × (new.now ≡ old.now))
    (runs : HasCleanDisk (state g new.now) → IsTrue (state g old.now).in_transaction → ExecutesInside 0 sql params (state g old.now) (state g new.now) r)
    (survives : Survives (state g old.now) (state g new.now) (λ _. ⊥)) (Changes : State → State → Type 0)
    (changes : (count : ℕ) → ExecutesInside 0 sql params (state g old.now) (state g new.now) (Ok count) → Changes (state g old.now) (state g new.now)) where
  pub makes : MakesTables g old new r Changes
  makes = record {
    same_reference = same;
    step = λ clean. on_ok r _ (λ count is. changes count (executed g old.now new.now sql params r ended runs clean count is));
    was_open = λ clean. on_ok r _ (λ count is. (executed g old.now new.now sql params r ended runs clean count is).1.was_open);
    inside = λ clean. on_ok r _ (λ count is. (executed g old.now new.now sql params r ended runs clean count is).1.mode);
    kept = execute_kept g old.now new.now sql params r ended runs;
    survives = survives;
  }

  pub writes : (Why : State → State → Error → Type 0) → ((e : Error) → (IsTrue (state g old.now).in_transaction → ExecutesInside 0 sql params (state g old.now) (state g new.now) (Err e)) → Why (state g old.now) (state g new.now) e)
      → WritesTables g old new r Changes Why
  writes Why why = record {
    same_reference = same;
    step = makes.step;
    inside = makes.inside;
    kept = makes.kept;
    fault = λ clean. failed_in r _ (λ e is. why e (λ inside. subst (ExecutesInside 0 sql params (state g old.now) (state g new.now)) is (runs clean inside)));
    survives = survives;
  }

-- what the command does, where the tables are those of the store
pub ran_as : (sql : List ℕ) (params : Row) (old new : State) (command : Command) (count : ℕ) → Means store_schema sql command → ExecutesInside 0 sql params old new (Ok count) → old.now.schema ≡ store_schema
    → Runs old new None command (statement_of sql (understood store_schema sql)) params count
ran_as sql params old new command count means h has = runs_as sql params old new store_schema has command means.0 means.1 count h.0

pub stepped : (sql : List ℕ) (params : Row) (old new : State) (count : ℕ) (Change : Trees → Trees → Type 0) → ExecutesInside 0 sql params old new (Ok count)
    → (old.now.schema ≡ store_schema → IsDatabase new.now) → (old.now.schema ≡ store_schema → (new.now.schema ≡ store_schema) × Change old.now.trees new.now.trees) → Steps Change old new
stepped sql params old new count Change h sound change has =
    let made = change has in
    record { was_open = h.1.was_open; is_open = h.1.is_open; committed = h.1.committed_is; inside = λ _. h.1.mode; schema = made.0; listed = λ _. sound has; change = made.1 }

-- ---- what is read

shown_same : (sql : List ℕ) (old new : State) (c : Compiled) (params : Row) (rows : List Row) (returning : Option Returning) → returning ≡ None → ShowsRows old new sql c params rows returning → IsUnchanged old new
shown_same sql old new c params rows None is h = h.3
shown_same sql old new c params rows (Some what) is h = absurd (cc)

plain_none : (r : Result Compiled _) (c : Compiled) → r ≡ Ok c → IsPlain r → c.returning ≡ None
plain_none r c is plain = (subst IsPlain is plain).0

module _ (sql : List ℕ) (params : Row) (old new : State) (query : Query) (names : List (List ℕ)) (means : Means store_schema sql (Select (alone query) names)) (rows : List Row) (h : Shown sql params old new rows) where
  pub shown_answer : old.now.schema ≡ store_schema → IsAnswer query (overlay old.now.trees []) params rows
  shown_answer has = (reads_as sql params old new store_schema has (Select (alone query) names) means.0 means.1 means.2 rows h).answer _

  pub read : (Finding : Trees → Type 0) → (IsAnswer query (overlay old.now.trees []) params rows → Finding old.now.trees) → Steps (Reads Finding) old new
  unfolding Shown
  read Finding find has =
      let same = shown_same sql old new h.0 _ rows h.0.returning (plain_none _ h.0 h.1.is (subst (λ s. IsPlain (understood s sql)) (sym has) means.1)) h.2 in
      record {
        was_open = same.0.was_open;
        is_open = same.0.is_open;
        committed = same.0.committed_is;
        inside = λ h. same.0.mode ∙ h;
        schema = ap (λ (d : Database). d.schema) same.0.now_is ∙ has;
        listed = subst IsDatabase (sym same.0.now_is);
        change = (ap (λ (d : Database). d.trees) same.0.now_is, find (shown_answer has));
      }

pub and_true : (b : Bool) → (b && true) ≡ b
and_true true = refl
and_true false = refl

-- the first row of an answer
module _ (tree : ℕ) (tests shows : List Term) (order : List (Term × Key)) (db : Trees) (params : Row) where
  pub found : (rows : List Row) → IsAnswer (picked tree tests shows order) (overlay db []) params rows
      → IsFound tree (passes tree tests shows order db params) (shown tree tests shows order db params) db (slice_get rows 0)
  found [] a = λ r h. false_from_ne_true _ (λ is. answer_has tree tests shows order db params [] r a h is)
  found (row ∷ rows) a = answer_from tree tests shows order db params (row ∷ rows) row a (inl refl)

pub found_as : (tree : ℕ) (test test2 : Row → Bool) (show show2 : Row → Row) (db : Trees) (o : Option Row) → ((r : Row) → test r ≡ test2 r) → ((r : Row) → show r ≡ show2 r) → IsFound tree test show db o → IsFound tree test2 show2 db o
found_as tree test test2 show show2 db None same looks h = λ r there. sym (same r) ∙ h r there
found_as tree test test2 show show2 db (Some row) same looks h = (h.0, h.1, sym (same h.0) ∙ h.2, h.3 ∙ looks h.0)

pub taken_as : (tree : ℕ) (test test2 : Row → Bool) (old new : Trees) → ((r : Row) → test r ≡ test2 r) → IsTaken tree test old new → IsTaken tree test2 old new
taken_as tree test test2 old new same h = record { rows = λ up keyed. h.rows up keyed ∙ filter_same _ _ (old tree) (λ r _. ap not (same r)); others = h.others }

pub if_ok : {B E : Type 0} (r : Result B E) (P Q : B → Type 0) → ((b : B) → P b → Q b) → IfOk r P → IfOk r Q
if_ok (Ok b) P Q f h = f b h
if_ok (Err e) P Q f h = tt

pub on_ok_then : {B E : Type 0} (r : Result B E) (P Q : Type 0) → (P → Q) → OnOk r P → OnOk r Q
on_ok_then (Ok b) P Q f h = f h
on_ok_then (Err e) P Q f h = tt

pub err_then : {B E : Type 0} (r : Result B E) (P Q : E → Type 0) → ((e : E) → P e → Q e) → IfErr r P → IfErr r Q
err_then (Ok b) P Q f h = tt
err_then (Err e) P Q f h = f e h

-- an error that `?` passes on
pub passed : {B E : Type 0} (r : Result B E) (given : E) (P : E → Type 0) → IsErrAnd r (λ e. e ≡ given) → P given → IfErr r P
passed (Ok b) given P h holds = tt
passed (Err e) given P h holds = subst P (sym h) holds
