-- Where an INSERT or a DELETE stops.
use Rattle.std.proofs.Common.{◌≡◌, ◌⊎◌, inl, inr, ℕ, zero, suc, Bool, true, false, MatchBool, IfSome, List, [], ◌∷◌, length, append-nil, length-append, Option, Some, None, Ok, Err, Result, refl, sym, ap, subst, ◌∙◌, arith}
use Rattle.sqlite_value.specs.Order.{Row}
use Rattle.sqlite_trees.specs.declared.error.StoreError.{StoreError as Cause}
use Rattle.sqlite_trees.specs.declared.error.StoreError.TheVariants.{OutOfMemory}
use Rattle.sqlite_trees.specs.Tree.{Trees}
use Rattle.sqlite_schema.specs.declared.schema.Keys.TheVariants.{Enforced}
use Rattle.sqlite_schema.specs.declared.command.Source.{Source}
use Rattle.sqlite_schema.specs.declared.command.Command.{Command}
use Rattle.sqlite_schema.specs.declared.command.Command.TheVariants.{Insert, Update, Delete, Begin, Commit, Rollback, Release, RollbackTo}
use Rattle.sqlite_schema.specs.declared.program.Program.{Program}
use Rattle.sqlite_resolve.specs.declared.compiled.Compiled.{Compiled}
use Rattle.sqlite_rules.specs.declared.error.Refusal.{Refusal}
use Rattle.sqlite_rules.specs.Lists.{Has}
use Rattle.sqlite_rules.specs.Edit.{Edit, IsRefused, IsOversized, taken_by}
use Rattle.sqlite_rules.specs.Action.{Leads, Writes}
use Rattle.sqlite.specs.declared.error.Error.{Error}
use Rattle.sqlite.specs.declared.run.Mode.{Mode}
use Rattle.sqlite.specs.Clock.{timed}
use Rattle.sqlite.specs.Does.{Does}
use Rattle.sqlite.specs.Effect.{is_query}
use Rattle.sqlite.specs.Listing.{understood}
use Rattle.sqlite.specs.State.{State, mode_of, is_pragma, shows_rows, store_error, text_of, IsNotRun, IsStatement, IsUnchanged, IsMisplaced, ExecutesIn, ExecutesInside, EndsScope, Escapes, RunsAlone}
use Rattle.sqlite.proofs.Callers.{IsPlain, command_of}
use Rattle.part_store.specs.Refusals.{refusal_of, HasFailed}
use Rattle.part_store.specs.Causes.{still_named}
use Rattle.part_store.specs.Tables.{store_schema}
use Rattle.part_store.specs.declared.error.StoreError.TheVariants.{Database as refused}
use Rattle.part_store.proofs.Faults.{IsAsked, failed, not_run_failed}
use Rattle.part_store.proofs.Writes.{no_works}

-- a command that writes rows: it shows none, and ends no transaction
pub record IsRowWrite (command : Command) : Type 0 where
  pub query : is_query command ≡ false
  pub pragma : is_pragma command ≡ false
  pub begin : command ≡ Begin → ⊥
  pub commit : command ≡ Commit → ⊥
  pub rollback : command ≡ Rollback → ⊥
  pub release : (name : List ℕ) → command ≡ Release name → ⊥
  pub back : (name : List ℕ) → command ≡ RollbackTo name → ⊥

pub insert_writes : (at : ℕ) (from : Source) → IsRowWrite (Insert at from)
insert_writes at from = record { query = refl; pragma = refl; begin = λ h. cc; commit = λ h. cc; rollback = λ h. cc; release = λ name h. cc; back = λ name h. cc }

pub delete_writes : (at : ℕ) (q : Program) → IsRowWrite (Delete at q)
delete_writes at q = record { query = refl; pragma = refl; begin = λ h. cc; commit = λ h. cc; rollback = λ h. cc; release = λ name h. cc; back = λ name h. cc }

pub update_writes : (at : ℕ) (q : Program) → IsRowWrite (Update at q)
update_writes at q = record { query = refl; pragma = refl; begin = λ h. cc; commit = λ h. cc; rollback = λ h. cc; release = λ name h. cc; back = λ name h. cc }

-- the rules of the tables stop the command, which is told, or a row that can't be stored
abbrev pub Stops : State → Row → Command → Error → Type 0
Stops old params command e = (text : List ℕ) × (stop : Option Error) × IfSome stop (λ x. x ≡ e) × Does old.step_limit (mode_of old) params old.now text None command (Err stop)

-- the store under the database failed, which is told
abbrev pub IsStoreFailure : Error → Type 0
IsStoreFailure e = (cause : Cause) × (e ≡ store_error cause)

-- that a row is still named is no failure of the store
pub named_is_no_failure : IsStoreFailure still_named → ⊥
named_is_no_failure (OutOfMemory, h) = absurd cc
named_is_no_failure (_, h) = absurd cc

either : (b : Bool) (A B : Type 0) → MatchBool b A B → A ⊎ B
either true A B h = inl h
either false A B h = inr h

-- a statement that is refused because a row is still named leaves all as it was
pub named_leaves : (sql : List ℕ) (params : Row) (old new : State) → ExecutesInside 0 sql params old new (Err still_named) → IsUnchanged old new
unfolding ExecutesIn IsNotRun
named_leaves sql params old new (inl h) = elim h.0 [
  | inl not_run ↦ elim not_run [ inl none ↦ none.1 | inr fails ↦ absurd (named_is_no_failure (fails.0, fails.1)) ]
  | inr runs ↦ elim (either (shows_rows false runs.0) _ _ runs.2) [
    | inl shows ↦ shows.1
    | inr command ↦ elim command [ inl low ↦ low.1 | inr fails ↦ absurd (named_is_no_failure (fails.0, fails.1)) ]
  ]
]
named_leaves sql params old new (inr h) = h.2

module _ (sql : List ℕ) (params : Row) (old new : State) (has : old.now.schema ≡ store_schema) (command : Command) (is : command_of (understood store_schema sql) ≡ command)
    (plain : IsPlain (understood store_schema sql)) (asked : IsAsked (understood store_schema sql) sql (length params)) (writes : IsRowWrite command) (e : Error) (told : refusal_of e ≡ refused) where
  command_is : (c : Compiled) → understood old.now.schema sql ≡ Ok c → c.command ≡ command
  command_is c it = ap command_of (sym it ∙ ap (λ s. understood s sql) has) ∙ is

  placed : (k : Command) → k ≡ command → IsMisplaced old k e → ⊥
  placed k same (inl h) = elim h.1 [
    | inl begins ↦ writes.begin (sym same ∙ begins.0)
    | inr ends ↦ elim ends.0 [ inl commits ↦ writes.commit (sym same ∙ commits) | inr undoes ↦ writes.rollback (sym same ∙ undoes) ]
  ]
  placed k same (inr h) = elim h.2 [ inl releases ↦ writes.release h.1 (sym same ∙ releases) | inr goes ↦ writes.back h.1 (sym same ∙ goes) ]

  kept_in : (k : Command) → k ≡ command → Escapes 0 old k → ⊥
  kept_in k same (inl ends) = elim ends [ inl commits ↦ writes.commit (sym same ∙ commits) | inr undoes ↦ writes.rollback (sym same ∙ undoes) ]
  kept_in k same (inr h) = elim h.1 [ inl releases ↦ writes.release h.0 (sym same ∙ releases) | inr goes ↦ writes.back h.0 (sym same ∙ goes) ]

  quiet : (c : Compiled) → c.returning ≡ None → c.command ≡ command → shows_rows false c ≡ false
  quiet c bare same = rw (same, bare, writes.query, writes.pragma)

  ran : (c : Compiled) (it : IsStatement old sql params c) → RunsAlone false old new sql c (timed params c.formats it.now) (Err e) → (HasFailed old new × IsStoreFailure e) ⊎ Stops old params command e
  ran c it h =
      let bare = subst IsPlain (sym (sym it.is ∙ ap (λ s. understood s sql) has)) plain in
      let same = command_is c it.is in
      let runs = rw (quiet c bare.0 same) at h in
      let does = λ (stop : Option Error) (d : Does old.step_limit (mode_of old) (timed params c.formats it.now) old.now (text_of sql c) c.returning c.command (Err stop)).
      subst (λ k. Does old.step_limit (mode_of old) params old.now (text_of sql c) None k (Err stop)) same (rw (bare.0, bare.1, append-nil params) at d) in
      elim runs [
        | inl low ↦ elim low.0 [ inl misplaced ↦ absurd (placed c.command same misplaced) | inr stopped ↦ inr (text_of sql c, Some e, refl, does (Some e) stopped.1) ]
        | inr fails ↦ elim (failed old new _ e told fails) [ inl disk ↦ inl (disk, (fails.0, fails.1)) | inr big ↦ inr (text_of sql c, None, tt, does None big) ]
      ]

  pub stopped : ExecutesInside 0 sql params old new (Err e) → (HasFailed old new × IsStoreFailure e) ⊎ Stops old params command e
  unfolding ExecutesIn EndsScope
  stopped (inl h) = elim h.0 [
    | inl not_run ↦ inl (not_run_failed sql params old new has plain asked e told not_run)
    | inr runs ↦ ran runs.0 runs.1 runs.2
  ]
  stopped (inr h) = absurd (kept_in h.0.0.command (command_is h.0.0 h.0.1.is) h.0.2)

-- ---- the parts of a statement

-- what keys a statement goes by: they are enforced at once
abbrev pub at_once : Mode
at_once = record { keys = Enforced; in_doubt = false; may_wait = false }

-- a part that stopped did so at its first part, or after it
pub stops_in : {A E R : Type 0} {First : E → Type 0} {stop : E} → ((s : E) × First s × (◌≡◌ {A = Result A E} (Err stop) (Err s))) ⊎ R → First stop ⊎ R
stops_in {First = First} {stop = stop} (inl h) = let same : h.0 ≡ stop = cc in inl (subst First same h.1)
stops_in (inr on) = inr on

pub err_not_ok : {A E : Type 0} {a : A} {e : E} → ◌≡◌ {A = Result A E} (Err e) (Ok a) → ⊥
err_not_ok h = cc

-- where no foreign key acts, an edit stops at its one step
pub edit_stops : (db : Trees) (edit : Edit) (why : Option Refusal) → Writes store_schema Enforced db edit (Err why)
    → ((it : Refusal) × IsRefused store_schema Enforced db edit it) ⊎ ((row : Row) × Has edit.news row × IsOversized store_schema edit.table row)
edit_stops db edit why (inl refuses) = inl (refuses.0, refuses.1)
edit_stops db edit why (inr (inl big)) = inr (big.0, big.1, big.2)
edit_stops db edit why (inr (inr went)) = absurd (never went.2.0 (rw (no_works edit.table.tree (taken_by db edit) edit.news) at went.2.1))
  where
    never : (n : ℕ) → Leads store_schema Enforced n went.0 [] (Err why) → ⊥
    never zero h = let e = h.1 in cc
    never (suc n) h = omega (arith, ap length h.2, length-append h.0 (h.1 ∷ []))
