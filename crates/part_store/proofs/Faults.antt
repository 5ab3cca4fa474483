-- Why a statement is refused.
use Rattle.std.proofs.Common.{◌≡◌, ◌⊎◌, inl, inr, ℕ, ◌≤◌, List, length, append-nil, Option, None, Some, Ok, Err, Result, refl, sym, ap, subst, ◌∙◌, IsSome}
use Rattle.sqlite_trees.specs.declared.error.StoreError.{StoreError as Cause}
use Rattle.sqlite_trees.specs.declared.error.StoreError.TheVariants.{OutOfMemory, Io, Corrupt, Full, Broken, Unstorable}
use Rattle.sqlite_value.specs.Order.{Row}
use Rattle.sqlite_sql.specs.Query.{Query}
use Rattle.sqlite_schema.specs.declared.command.Command.TheVariants.{Select}
use Rattle.sqlite_resolve.specs.declared.compiled.Compiled.{Compiled}
use Rattle.sqlite_resolve.specs.declared.error.CompileError.{CompileError}
use Rattle.sqlite.specs.declared.error.Error.{Error}
use Rattle.sqlite.specs.Clock.{timed}
use Rattle.sqlite.specs.Effect.{Database, RefusesQuery, RefusesToRead}
use Rattle.sqlite.specs.Listing.{understood, reads_listing, IsSourceOf}
use Rattle.sqlite.specs.State.{State, store_error, HasCause, Fails, FailsToQuery, FailsToShow, IsNotRun, IsNoStatement, IsStatement, IsTooLate}
use Rattle.sqlite.proofs.Callers.{IsPlain, command_of}
use Rattle.part_store.specs.Refusals.{refusal_of, HasFailed}
use Rattle.part_store.specs.Causes.{Faults}
use Rattle.part_store.specs.Tables.{store_schema}
use Rattle.part_store.specs.declared.error.StoreError.TheVariants.{Database as refused}
use Rattle.part_store.proofs.Meaning.{Means, alone}

-- the statement is the whole text, and has so many parameters
abbrev pub IsAsked : Result Compiled CompileError → List ℕ → ℕ → Type 0
IsAsked (Ok c) sql count = (length sql ≤ c.tail) × (count ≡ length c.names)
IsAsked (Err e) sql count = ⊥

pub caused : (old new : State) (U : Type 0) (cause : Cause) → refusal_of (store_error cause) ≡ refused → HasCause old new U cause → HasFailed old new ⊎ U
caused old new U OutOfMemory is h = absurd cc
caused old new U Io is h = inl (inl h)
caused old new U Corrupt is h = inl (inl h)
caused old new U Full is h = inl (inl h)
caused old new U Broken is h = inl (inr (inl h))
caused old new U Unstorable is h = inr h

pub failed : (old new : State) (U : Type 0) (e : Error) → refusal_of e ≡ refused → Fails old new U e → HasFailed old new ⊎ U
failed old new U e is h = caused old new U h.0 (subst (λ x. refusal_of x ≡ refused) h.1 is) h.2

pub never : {A : Type 0} → A ⊎ ⊥ → A
never (inl a) = a
never (inr h) = absurd h

pub no_statement : (s : State) (sql : List ℕ) (params : Row) (e : Error) → IsPlain (understood s.now.schema sql) → IsAsked (understood s.now.schema sql) sql (length params)
    → IsNoStatement s sql params e → ⊥
no_statement s sql params e plain asked (inl h) = subst IsPlain h.1 plain
no_statement s sql params e plain asked (inr h) =
    let whole = subst (λ r. IsAsked r sql (length params)) h.1 asked in
    let bare = subst IsPlain h.1 plain in
    elim h.2 [
      | inl more ↦ more.0 whole.0
      | inr (inl other) ↦ other.0 whole.1
      | inr (inr clock) ↦ clock.0 bare.1
    ]

module _ (sql : List ℕ) (params : Row) (old new : State) (has : old.now.schema ≡ store_schema) (plain : IsPlain (understood store_schema sql))
    (asked : IsAsked (understood store_schema sql) sql (length params)) (e : Error) (is : refusal_of e ≡ refused) where
  pub not_run_failed : IsNotRun old new sql params e → HasFailed old new × ((cause : Cause) × (e ≡ store_error cause))
  unfolding IsNotRun
  not_run_failed (inl h) =
      absurd (no_statement old sql params e (subst (λ s. IsPlain (understood s sql)) (sym has) plain) (subst (λ s. IsAsked (understood s sql) sql (length params)) (sym has) asked) h.0)
  not_run_failed (inr h) = (never (failed old new ⊥ e is h), (h.0, h.1))

-- over the three tables only a limit on steps refuses the query
abbrev pub IsAnswered : Query → Row → Type 0
IsAnswered query params =
    (limit : Option ℕ) (db : Database) (e : Error) → db.schema ≡ store_schema → RefusesQuery limit db (alone query) params e → IsSome limit

module _ (sql : List ℕ) (params : Row) (query : Query) (names : List (List ℕ)) (means : Means store_schema sql (Select (alone query) names))
    (asked : IsAsked (understood store_schema sql) sql (length params)) (answers : IsAnswered query params) where
  not_shown : (old new : State) (c : Compiled) (it : IsStatement old sql params c) (e : Error) → old.now.schema ≡ store_schema
      → (returning : _) → returning ≡ c.returning → FailsToShow old new sql c (timed params c.formats it.now) e returning → HasFailed old new
  not_shown old new c it e has (Some what) same h =
      let known = sym it.is ∙ ap (λ s. understood s sql) has in
      let bare = subst IsPlain (sym known) means.1 in
      absurd (let no = same ∙ bare.0 in cc)
  not_shown old new c it e has None same h =
      let known = sym it.is ∙ ap (λ s. understood s sql) has in
      let bare = subst IsPlain (sym known) means.1 in
      let db : h.0 ≡ old.now = subst (λ b. IsSourceOf b old.now h.0) (ap (λ s. reads_listing s sql) has ∙ means.2) h.1 in
      let reads : RefusesToRead old.step_limit (Select (alone query) names) h.0 params e =
      subst (λ k. RefusesToRead old.step_limit k h.0 params e) (ap command_of known ∙ means.0) (rw (bare.1, append-nil params) at h.2) in
      inr (inr (answers old.step_limit h.0 e (ap (λ (d : Database). d.schema) db ∙ has) reads))

  pub query_faults : (old new : State) (e : Error) → FailsToQuery sql params old new e ⊎ IsTooLate sql params old new e → Faults old new e
  unfolding FailsToQuery
  query_faults old new e (inl (inl h)) is has = (not_run_failed sql params old new has means.1 asked e is h).0
  query_faults old new e (inl (inr h)) is has = not_shown old new h.0 h.1 e has h.0.returning refl h.2
  query_faults old new e (inr h) is has =
      let known = sym h.1.is ∙ ap (λ s. understood s sql) has in
      let bare = subst IsPlain (sym known) means.1 in
      absurd (let some = rw bare.0 at h.2 in cc)
