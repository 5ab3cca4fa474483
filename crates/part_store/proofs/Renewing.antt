-- Why a user's row is refused another last number.
use Rattle.std.proofs.Common.{◌≡◌, ◌⊎◌, inl, inr, ℕ, ℤ, pos, Bool, true, false, not, filter, List, [], ◌∷◌, codes, Option, Some, None, Err, refl, sym, ap, subst, ◌∙◌, arith}
use Rattle.std.proofs.lemmas.Bool.{true≢false, not-true}
use Rattle.sqlite_value.specs.declared.value.Value.TheVariants.{Int, Text}
use Rattle.sqlite_value.specs.Keys.{plain}
use Rattle.sqlite_value.specs.Order.{Row}
use Rattle.sqlite_trees.specs.Tree.{Trees, rowid}
use Rattle.sqlite_trees.specs.View.{is_int}
use Rattle.sqlite_sql.specs.Ops.{fits_i64}
use Rattle.sqlite_schema.specs.Rules.{passes, references_fit}
use Rattle.sqlite_schema.specs.declared.schema.Constraint.TheVariants.{Datatype, NotNull}
use Rattle.sqlite_schema.specs.declared.command.Command.TheVariants.{Update}
use Rattle.sqlite_rules.specs.Edit.{id_in, IsOversized}
use Rattle.sqlite_rules.specs.Keys.{are_unique}
use Rattle.sqlite_rules.specs.Lists.{Has}
use Rattle.sqlite_rules.proofs.ListLemmas.{has_filtered}
use Rattle.sqlite_tied.specs.Compute.{everything}
use Rattle.sqlite.specs.Does.{Does}
use Rattle.sqlite.specs.Listing.{understood}
use Rattle.sqlite.specs.State.{State, ExecutesInside}
use Rattle.sqlite.specs.declared.error.Error.{Error}
use Rattle.part_store.specs.Tables.{store_schema, users_table, users_tree, user_columns}
use Rattle.part_store.specs.Causes.{HasNoPlace, IsWritable}
use Rattle.part_store.specs.Changes.{IsOnlyRow, user_row}
use Rattle.part_store.specs.Refusals.{refusal_of, user_values, HasFailed}
use Rattle.part_store.specs.Statements.{renew_user_text}
use Rattle.part_store.specs.declared.error.StoreError.TheVariants.{Database as refused}
use Rattle.part_store.proofs.Asked.{over}
use Rattle.part_store.proofs.Deleting.{obeyed}
use Rattle.part_store.proofs.Faults.{IsAsked, IsAnswered}
use Rattle.part_store.proofs.Fitting.{one_key, users_unique}
use Rattle.part_store.proofs.Inserting.{clash_free}
use Rattle.part_store.proofs.Meaning.{alone, is_given, renew_user_query, renew_user_is}
use Rattle.part_store.proofs.Parents.{all_refer, refers, parent_stays}
use Rattle.part_store.proofs.Stopped.{at_once, stopped, update_writes}
use Rattle.part_store.proofs.Updating.{edit_refused, test, update_limited}
use Rattle.part_store.proofs.UserRows.{renewed_columns, renewed_row, same_test}
use Rattle.part_store.proofs.Writes.{filter_same}

renew_user_asked : IsAsked (understood store_schema renew_user_text) renew_user_text 2
unfolding understood everything
renew_user_asked = (omega arith, refl)

renew_user_answered : (user : List ℕ) (last : ℕ) → IsAnswered renew_user_query (Text user ∷ Int (pos last) ∷ [])
unfolding everything
renew_user_answered user last limit db e has h = elim (over limit db renew_user_query (Text user ∷ Int (pos last) ∷ []) e has h) [
  | inl untyped ↦ absurd (true≢false untyped.1)
  | inr (inl sum) ↦ elim sum.1 [ inl none ↦ absurd none | inr more ↦ absurd more.4 ]
  | inr (inr steps) ↦ steps.1
]

users_fit : (adds removes : Bool) → references_fit store_schema users_table adds removes ≡ true
unfolding everything
users_fit true true = refl
users_fit true false = refl
users_fit false true = refl
users_fit false false = refl

row_typed : (db : Trees) (id : ℤ) (user : List ℕ) (last : ℕ) (program : Option (List ℕ)) → passes Datatype store_schema db users_table (user_row id user last program) ≡ true
unfolding everything
row_typed db id user last None = refl
row_typed db id user last (Some octets) = refl

module _ (old new : State) (e : Error) (told : refusal_of e ≡ refused) (can : IsWritable old) where
  pub user_renewable : (user : List ℕ) (id : ℤ) (was last : ℕ) (program : Option (List ℕ)) → IsOnlyRow user (user_row id user was program) old.now.trees
      → ExecutesInside 0 renew_user_text (Text user ∷ Int (pos last) ∷ []) old new (Err e) → HasFailed old new ⊎ HasNoPlace users_table id (user_values user last program)
  user_renewable user id was last program only h =
      let db = old.now.trees in
      let params : Row = Text user ∷ Int (pos last) ∷ [] in
      let one = user_row id user was program in
      let row = user_row id user last program in
      let same = same_test db params user refl in
      let is = renewed_row db id user was last program in
      let his = λ (r : Row). test 0 0 (codes "users") user_columns (1 ∷ []) [] refl db params (is_given 1 0 ∷ []) renewed_columns r in
      let rest : List Row = filter (λ r. not (his r)) (db users_tree) in
      let alone_there = filter_same _ _ (db users_tree) (λ r _. same r) ∙ only.1 in
      elim (stopped renew_user_text params old new can.schema (Update 0 (alone renew_user_query)) renew_user_is.0 renew_user_is.1 renew_user_asked (update_writes 0 _) e told h) [
        | inl disk ↦ inl disk.0
        | inr stops ↦
            elim (update_limited 0 0 (codes "users") user_columns (1 ∷ []) [] refl db params (is_given 1 0 ∷ []) renewed_columns old.step_limit stops.0 (HasNoPlace users_table id (user_values user last program))
            (renew_user_answered user last)
            (λ rows stop sure edits. subst (λ (r : Row). (fits_i64 (id_in (rowid r)) ≡ false) ⊎ IsOversized store_schema users_table r) is
            (edit_refused 0 0 (codes "users") user_columns (1 ∷ []) [] refl db params (is_given 1 0 ∷ []) renewed_columns one alone_there only.0.0 only.0.1 rows sure (obeyed old can) users_fit
            (ap rowid is) (ap (λ (r : Row). is_int (rowid r)) is) (ap (passes Datatype store_schema db users_table) is ∙ row_typed db id user last program) (ap (passes NotNull store_schema db users_table) is)
            (λ next split. subst (λ (r : Row). are_unique store_schema.indexes next users_table (r ∷ []) ≡ true) (sym is)
            (users_unique next row (clash_free plain (1 ∷ []) rest (next users_tree) row id refl (λ x k. subst (λ (r : Row). (x ≡ r) ⊎ Has rest x) is (split x k))
            (λ r k. one_key r row (Text user) refl (sym (same r) ∙ not-true _ (has_filtered (λ r. not (his r)) (db users_tree) r k).1))))) stop edits))
            (λ rows next applied.
            all_refer next (λ r k. parent_stays db next r (λ p l _. subst (λ l. Has l p) (sym (applied.tables.1.0 (λ h. omega (arith, h)))) l)
            (refers db (obeyed old can) r (subst (λ l. Has l r) (applied.tables.1.1.0 (λ h. omega (arith, h))) k))))
            stops.1 (subst (λ s. Does old.step_limit at_once params (record old.now { schema = s }) stops.0 None (Update 0 (alone renew_user_query)) (Err stops.1)) can.schema stops.3)) [
              | inl steps ↦ inl (inr (inr steps))
              | inr none ↦ inr none
            ]
      ]
