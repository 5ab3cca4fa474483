-- What keeps a new row out of each of the three tables.
use Rattle.std.proofs.Common.{◌≡◌, ◌⊎◌, inl, inr, ℕ, pos, Bool, true, false, ◌&&◌, List, [], ◌∷◌, Option, Some, None, Err, refl, sym, ap, subst, ◌∙◌, codes, Bor, IsSome, arith}
use Rattle.std.proofs.lemmas.Bool.{true≢false, and_left, or_right}
use Rattle.sqlite_value.specs.declared.keys.Collation.TheVariants.{Binary}
use Rattle.sqlite_value.specs.declared.value.Value.TheVariants.{Null, Int, Text, Blob}
use Rattle.sqlite_value.specs.Keys.{first_key, plain}
use Rattle.sqlite_value.specs.Order.{Row, column}
use Rattle.sqlite_trees.specs.Tree.{Trees}
use Rattle.sqlite_sql.specs.Ops.{binary}
use Rattle.sqlite_sql.specs.Term.{Term, lit, col}
use Rattle.sqlite_schema.specs.Rules.{agree, clashes, equal, passes, references_fit}
use Rattle.sqlite_schema.specs.declared.schema.Constraint.TheVariants.{Datatype}
use Rattle.sqlite_schema.specs.declared.schema.Table.{Table}
use Rattle.sqlite_schema.specs.declared.command.Source.{Source}
use Rattle.sqlite_schema.specs.declared.command.Source.TheVariants.{Values}
use Rattle.sqlite_schema.specs.declared.command.Command.TheVariants.{Insert}
use Rattle.sqlite_rules.specs.Edit.{next_rowid}
use Rattle.sqlite_rules.specs.Keys.{are_unique}
use Rattle.sqlite_rules.specs.Lists.{Has}
use Rattle.sqlite_rules.proofs.ListLemmas.{some_from}
use Rattle.sqlite_tied.specs.Compute.{everything}
use Rattle.sqlite.specs.Does.{Does}
use Rattle.sqlite.specs.Effect.{RefusesSource}
use Rattle.sqlite.specs.Listing.{understood}
use Rattle.sqlite.specs.State.{State, ExecutesInside}
use Rattle.sqlite.specs.Values.{or_null}
use Rattle.sqlite.specs.declared.error.Error.{Error}
use Rattle.part_store.specs.Refusals.{refusal_of, HasFailed}
use Rattle.part_store.specs.Causes.{HasNoRoom, IsWritable}
use Rattle.part_store.specs.Tables.{store_schema, users_table, contents_table, entries_table, user_columns, content_columns, entry_columns, entry_references, users_tree, contents_tree, entries_tree, equals}
use Rattle.part_store.specs.Statements.{add_user_text, add_content_text, add_entry_text}
use Rattle.part_store.specs.Changes.{is_entry, new_row, IsTableIn}
use Rattle.part_store.specs.Standing.{HasContent, content_row}
use Rattle.part_store.specs.declared.error.StoreError.TheVariants.{Database as refused}
use Rattle.part_store.proofs.Apart.{bytes_same}
use Rattle.part_store.proofs.Deleting.{obeyed}
use Rattle.part_store.proofs.Equals.{equal_blobs}
use Rattle.part_store.proofs.Faults.{IsAsked}
use Rattle.part_store.proofs.Gaining.{added_has, added_keeps}
use Rattle.part_store.proofs.Inserting.{clash_free, insert_limited}
use Rattle.part_store.proofs.Meaning.{add_user_is, add_content_is, add_entry_is}
use Rattle.part_store.proofs.Parents.{HasParent, all_refer, refers, parent_stays, is_parent}
use Rattle.part_store.proofs.Runs.{and_true}
use Rattle.part_store.proofs.Stopped.{at_once, insert_writes, stopped, IsStoreFailure, Stops}
use Rattle.part_store.proofs.Writes.{added_next, cast_null, cast_int}

-- a statement that a limit on steps stops, or want of room
limited : (params : Row) (old new : State) (at : ℕ) (from : Source) (table : Table) (values : Row) → old.now.schema ≡ store_schema
    → ((text : List ℕ) (stop : Option Error) → Does old.step_limit at_once params (record { schema = store_schema; trees = old.now.trees }) text None (Insert at from) (Err stop)
    → IsSome old.step_limit ⊎ HasNoRoom table values old.now.trees)
    → {e : Error} → (HasFailed old new × IsStoreFailure e) ⊎ Stops old params (Insert at from) e → HasFailed old new ⊎ HasNoRoom table values old.now.trees
limited params old new at from table values has only (inl disk) = inl disk.0
limited params old new at from table values has only (inr stops) =
    elim (only stops.0 stops.1 (subst (λ s. Does old.step_limit at_once params (record old.now { schema = s }) stops.0 None (Insert at from) (Err stops.1)) has stops.3)) [
      | inl steps ↦ inl (inr (inr steps))
      | inr none ↦ inr none
    ]

-- ---- users

abbrev user_terms : List Term
user_terms = lit Null ∷ col 0 0 ∷ col 0 1 ∷ col 0 2 ∷ []

add_user_asked : IsAsked (understood store_schema add_user_text) add_user_text 3
unfolding understood everything
add_user_asked = (omega arith, refl)

user_accepted : (user : List ℕ) (last : ℕ) (program : Option (Bor (List ℕ))) (limit : Option ℕ) (db : Trees) (e : Error)
    → RefusesSource limit (record { schema = store_schema; trees = db }) (Text user ∷ Int (pos last) ∷ or_null (λ octets. Blob octets.now) program ∷ []) (Values user_terms 4) e → IsSome limit
unfolding everything
user_accepted user last None limit db e h = elim h [ inl untyped ↦ absurd (true≢false untyped.1) | inr steps ↦ steps.1 ]
user_accepted user last (Some octets) limit db e h = elim h [ inl untyped ↦ absurd (true≢false untyped.1) | inr steps ↦ steps.1 ]

users_fit : (b : Bool) → references_fit store_schema users_table b false ≡ true
unfolding everything
users_fit true = refl
users_fit false = refl

user_typed : (db : Trees) (user : List ℕ) (last : ℕ) (program : Option (Bor (List ℕ))) → passes Datatype store_schema db users_table (new_row (db users_tree) (Text user ∷ Int (pos last) ∷ or_null (λ octets. Blob octets.now) program ∷ [])) ≡ true
unfolding everything
user_typed db user last None = refl
user_typed db user last (Some octets) = refl

pub users_unique : (next : Trees) (new : Row) → clashes plain (1 ∷ []) (next users_tree) new ≡ false → are_unique store_schema.indexes next users_table (new ∷ []) ≡ true
unfolding everything
users_unique next new free = rw free

pub one_key : (r : Row) (new : Row) (value : _) → column new 1 ≡ value → equals 1 value r ≡ false → agree plain (1 ∷ []) r (1 ∷ []) new ≡ false
unfolding binary first_key
one_key r new value is none = and_left _ _ (ap (λ v. equals 1 v r) is ∙ none)

module _ (old new : State) (e : Error) (told : refusal_of e ≡ refused) (can : IsWritable old) where
  pub user_fits : (user : List ℕ) (last : ℕ) (program : Option (Bor (List ℕ))) → IsTableIn users_tree old.now.trees → ((r : Row) → Has (old.now.trees users_tree) r → equals 1 (Text user) r ≡ false)
      → ExecutesInside 0 add_user_text (Text user ∷ Int (pos last) ∷ or_null (λ octets. Blob octets.now) program ∷ []) old new (Err e)
      → HasFailed old new ⊎ HasNoRoom users_table (Text user ∷ Int (pos last) ∷ or_null (λ octets. Blob octets.now) program ∷ []) old.now.trees
  user_fits user last program table none h =
      let db = old.now.trees in
      let values : Row = Text user ∷ Int (pos last) ∷ or_null (λ octets. Blob octets.now) program ∷ [] in
      limited values old new 0 (Values user_terms 4) users_table values can.schema
      (λ text. insert_limited 0 0 (codes "users") user_columns (1 ∷ []) [] refl old.step_limit values db text user_terms 4 (Null ∷ values) values refl (rw (cast_null, cast_int)) (user_accepted user last program old.step_limit db)
      (obeyed old can) table.0 table.1 users_fit (user_typed db user last program) refl
      (λ next split. users_unique next (new_row (db users_tree) values)
      (clash_free plain (1 ∷ []) (db users_tree) (next users_tree) (new_row (db users_tree) values) (next_rowid (db users_tree)) refl split (λ r k. one_key r (new_row (db users_tree) values) (Text user) refl (none r k))))
      (λ rows next news applied.
      all_refer next (λ r k. parent_stays db next r (λ p l _. subst (λ l. Has l p) (sym (applied.tables.1.0 (λ h. omega (arith, h)))) l)
      (refers db (obeyed old can) r (subst (λ l. Has l r) (applied.tables.1.1.0 (λ h. omega (arith, h))) k)))))
      (stopped add_user_text values old new can.schema (Insert 0 (Values user_terms 4)) add_user_is.0 add_user_is.1 add_user_asked (insert_writes 0 _) e told h)

-- ---- contents

abbrev content_terms : List Term
content_terms = lit Null ∷ col 0 0 ∷ col 0 1 ∷ []

add_content_asked : IsAsked (understood store_schema add_content_text) add_content_text 2
unfolding understood everything
add_content_asked = (omega arith, refl)

content_accepted : (digest octets : List ℕ) (limit : Option ℕ) (db : Trees) (e : Error) → RefusesSource limit (record { schema = store_schema; trees = db }) (Blob digest ∷ Blob octets ∷ []) (Values content_terms 3) e → IsSome limit
unfolding everything
content_accepted digest octets limit db e h = elim h [ inl untyped ↦ absurd (true≢false untyped.1) | inr steps ↦ steps.1 ]

contents_fit : (b : Bool) → references_fit store_schema contents_table b false ≡ true
unfolding everything
contents_fit true = refl
contents_fit false = refl

content_typed : (db : Trees) (digest octets : List ℕ) → passes Datatype store_schema db contents_table (new_row (db contents_tree) (Blob digest ∷ Blob octets ∷ [])) ≡ true
unfolding everything
content_typed db digest octets = refl

contents_unique : (next : Trees) (new : Row) → clashes plain (1 ∷ []) (next contents_tree) new ≡ false → are_unique store_schema.indexes next contents_table (new ∷ []) ≡ true
unfolding everything
contents_unique next new free = rw free

module _ (old new : State) (e : Error) (told : refusal_of e ≡ refused) (can : IsWritable old) where
  pub content_fits : (digest octets : List ℕ) → IsTableIn contents_tree old.now.trees → ((r : Row) → Has (old.now.trees contents_tree) r → equals 1 (Blob digest) r ≡ false)
      → ExecutesInside 0 add_content_text (Blob digest ∷ Blob octets ∷ []) old new (Err e) → HasFailed old new ⊎ HasNoRoom contents_table (Blob digest ∷ Blob octets ∷ []) old.now.trees
  content_fits digest octets table none h =
      let db = old.now.trees in
      let values : Row = Blob digest ∷ Blob octets ∷ [] in
      let row = new_row (db contents_tree) values in
      limited values old new 1 (Values content_terms 3) contents_table values can.schema
      (λ text. insert_limited 1 2 (codes "contents") content_columns (1 ∷ []) [] refl old.step_limit values db text content_terms 3 (Null ∷ values) values refl (rw cast_null) (content_accepted digest octets old.step_limit db)
      (obeyed old can) table.0 table.1 contents_fit (content_typed db digest octets) refl
      (λ next split. contents_unique next row (clash_free plain (1 ∷ []) (db contents_tree) (next contents_tree) row (next_rowid (db contents_tree)) refl split (λ r k. one_key r row (Blob digest) refl (none r k))))
      (λ rows next news applied.
      let added = added_next 1 2 (codes "contents") content_columns (1 ∷ []) [] refl db next rows values news applied in
      all_refer next (λ r k. parent_stays db next r (λ p l _. added_keeps contents_tree values db next p added l)
      (refers db (obeyed old can) r (subst (λ l. Has l r) (applied.tables.1.1.0 (λ h. omega (arith, h))) k)))))
      (stopped add_content_text values old new can.schema (Insert 1 (Values content_terms 3)) add_content_is.0 add_content_is.1 add_content_asked (insert_writes 1 _) e told h)

-- ---- entries

abbrev entry_terms : List Term
entry_terms = lit Null ∷ col 0 0 ∷ col 0 1 ∷ col 0 2 ∷ col 0 3 ∷ col 0 4 ∷ col 0 5 ∷ col 0 6 ∷ []

abbrev entry_row : List ℕ → ℕ → List ℕ → ℕ → List ℕ → List ℕ → List ℕ → Row
entry_row user number folder kind name media digest = Text user ∷ Int (pos number) ∷ Blob folder ∷ Int (pos kind) ∷ Blob name ∷ Blob media ∷ Blob digest ∷ []

add_entry_asked : IsAsked (understood store_schema add_entry_text) add_entry_text 7
unfolding understood everything
add_entry_asked = (omega arith, refl)

entry_accepted : (user : List ℕ) (number : ℕ) (folder : List ℕ) (kind : ℕ) (name media digest : List ℕ) (limit : Option ℕ) (db : Trees) (e : Error)
    → RefusesSource limit (record { schema = store_schema; trees = db }) (entry_row user number folder kind name media digest) (Values entry_terms 8) e → IsSome limit
unfolding everything
entry_accepted user number folder kind name media digest limit db e h = elim h [ inl untyped ↦ absurd (true≢false untyped.1) | inr steps ↦ steps.1 ]

entries_fit : (b : Bool) → references_fit store_schema entries_table b false ≡ true
unfolding everything
entries_fit true = refl
entries_fit false = refl

entry_typed : (db : Trees) (user : List ℕ) (number : ℕ) (folder : List ℕ) (kind : ℕ) (name media digest : List ℕ)
    → passes Datatype store_schema db entries_table (new_row (db entries_tree) (entry_row user number folder kind name media digest)) ≡ true
unfolding everything
entry_typed db user number folder kind name media digest = refl

entries_unique : (next : Trees) (new : Row) → clashes plain (1 ∷ 2 ∷ []) (next entries_tree) new ≡ false → are_unique store_schema.indexes next entries_table (new ∷ []) ≡ true
unfolding everything
entries_unique next new free = rw free

entry_key : (r : Row) (new : Row) (user : List ℕ) (number : ℕ) → column new 1 ≡ Text user → column new 2 ≡ Int (pos number) → is_entry user number r ≡ false → agree plain (1 ∷ 2 ∷ []) r (1 ∷ 2 ∷ []) new ≡ false
unfolding binary first_key
entry_key r new user number named numbered none = ap (λ b. equals 1 (column new 1) r && b) (and_true _) ∙ ap (λ v. equals 1 v r && equals 2 (column new 2) r) named ∙ ap (λ v. equals 1 (Text user) r && equals 2 v r) numbered ∙ none

parent_is : (p new : Row) (digest : List ℕ) → column p 1 ≡ Blob digest → column new 7 ≡ Blob digest → is_parent p new ≡ true
unfolding binary first_key
parent_is p new digest first second = and_true _ ∙ ap (λ v. equals 1 v p) second ∙ ap (λ v. equal Binary v (Blob digest)) first ∙ equal_blobs digest digest ∙ bytes_same digest

-- the content under its digest is the new row's parent
new_parent : (next : Trees) (new : Row) (digest octets : List ℕ) → column new 7 ≡ Blob digest → HasContent (next contents_tree) digest octets → HasParent next new
unfolding everything
new_parent next new digest octets is h =
    or_right _ _ (some_from (λ p. is_parent p new) (next contents_tree) (content_row h.0 digest octets) h.1 (parent_is (content_row h.0 digest octets) new digest refl is))

module _ (old new : State) (e : Error) (told : refusal_of e ≡ refused) (can : IsWritable old) where
  pub entry_fits : (user : List ℕ) (number : ℕ) (folder : List ℕ) (kind : ℕ) (name media digest octets : List ℕ) → IsTableIn entries_tree old.now.trees
      → ((r : Row) → Has (old.now.trees entries_tree) r → is_entry user number r ≡ false) → HasContent (old.now.trees contents_tree) digest octets
      → ExecutesInside 0 add_entry_text (entry_row user number folder kind name media digest) old new (Err e) → HasFailed old new ⊎ HasNoRoom entries_table (entry_row user number folder kind name media digest) old.now.trees
  entry_fits user number folder kind name media digest octets table none held h =
      let db = old.now.trees in
      let values = entry_row user number folder kind name media digest in
      let row = new_row (db entries_tree) values in
      limited values old new 2 (Values entry_terms 8) entries_table values can.schema
      (λ text. insert_limited 2 4 (codes "entries") entry_columns (1 ∷ 2 ∷ []) entry_references refl old.step_limit values db text entry_terms 8 (Null ∷ values) values refl
      (rw (cast_null, cast_int (pos number), cast_int (pos kind))) (entry_accepted user number folder kind name media digest old.step_limit db)
      (obeyed old can) table.0 table.1 entries_fit (entry_typed db user number folder kind name media digest) refl
      (λ next split. entries_unique next row
      (clash_free plain (1 ∷ 2 ∷ []) (db entries_tree) (next entries_tree) row (next_rowid (db entries_tree)) refl split (λ r k. entry_key r row user number refl refl (none r k))))
      (λ rows next news applied.
      let added = added_next 2 4 (codes "entries") entry_columns (1 ∷ 2 ∷ []) entry_references refl db next rows values news applied in
      let same : next contents_tree ≡ db contents_tree = added.others.1.0 (λ h. omega (arith, h)) in
      all_refer next (λ r k. elim (added_has entries_tree values db next r added k) [
        | inl is ↦ subst (HasParent next) (sym is) (new_parent next row digest octets refl (subst (λ l. HasContent l digest octets) (sym same) held))
        | inr was ↦ parent_stays db next r (λ p l _. subst (λ l. Has l p) (sym same) l) (refers db (obeyed old can) r was)
      ])))
      (stopped add_entry_text values old new can.schema (Insert 2 (Values entry_terms 8)) add_entry_is.0 add_entry_is.1 add_entry_asked (insert_writes 2 _) e told h)
