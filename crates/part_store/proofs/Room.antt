-- Where a user's row has no room.
use Rattle.std.proofs.Common.{◌≡◌, ◌⊎◌, inl, inr, ℕ, ℤ, ◌+ℤ◌, ◌+◌, ◌<◌, ◌≤◌, pos, false, not, List, [], ◌∷◌, filter, fold, Option, None, refl, sym, ap, subst, ◌∙◌, IsTrue, arith}
use Rattle.std.specs.List.{AllByRecursion}
use Rattle.std.proofs.lemmas.Bool.{not-true}
use Rattle.std.proofs.lemmas.Int.{ints}
use Rattle.sqlite_value.specs.declared.value.Value.TheVariants.{Null, Int, Text, Blob}
use Rattle.sqlite_value.specs.Order.{Row}
use Rattle.sqlite_trees.specs.Tree.{Trees, rowid, IsTable}
use Rattle.sqlite_trees.specs.View.{is_int}
use Rattle.sqlite_sql.specs.Ops.{fits_i64}
use Rattle.sqlite_rules.specs.Edit.{id_in, next_rowid, IsOversized}
use Rattle.sqlite_rules.specs.Lists.{Has}
use Rattle.sqlite_rules.proofs.ListLemmas.{all_from, all_has, has_filtered}
use Rattle.sqlite.specs.State.{State, HasCleanDisk, Survives}
use Rattle.sqlite.specs.Values.{or_null}
use Rattle.sqlite.specs.declared.error.Error.{Error}
use Rattle.part_store.specs.Tables.{store_schema, users_table, users_tree, equals}
use Rattle.part_store.specs.Changes.{user_row, IsAdded, IsOnlyRow, IsTaken, Steps, IsTableIn}
use Rattle.part_store.specs.Entries.{Entries, with_last}
use Rattle.part_store.specs.Refusals.{refusal_of, user_values, HasFailed, HasNoUserRoom, IsRowidIn, RunsOut}
use Rattle.part_store.specs.Causes.{AddFaults, HasNoRow, PutFaults, RisesFrom}
use Rattle.part_store.specs.Standing.{IsUserRow, Stands}
use Rattle.part_store.specs.UserLines.{HasRow}
use Rattle.part_store.specs.declared.error.StoreError.TheVariants.{Database}
use Rattle.part_store.proofs.Apart.{bytes_same}
use Rattle.part_store.proofs.Causes.{stands_writable, writable_then}
use Rattle.part_store.proofs.Failing.{later_failed}
use Rattle.part_store.proofs.Gaining.{added_has, filter_rises, keyed_all}
use Rattle.part_store.proofs.Numbers.{only_row}

abbrev after_row : ℤ → Row → ℤ
after_row n r = id_in (rowid r) +ℤ pos 1

followed : (all rows : List Row) (n : ℤ) → (id : ℤ) × IsRowidIn all id × (n ≡ id +ℤ pos 1) → ((r : Row) → Has rows r → Has all r) → (id : ℤ) × IsRowidIn all id × (fold after_row n rows ≡ id +ℤ pos 1)
followed all [] n known there = known
followed all (r ∷ rows) n known there = followed all rows (after_row n r) (id_in (rowid r), inr (r, there r (inl refl), refl), refl) (λ x h. there x (inr h))

-- the next rowid comes after one that is there, or after 0
pub next_follows : (rows : List Row) → (id : ℤ) × IsRowidIn rows id × (next_rowid rows ≡ id +ℤ pos 1)
next_follows rows = followed rows rows (pos 1) (pos 0, inl refl, refl) (λ r h. h)

pub wider : (all rows : List Row) (id : ℤ) → ((r : Row) → Has rows r → Has all r) → IsRowidIn rows id → IsRowidIn all id
wider all rows id there (inl none) = inl none
wider all rows id there (inr row) = inr (row.0, there row.0 row.1, row.2)

pub runs_out : (all rows : List Row) → ((r : Row) → Has rows r → Has all r) → fits_i64 (next_rowid rows) ≡ false → RunsOut all 1
runs_out all rows there full =
    let n = next_follows rows in
    (n.0, wider all rows n.0 there n.1, 1, omega arith, ap fits_i64 (sym n.2) ∙ full)

same_id : (id : ℤ) → id ≡ id +ℤ pos 0
same_id id = omega (arith, ints)

pub user_keys : (s : State) (before : Entries) → Stands s.now before → AllByRecursion (λ r. IsTrue (is_int (rowid r))) (s.now.trees users_tree)
user_keys s before stands = keyed_all (IsUserRow before) (s.now.trees users_tree) (λ r h. rw h.2) stands.tables.users

module _ (old mid new : State) (user : List ℕ) (takes : Steps (IsTaken users_tree (equals 1 (Text user))) old mid) (one : Survives old mid (λ _. ⊥)) (two : Survives mid new (λ _. ⊥))
    (clean : HasCleanDisk new) (e : Error) (is : refusal_of e ≡ Database) (inside : IsTrue old.in_transaction) (before : Entries) (stands : Stands old.now before) where
  rows_left : mid.now.trees users_tree ≡ filter (λ r. not (equals 1 (Text user) r)) (old.now.trees users_tree)
  rows_left = (takes stands.schema).change.rows stands.tables.users_rise (user_keys old before stands)

  left : (r : Row) → Has (mid.now.trees users_tree) r → Has (old.now.trees users_tree) r × (equals 1 (Text user) r ≡ false)
  left r h =
      let kept = has_filtered (λ r. not (equals 1 (Text user) r)) (old.now.trees users_tree) r (subst (λ l. Has l r) rows_left h) in
      (kept.0, not-true _ kept.1)

  table_left : IsTableIn users_tree mid.now.trees
  table_left = (
    subst IsTable (sym rows_left) (filter_rises _ (λ r. not (equals 1 (Text user) r)) (old.now.trees users_tree) stands.tables.users_rise),
    all_from _ (mid.now.trees users_tree) (λ r h. all_has _ (old.now.trees users_tree) r (user_keys old before stands) (left r h).0),
  )

  -- a user's row was taken out, and the one in its place is refused
  pub row_unplaced : (values : Row) (after : Entries) → values ≡ user_values user (after.lasts user) (after.programs user)
      → (IsTableIn users_tree mid.now.trees → HasNoRow user mid.now.trees → AddFaults users_table values mid new e) → HasFailed old new ⊎ HasNoUserRoom user after old.now.trees
  row_unplaced values after same adds = elim (adds table_left (λ r h. (left r h).1) is (writable_then _ old mid takes (stands_writable old before inside stands))) [
    | inl failed ↦ inl (later_failed old mid new one two clean failed)
    | inr none ↦ inr (elim none [
      | inl full ↦ inl (runs_out (old.now.trees users_tree) (mid.now.trees users_tree) (λ r h. (left r h).0) full)
      | inr big ↦ inr (next_rowid (mid.now.trees users_tree), subst (λ (v : Row). IsOversized store_schema users_table (Int (next_rowid (mid.now.trees users_tree)) ∷ v)) same big)
    ])
  ]

-- a user's row is refused where he has none
pub row_unadded : (old new : State) (user : List ℕ) (e : Error) → refusal_of e ≡ Database → IsTrue old.in_transaction → (before : Entries) → Stands old.now before → (values : Row) (after : Entries)
    → values ≡ user_values user (after.lasts user) (after.programs user) → HasNoRow user old.now.trees
    → (IsTableIn users_tree old.now.trees → HasNoRow user old.now.trees → AddFaults users_table values old new e) → HasFailed old new ⊎ HasNoUserRoom user after old.now.trees
row_unadded old new user e is inside before stands values after same none adds =
    elim (adds (stands.tables.users_rise, user_keys old before stands) none is (stands_writable old before inside stands)) [
      | inl failed ↦ inl failed
      | inr (inl full) ↦ inr (inl (runs_out (old.now.trees users_tree) (old.now.trees users_tree) (λ r h. h) full))
      | inr (inr big) ↦ inr (inr (next_rowid (old.now.trees users_tree), subst (λ (v : Row). IsOversized store_schema users_table (Int (next_rowid (old.now.trees users_tree)) ∷ v)) same big))
    ]

-- another last number is refused in the row that he has
pub row_unrenewed : (old new : State) (user : List ℕ) (last : ℕ) (e : Error) → refusal_of e ≡ Database → IsTrue old.in_transaction → (before : Entries) → Stands old.now before → HasRow (old.now.trees users_tree) user
    → ((id : ℤ) (was : ℕ) (program : Option (List ℕ)) → IsOnlyRow user (user_row id user was program) old.now.trees → PutFaults users_table id (user_values user last program) old new e)
    → HasFailed old new ⊎ HasNoUserRoom user (with_last user last before) old.now.trees
row_unrenewed old new user last e is inside before stands known puts =
    let db = old.now.trees in
    let row = only_row db before user stands.tables known in
    let there = has_filtered (equals 1 (Text user)) (db users_tree) _ (subst (λ l. Has l (user_row row.0 user (before.lasts user) (before.programs user))) (sym row.1.1) (inl refl)) in
    elim (puts row.0 (before.lasts user) (before.programs user) row.1 is (stands_writable old before inside stands)) [
      | inl failed ↦ inl failed
      | inr (inl full) ↦ inr (inl (row.0, inr (user_row row.0 user (before.lasts user) (before.programs user), there.0, refl), 0, omega arith, ap fits_i64 (sym (same_id row.0)) ∙ full))
      | inr (inr big) ↦ inr (inr (row.0, rw (bytes_same user) big))
    ]

-- the row that is put in for a user who had none
pub first_values : (user : List ℕ) (last : ℕ) (before : Entries) → before.programs user ≡ None
    → Text user ∷ Int (pos last) ∷ Null ∷ [] ≡ user_values user ((with_last user last before).lasts user) ((with_last user last before).programs user)
first_values user last before none = rw (bytes_same user) (ap (λ (p : Option (List ℕ)). Text user ∷ Int (pos last) ∷ or_null Blob p ∷ []) (sym none))

-- ---- rowids

pub rises_none : (rows : List Row) → RisesFrom 0 rows rows
rises_none rows id h = (id, h, 0, omega arith, same_id id)

pub rises_more : (m n : ℕ) (rows more : List Row) → m ≤ n → RisesFrom m rows more → RisesFrom n rows more
rises_more m n rows more le rises id h = let from = rises id h in (from.0, from.1, from.2, omega (arith, from.3, le), from.4)

added_ids : (id : ℤ) (m n : ℕ) → (id +ℤ pos m) +ℤ pos n ≡ id +ℤ pos (m + n)
added_ids id m n = omega (arith, ints)

pub rises_after : (m n : ℕ) (one two three : List Row) → RisesFrom m one two → RisesFrom n two three → RisesFrom (m + n) one three
rises_after m n one two three first second id h =
    let b = second id h in
    let a = first b.0 b.1 in
    (a.0, a.1, a.2 + b.2, omega (arith, a.3, b.3), b.4 ∙ ap (λ z. z +ℤ pos b.2) a.4 ∙ added_ids a.0 a.2 b.2)

-- a row that is put in place of others has a rowid at most one above one that was there
pub rises_put : (old mid new : Trees) (values : Row) → ((r : Row) → Has (mid users_tree) r → Has (old users_tree) r) → IsAdded users_tree values mid new → RisesFrom 1 (old users_tree) (new users_tree)
rises_put old mid new values there added id (inl none) = (id, inl none, 0, omega arith, same_id id)
rises_put old mid new values there added id (inr (r, h, is)) = elim (added_has users_tree values mid new r added h) [
  | inl put ↦
      let first = next_follows (mid users_tree) in
      (first.0, wider (old users_tree) (mid users_tree) first.0 there first.1, 1, omega arith, is ∙ ap (λ (x : Row). id_in (rowid x)) put ∙ first.2)
  | inr was ↦ (id, inr (r, there r was, is), 0, omega arith, same_id id)
]

-- so many rows later the rowids had run out before
pub ran_out : (m n : ℕ) (old mid : List Row) → m < n → RisesFrom m old mid → RunsOut mid 1 → RunsOut old n
ran_out m n old mid lt rises (id, h, k, le, full) =
    let from = rises id h in
    (from.0, from.1, from.2 + k, omega (arith, from.3, le, lt), ap fits_i64 (sym (ap (λ z. z +ℤ pos k) from.4 ∙ added_ids from.0 from.2 k)) ∙ full)
