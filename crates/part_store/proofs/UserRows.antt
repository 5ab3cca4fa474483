-- What the statements on the table of users do.
use Rattle.std.proofs.Common.{◌≡◌, ◌&&◌, ℕ, ℤ, pos, Bool, true, false, not, List, [], ◌∷◌, codes, Option, Some, None, Ok, refl, sym, ap, ap₂, is_eq, slice_get, Bor, ◌∙◌}
use Rattle.std.proofs.lemmas.Cmp.{tied_itself}
use Rattle.sqlite_value.specs.declared.value.Value.{Value}
use Rattle.sqlite_value.specs.declared.value.Value.TheVariants.{Null, Int, Text, Blob}
use Rattle.sqlite_value.specs.Order.{Row, column, value_cmp}
use Rattle.sqlite_value.proofs.OrderLemmas.{value_cmp_total}
use Rattle.sqlite_value.specs.Keys.{ascending, collated}
use Rattle.sqlite_value.specs.declared.keys.Collation.TheVariants.{Binary}
use Rattle.sqlite_trees.specs.Tree.{Trees, put_row}
use Rattle.sqlite_sql.specs.Ops.{binary, from_truth, is_null, is_true, unary}
use Rattle.sqlite_rules.specs.Edit.{is_taken}
use Rattle.sqlite_sql.specs.Term.{Term, lit, col, op1, op2}
use Rattle.sqlite_sql.specs.declared.ops.UnaryOp.TheVariants.{Not}
use Rattle.sqlite_sql.specs.declared.ops.BinaryOp.TheVariants.{Is}
use Rattle.sqlite.specs.Values.{or_null, bound_value}
use Rattle.sqlite.specs.State.{State, ExecutesInside, Shown}
use Rattle.part_store.specs.Tables.{user_columns, users_tree, equals}
use Rattle.part_store.specs.Statements.{find_user_text, find_last_text, renew_user_text, drop_user_text, add_user_text, list_programs_text, list_users_text}
use Rattle.part_store.specs.Changes.{Steps, Reads, IsFound, IsListed, IsAdded, IsRenewed, IsTaken, user_row, columns, every, has_program}
use Rattle.part_store.proofs.Meaning.{is_given, find_user_query, find_user_is, find_last_query, find_last_is, renew_user_is, list_programs_query, list_programs_is, list_users_query, list_users_is, drop_user_is, add_user_is}
use Rattle.part_store.proofs.Ordered.{ordered}
use Rattle.part_store.proofs.Rows.{passes}
use Rattle.part_store.proofs.Updating.{becomes, updated}
use Rattle.part_store.proofs.Writes.{inserted, deleted, cast_null, cast_int, filter_same, passing}
use Rattle.part_store.proofs.Runs.{ran_as, stepped, read, found, found_as, taken_as, and_true}

pub user_found : (old new : State) (user : List ℕ) (rows : List Row) → Shown find_user_text (Text user ∷ []) old new rows
    → Steps (Reads (λ db. IsFound users_tree (equals 1 (Text user)) (columns (2 ∷ 3 ∷ [])) db (slice_get rows 0))) old new
user_found old new user rows h =
    read find_user_text (Text user ∷ []) old new find_user_query _ find_user_is rows h _ (λ a.
    found_as users_tree _ (equals 1 (Text user)) _ (columns (2 ∷ 3 ∷ [])) old.now.trees (slice_get rows 0) (λ r. and_true _) (λ r. refl)
    (found 0 (is_given 1 0 ∷ []) (col 1 2 ∷ col 1 3 ∷ []) [] old.now.trees (Text user ∷ []) rows a))

pub last_found : (old new : State) (user : List ℕ) (rows : List Row) → Shown find_last_text (Text user ∷ []) old new rows
    → Steps (Reads (λ db. IsFound users_tree (equals 1 (Text user)) (columns (2 ∷ [])) db (slice_get rows 0))) old new
last_found old new user rows h =
    read find_last_text (Text user ∷ []) old new find_last_query _ find_last_is rows h _ (λ a.
    found_as users_tree _ (equals 1 (Text user)) _ (columns (2 ∷ [])) old.now.trees (slice_get rows 0) (λ r. and_true _) (λ r. refl)
    (found 0 (is_given 1 0 ∷ []) (col 1 2 ∷ []) [] old.now.trees (Text user ∷ []) rows a))

-- only null is as null
as_null : (v : Value) → is_eq (collated Binary v Null) ≡ is_null v
unfolding value_cmp
as_null Null = ap is_eq (tied_itself value_cmp_total Null)
as_null _ = refl

not_true : (b : Bool) → (is_true (unary Not (from_truth (Some b))) && true) ≡ not b
unfolding unary
not_true true = refl
not_true false = refl

-- a row passes where its program isn't null
passes_not_null : (db : Trees) (r : Row) → passes 0 (op1 Not (op2 (Is Binary) (col 1 3) (lit Null)) ∷ []) (col 1 1 ∷ col 1 3 ∷ []) ((col 1 1, ascending Binary) ∷ []) db [] r ≡ has_program r
unfolding unary binary
passes_not_null db r = not_true (is_eq (collated Binary (column r 3) Null)) ∙ ap not (as_null (column r 3))

pub programs_listed : (old new : State) (rows : List Row) → Shown list_programs_text [] old new rows → Steps (Reads (IsListed users_tree has_program (columns (1 ∷ 3 ∷ [])) rows)) old new
programs_listed old new rows h =
    read list_programs_text [] old new list_programs_query _ list_programs_is rows h _ (λ a.
    ordered 0 1 (op1 Not (op2 (Is Binary) (col 1 3) (lit Null)) ∷ []) (col 1 3 ∷ []) old.now.trees [] has_program (columns (1 ∷ 3 ∷ [])) rows a (passes_not_null old.now.trees) (λ r. refl))

pub users_listed : (old new : State) (rows : List Row) → Shown list_users_text [] old new rows → Steps (Reads (IsListed users_tree every (columns (1 ∷ 2 ∷ 3 ∷ [])) rows)) old new
users_listed old new rows h =
    read list_users_text [] old new list_users_query _ list_users_is rows h _ (λ a.
    ordered 0 1 [] (col 1 2 ∷ col 1 3 ∷ []) old.now.trees [] every (columns (1 ∷ 2 ∷ 3 ∷ [])) rows a (λ r. refl) (λ r. refl))

pub user_taken : (old new : State) (user : List ℕ) (count : ℕ) → ExecutesInside 0 drop_user_text (Text user ∷ []) old new (Ok count) → Steps (IsTaken users_tree (equals 1 (Text user))) old new
user_taken old new user count h = stepped drop_user_text (Text user ∷ []) old new count _ h (λ has. (ran_as drop_user_text (Text user ∷ []) old new _ count drop_user_is h has).sound) (λ has.
    let it = deleted 0 0 (codes "users") user_columns (1 ∷ []) [] refl old new (Text user ∷ []) _ count has (is_given 1 0 ∷ []) (ran_as drop_user_text (Text user ∷ []) old new _ count drop_user_is h has) in
    (it.0, taken_as users_tree _ (equals 1 (Text user)) old.now.trees new.now.trees (λ r. and_true _) it.1))

pub user_added : (old new : State) (user : List ℕ) (last : ℕ) (program : Option (Bor (List ℕ))) (count : ℕ)
    → ExecutesInside 0 add_user_text (Text user ∷ Int (pos last) ∷ or_null (λ octets. Blob octets.now) program ∷ []) old new (Ok count)
    → Steps (IsAdded users_tree (Text user ∷ Int (pos last) ∷ or_null (λ octets. Blob octets.now) program ∷ [])) old new
user_added old new user last program count h =
    let params : Row = Text user ∷ Int (pos last) ∷ or_null (λ octets. Blob octets.now) program ∷ [] in
    stepped add_user_text params old new count _ h (λ has. (ran_as add_user_text params old new _ count add_user_is h has).sound) (λ has.
    inserted 0 0 (codes "users") user_columns (1 ∷ []) [] refl old new params _ count has (lit Null ∷ col 0 0 ∷ col 0 1 ∷ col 0 2 ∷ []) 4 (Null ∷ params) params refl
    (rw (cast_null, cast_int)) (ran_as add_user_text params old new _ count add_user_is h has))

-- the columns of a row that gets another last number
abbrev pub renewed_columns : List Term
renewed_columns = col 1 0 ∷ col 1 1 ∷ col 0 1 ∷ col 1 3 ∷ []

-- the row's own values stay, but for that number
pub renewed_row : (db : Trees) (id : ℤ) (user : List ℕ) (was last : ℕ) (program : Option (List ℕ))
    → becomes 0 0 (codes "users") user_columns (1 ∷ []) [] refl db (Text user ∷ Int (pos last) ∷ []) (is_given 1 0 ∷ []) renewed_columns (user_row id user was program) ≡ user_row id user last program
renewed_row db id user was last program = rw (cast_int id, cast_int (pos last)) refl

-- the test of the UPDATE is that of the user
pub same_test : (db : Trees) (params : Row) (user : List ℕ) → column params 0 ≡ Text user → (r : Row) → passing 0 0 (codes "users") user_columns (1 ∷ []) [] refl db params (is_given 1 0 ∷ []) renewed_columns r ≡ equals 1 (Text user) r
same_test db params user is r = and_true _ ∙ ap (λ v. equals 1 v r) is

pub user_renewed : (old new : State) (user : List ℕ) (last count : ℕ) → ExecutesInside 0 renew_user_text (Text user ∷ Int (pos last) ∷ []) old new (Ok count) → Steps (IsRenewed user last) old new
user_renewed old new user last count h =
    let params : Row = Text user ∷ Int (pos last) ∷ [] in
    stepped renew_user_text params old new count _ h (λ has. (ran_as renew_user_text params old new _ count renew_user_is h has).sound) (λ has.
    let it = updated 0 0 (codes "users") user_columns (1 ∷ []) [] refl old new params _ count has (is_given 1 0 ∷ []) renewed_columns (ran_as renew_user_text params old new _ count renew_user_is h has) in (
      it.0,
      λ id was program only.
          let db = old.now.trees in
          let same = same_test db params user refl in
          let rest = filter_same _ (λ r. not (equals 1 (Text user) r)) (db users_tree) (λ r _. ap not (same r)) in
          let put = it.1 (user_row id user was program) (filter_same _ _ (db users_tree) (λ r _. same r) ∙ only.1) only.0.0 only.0.1 in
          let row = renewed_row db id user was last program in
          record { free = sym (ap₂ is_taken rest row) ∙ put.0; rows = put.1 ∙ ap₂ (λ l r. put_row r l) rest row; others = (λ h. absurd (h refl), put.2.1) },
    ))

-- a program, or none, is bound as it is
pub bound_program : (program : Option (Bor (List ℕ))) → bound_value (or_null (λ octets. Blob octets.now) program) ≡ or_null (λ octets. Blob octets.now) program
bound_program None = refl
bound_program (Some octets) = refl
