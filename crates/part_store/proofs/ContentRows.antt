-- What the statements on the table of contents do.
use Rattle.std.proofs.Common.{ℕ, List, [], ◌∷◌, codes, Ok, refl, slice_get}
use Rattle.sqlite_value.specs.declared.value.Value.TheVariants.{Null, Blob}
use Rattle.sqlite_value.specs.Order.{Row}
use Rattle.sqlite_sql.specs.Term.{lit, col, op1}
use Rattle.sqlite_sql.specs.declared.ops.UnaryOp.TheVariants.{Length}
use Rattle.sqlite.specs.State.{State, ExecutesInside, Shown}
use Rattle.part_store.specs.Tables.{content_columns, contents_tree, equals}
use Rattle.part_store.specs.Statements.{find_content_text, size_content_text, list_contents_text, add_content_text, drop_content_text}
use Rattle.part_store.specs.Changes.{Steps, Reads, IsFound, IsAdded, IsTaken, IsListed, every, columns, length_at, sized}
use Rattle.part_store.proofs.Meaning.{is_given, find_content_query, find_content_is, size_content_query, size_content_is, list_contents_query, list_contents_is, add_content_is, drop_content_is}
use Rattle.part_store.proofs.Ordered.{ordered}
use Rattle.part_store.proofs.Writes.{inserted, deleted, cast_null}
use Rattle.part_store.proofs.Runs.{ran_as, stepped, read, found, found_as, taken_as, and_true}

pub content_found : (old new : State) (digest : List ℕ) (rows : List Row) → Shown find_content_text (Blob digest ∷ []) old new rows
    → Steps (Reads (λ db. IsFound contents_tree (equals 1 (Blob digest)) (columns (2 ∷ [])) db (slice_get rows 0))) old new
content_found old new digest rows h =
    read find_content_text (Blob digest ∷ []) old new find_content_query _ find_content_is rows h _ (λ a.
    found_as contents_tree _ (equals 1 (Blob digest)) _ (columns (2 ∷ [])) old.now.trees (slice_get rows 0) (λ r. and_true _) (λ r. refl)
    (found 2 (is_given 1 0 ∷ []) (col 1 2 ∷ []) [] old.now.trees (Blob digest ∷ []) rows a))

pub content_sized : (old new : State) (digest : List ℕ) (rows : List Row) → Shown size_content_text (Blob digest ∷ []) old new rows
    → Steps (Reads (λ db. IsFound contents_tree (equals 1 (Blob digest)) (length_at 2) db (slice_get rows 0))) old new
content_sized old new digest rows h =
    read size_content_text (Blob digest ∷ []) old new size_content_query _ size_content_is rows h _ (λ a.
    found_as contents_tree _ (equals 1 (Blob digest)) _ (length_at 2) old.now.trees (slice_get rows 0) (λ r. and_true _) (λ r. refl)
    (found 2 (is_given 1 0 ∷ []) (op1 Length (col 1 2) ∷ []) [] old.now.trees (Blob digest ∷ []) rows a))

pub contents_listed : (old new : State) (rows : List Row) → Shown list_contents_text [] old new rows → Steps (Reads (IsListed contents_tree every sized rows)) old new
contents_listed old new rows h =
    read list_contents_text [] old new list_contents_query _ list_contents_is rows h _ (λ a.
    ordered 2 1 [] (op1 Length (col 1 2) ∷ []) old.now.trees [] every sized rows a (λ r. refl) (λ r. refl))

pub content_taken : (old new : State) (digest : List ℕ) (count : ℕ) → ExecutesInside 0 drop_content_text (Blob digest ∷ []) old new (Ok count) → Steps (IsTaken contents_tree (equals 1 (Blob digest))) old new
content_taken old new digest count h = stepped drop_content_text (Blob digest ∷ []) old new count _ h (λ has. (ran_as drop_content_text (Blob digest ∷ []) old new _ count drop_content_is h has).sound) (λ has.
    let it = deleted 1 2 (codes "contents") content_columns (1 ∷ []) [] refl old new (Blob digest ∷ []) _ count has (is_given 1 0 ∷ []) (ran_as drop_content_text (Blob digest ∷ []) old new _ count drop_content_is h has) in
    (it.0, taken_as contents_tree _ (equals 1 (Blob digest)) old.now.trees new.now.trees (λ r. and_true _) it.1))

pub content_added : (old new : State) (digest octets : List ℕ) (count : ℕ) → ExecutesInside 0 add_content_text (Blob digest ∷ Blob octets ∷ []) old new (Ok count)
    → Steps (IsAdded contents_tree (Blob digest ∷ Blob octets ∷ [])) old new
content_added old new digest octets count h =
    let params : Row = Blob digest ∷ Blob octets ∷ [] in
    stepped add_content_text params old new count _ h (λ has. (ran_as add_content_text params old new _ count add_content_is h has).sound) (λ has.
    inserted 1 2 (codes "contents") content_columns (1 ∷ []) [] refl old new params _ count has (lit Null ∷ col 0 0 ∷ col 0 1 ∷ []) 3 (Null ∷ params) params refl
    (rw cast_null) (ran_as add_content_text params old new _ count add_content_is h has))
