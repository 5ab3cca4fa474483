-- What the statements on the table of entries do.
use Rattle.std.proofs.Common.{ℕ, pos, ◌&&◌, List, [], ◌∷◌, codes, Ok, refl, ap, slice_get}
use Rattle.sqlite_value.specs.declared.value.Value.TheVariants.{Null, Int, Text, Blob}
use Rattle.sqlite_value.specs.Order.{Row}
use Rattle.sqlite_sql.specs.Term.{lit, col}
use Rattle.sqlite.specs.State.{State, ExecutesInside, Shown}
use Rattle.part_store.specs.Tables.{entry_columns, entry_references, entries_tree, equals}
use Rattle.part_store.specs.Statements.{list_entries_text, find_entry_text, add_entry_text, drop_entry_text}
use Rattle.part_store.specs.Changes.{Steps, Reads, IsFound, IsListed, IsAdded, IsTaken, is_entry, is_since, columns}
use Rattle.part_store.proofs.Meaning.{is_above, is_given, list_entries_query, list_entries_is, find_entry_query, find_entry_is, add_entry_is, drop_entry_is}
use Rattle.part_store.proofs.Ordered.{ordered}
use Rattle.part_store.proofs.Writes.{inserted, deleted, cast_null, cast_int}
use Rattle.part_store.proofs.Runs.{ran_as, stepped, read, found, found_as, taken_as, and_true}

pub entry_found : (old new : State) (user : List ℕ) (number : ℕ) (rows : List Row) → Shown find_entry_text (Text user ∷ Int (pos number) ∷ []) old new rows
    → Steps (Reads (λ db. IsFound entries_tree (is_entry user number) (columns (7 ∷ [])) db (slice_get rows 0))) old new
entry_found old new user number rows h =
    let params : Row = Text user ∷ Int (pos number) ∷ [] in
    read find_entry_text params old new find_entry_query _ find_entry_is rows h _ (λ a.
    found_as entries_tree _ (is_entry user number) _ (columns (7 ∷ [])) old.now.trees (slice_get rows 0) (λ r. ap (λ b. equals 1 (Text user) r && b) (and_true _)) (λ r. refl)
    (found 4 (is_given 1 0 ∷ is_given 2 1 ∷ []) (col 1 7 ∷ []) [] old.now.trees params rows a))

pub entry_taken : (old new : State) (user : List ℕ) (number count : ℕ) → ExecutesInside 0 drop_entry_text (Text user ∷ Int (pos number) ∷ []) old new (Ok count)
    → Steps (IsTaken entries_tree (is_entry user number)) old new
entry_taken old new user number count h =
    let params : Row = Text user ∷ Int (pos number) ∷ [] in
    stepped drop_entry_text params old new count _ h (λ has. (ran_as drop_entry_text params old new _ count drop_entry_is h has).sound) (λ has.
    let it = deleted 2 4 (codes "entries") entry_columns (1 ∷ 2 ∷ []) entry_references refl old new params _ count has (is_given 1 0 ∷ is_given 2 1 ∷ []) (ran_as drop_entry_text params old new _ count drop_entry_is h has) in
    (it.0, taken_as entries_tree _ (is_entry user number) old.now.trees new.now.trees (λ r. ap (λ b. equals 1 (Text user) r && b) (and_true _)) it.1))

pub entry_added : (old new : State) (user : List ℕ) (number : ℕ) (folder : List ℕ) (kind : ℕ) (name media digest : List ℕ) (count : ℕ)
    → ExecutesInside 0 add_entry_text (Text user ∷ Int (pos number) ∷ Blob folder ∷ Int (pos kind) ∷ Blob name ∷ Blob media ∷ Blob digest ∷ []) old new (Ok count)
    → Steps (IsAdded entries_tree (Text user ∷ Int (pos number) ∷ Blob folder ∷ Int (pos kind) ∷ Blob name ∷ Blob media ∷ Blob digest ∷ [])) old new
entry_added old new user number folder kind name media digest count h =
    let params : Row = Text user ∷ Int (pos number) ∷ Blob folder ∷ Int (pos kind) ∷ Blob name ∷ Blob media ∷ Blob digest ∷ [] in
    stepped add_entry_text params old new count _ h (λ has. (ran_as add_entry_text params old new _ count add_entry_is h has).sound) (λ has.
    inserted 2 4 (codes "entries") entry_columns (1 ∷ 2 ∷ []) entry_references refl old new params _ count has
    (lit Null ∷ col 0 0 ∷ col 0 1 ∷ col 0 2 ∷ col 0 3 ∷ col 0 4 ∷ col 0 5 ∷ col 0 6 ∷ []) 8 (Null ∷ params) params refl
    (rw (cast_null, cast_int (pos number), cast_int (pos kind))) (ran_as add_entry_text params old new _ count add_entry_is h has))

pub entries_listed : (old new : State) (user : List ℕ) (number : ℕ) (rows : List Row) → Shown list_entries_text (Text user ∷ Int (pos number) ∷ []) old new rows
    → Steps (Reads (IsListed entries_tree (is_since user number) (columns (2 ∷ 4 ∷ 3 ∷ 5 ∷ 6 ∷ 7 ∷ [])) rows)) old new
entries_listed old new user number rows h =
    let params : Row = Text user ∷ Int (pos number) ∷ [] in
    read list_entries_text params old new list_entries_query _ list_entries_is rows h _ (λ a.
    ordered 4 2 (is_given 1 0 ∷ is_above 2 1 ∷ []) (col 1 4 ∷ col 1 3 ∷ col 1 5 ∷ col 1 6 ∷ col 1 7 ∷ []) old.now.trees params (is_since user number) (columns (2 ∷ 4 ∷ 3 ∷ 5 ∷ 6 ∷ 7 ∷ [])) rows a
    (λ r. ap (λ b. equals 1 (Text user) r && b) (and_true _)) (λ r. refl))
