-- Entries and contents that are found in the tables.
use Rattle.std.proofs.Common.{◌≡◌, inl, inr, ℕ, ℤ, pos, length, true, ◌&&◌, List, [], ◌∷◌, Some, None, refl, sym, ap, ap₂, subst, ◌∙◌, bytes_eq}
use Rattle.std.specs.List.{AllZip}
use Rattle.std.proofs.lemmas.Bool.{true≢false, and_parts, and_from, eqb-true, eq-eqb}
use Rattle.sqlite_value.specs.declared.value.Value.TheVariants.{Blob, Int}
use Rattle.sqlite_value.specs.Order.{Row, column}
use Rattle.sqlite_trees.specs.Tree.{Trees}
use Rattle.sqlite_rules.specs.Lists.{Has}
use Rattle.sqlite_rules.proofs.ListLemmas.{all_has}
use Rattle.sqlite.specs.State.{State}
use Rattle.part_store.specs.Tables.{contents_tree, entries_tree, equals, store_schema}
use Rattle.part_store.specs.Changes.{is_entry, columns, length_at, IsFound, Steps, Reads}
use Rattle.part_store.specs.Entries.{Entry, Entries, is_at}
use Rattle.part_store.specs.Standing.{IsEntryRow, IsContentRow, HasContent, content_row, StandsFor, Stands, IsEntryAt, HasNone}
use Rattle.part_store.specs.Readings.{NamesDigest}
use Rattle.part_store.specs.Verifying.{IsAltered, Keeps, Lacks, Names}
use Rattle.part_store.proofs.Equals.{blob_length, equal_texts, equal_blobs, equal_numbers, same_number}
use Rattle.part_store.proofs.Programs.{same_bytes, bytes_same}

pub zip_found : {X Y : Type 0} (R : X → Y → Type 0) (xs : List X) (ys : List Y) (x : X) → AllZip R xs ys → Has xs x → (y : Y) × Has ys y × R x y
zip_found R [] ys x all h = absurd h
zip_found R (z ∷ xs) [] x all h = absurd all
zip_found R (z ∷ xs) (y ∷ ys) x all (inl same) = (y, inl refl, subst (λ w. R w y) (sym same) all.0)
zip_found R (z ∷ xs) (y ∷ ys) x all (inr later) = let found = zip_found R xs ys x all.1 later in (found.0, inr found.1, found.2)

pub zip_has : {X Y : Type 0} (R : X → Y → Type 0) (xs : List X) (ys : List Y) (y : Y) → AllZip R xs ys → Has ys y → (x : X) × Has xs x × R x y
zip_has R xs [] y all h = absurd h
zip_has R [] (z ∷ ys) y all h = absurd all
zip_has R (x ∷ xs) (z ∷ ys) y all (inl same) = (x, inl refl, subst (R x) (sym same) all.0)
zip_has R (x ∷ xs) (z ∷ ys) y all (inr later) = let found = zip_has R xs ys y all.1 later in (found.0, inr found.1, found.2)

-- the row is the user's of that number exactly where its entry is
pub row_test : (contents : List Row) (r : Row) (x : Entry) (user : List ℕ) (number : ℕ) → IsEntryRow contents r x → is_entry user number r ≡ is_at user number x
row_test contents r x user number h = rw h.2 (ap₂ (λ a b. a && b) (equal_texts x.user user) (equal_numbers x.number number))

pub at_is : (e : Entries) (user : List ℕ) (number : ℕ) (x : Entry) → Has e.entries x → is_at user number x ≡ true → IsEntryAt e user number x
at_is e user number x h is = let parts = and_parts _ _ is in (h, same_bytes x.user user parts.0, eqb-true x.number number parts.1)

pub is_at_is : (e : Entries) (user : List ℕ) (number : ℕ) (x : Entry) → IsEntryAt e user number x → is_at user number x ≡ true
is_at_is e user number x h = and_from _ _ (rw h.1 (bytes_same user)) (eq-eqb x.number number h.2)

pub same_blob : (m n : List ℕ) → Blob m ≡ Blob n → m ≡ n
same_blob m n h = cc

module _ (old new : State) (user : List ℕ) (number : ℕ) where
  pub none_there : Steps (Reads (λ db. IsFound entries_tree (is_entry user number) (columns (7 ∷ [])) db None)) old new → (before : Entries) → Stands old.now before → HasNone before user number
  none_there reads before stands x h =
      let none = (reads stands.schema).change.1 in
      let r = zip_has _ (old.now.trees entries_tree) before.entries x stands.tables.entries h.0 in
      true≢false (sym (is_at_is before user number x h) ∙ sym (row_test (old.now.trees contents_tree) r.0 x user number r.2) ∙ none r.0 r.1)

  pub one_there : (row : Row) (digest : List ℕ) → Steps (Reads (λ db. IsFound entries_tree (is_entry user number) (columns (7 ∷ [])) db (Some row))) old new → column row 0 ≡ Blob digest
      → (before : Entries) → Stands old.now before → NamesDigest old.now.trees user number digest
  one_there row digest reads shown before stands =
      let found = (reads stands.schema).change.1 in
      (found.0, found.1, found.2, sym (ap (λ (r : Row). column r 0) found.3) ∙ shown)

  pub named_there : (row : Row) (digest : List ℕ) → Steps (Reads (λ db. IsFound entries_tree (is_entry user number) (columns (7 ∷ [])) db (Some row))) old new → column row 0 ≡ Blob digest
      → old.now.schema ≡ store_schema → Names old.now.trees user number digest
  named_there row digest reads shown has =
      let found = (reads has).change.1 in
      let parts = and_parts _ _ found.2 in
      (found.0, found.1, parts.0, parts.1, sym (ap (λ (r : Row). column r 0) found.3) ∙ shown)

  pub unnamed_there : (row : Row) → Steps (Reads (λ db. IsFound entries_tree (is_entry user number) (columns (7 ∷ [])) db (Some row))) old new
      → ((digest : List ℕ) → column row 0 ≡ Blob digest → ⊥) → old.now.schema ≡ store_schema → IsAltered old.now.trees user number
  unnamed_there row reads none has =
      let found = (reads has).change.1 in
      let parts = and_parts _ _ found.2 in
      (found.0, found.1, parts.0, parts.1, λ digest is. absurd (none digest (ap (λ (r : Row). column r 0) found.3 ∙ is)))

-- the entry of a row that names a digest has the octets under it
pub entry_there : (db : Trees) (e : Entries) (user : List ℕ) (number : ℕ) (digest : List ℕ) → StandsFor db e → NamesDigest db user number digest
    → (x : Entry) × IsEntryAt e user number x × HasContent (db contents_tree) digest x.octets
entry_there db e user number digest stands h =
    let x = zip_found _ (db entries_tree) e.entries h.0 stands.entries h.1 in
    let is : is_at user number x.0 ≡ true = sym (row_test (db contents_tree) h.0 x.0 user number x.2) ∙ h.2 in
    let same : digest ≡ x.2.1 = same_blob digest x.2.1 (sym h.3 ∙ ap (λ (r : Row). column r 7) x.2.2) in
    (x.0, at_is e user number x.0 x.1 is, subst (λ d. HasContent (db contents_tree) d x.0.octets) (sym same) x.2.3)

pub content_test : (r : Row) (id : ℤ) (d o digest : List ℕ) → r ≡ content_row id d o → equals 1 (Blob digest) r ≡ bytes_eq d digest
content_test r id d o digest h = rw h (equal_blobs d digest)

pub content_there : (old new : State) (digest : List ℕ) (row : Row) (octets : List ℕ) → Steps (Reads (λ db. IsFound contents_tree (equals 1 (Blob digest)) (columns (2 ∷ [])) db (Some row))) old new
    → column row 0 ≡ Blob octets → (before : Entries) → Stands old.now before → HasContent (old.now.trees contents_tree) digest octets
content_there old new digest row octets reads shown before stands =
    let found = (reads stands.schema).change.1 in
    let h = all_has IsContentRow (old.now.trees contents_tree) found.0 stands.tables.contents found.1 in
    let is : bytes_eq h.1 digest ≡ true = sym (content_test found.0 h.0 h.1 h.2 digest h.3) ∙ found.2 in
    let same : octets ≡ h.2 = same_blob octets h.2 (sym shown ∙ ap (λ (r : Row). column r 0) found.3 ∙ ap (λ (r : Row). column r 2) h.3) in
    (h.0, subst (Has (old.now.trees contents_tree)) (h.3 ∙ ap₂ (λ d o. content_row h.0 d o) (same_bytes h.1 digest is) (sym same)) found.1)

pub kept_there : (old new : State) (digest : List ℕ) (row : Row) (octets : List ℕ) → Steps (Reads (λ db. IsFound contents_tree (equals 1 (Blob digest)) (columns (2 ∷ [])) db (Some row))) old new
    → column row 0 ≡ Blob octets → old.now.schema ≡ store_schema → Keeps old.now.trees digest octets
kept_there old new digest row octets reads shown has =
    let found = (reads has).change.1 in
    (found.0, found.1, found.2, sym (ap (λ (r : Row). column r 0) found.3) ∙ shown)

pub lacking_there : (old new : State) (digest : List ℕ) (row : Row) → Steps (Reads (λ db. IsFound contents_tree (equals 1 (Blob digest)) (columns (2 ∷ [])) db (Some row))) old new
    → ((octets : List ℕ) → column row 0 ≡ Blob octets → ⊥) → old.now.schema ≡ store_schema → Lacks old.now.trees digest
lacking_there old new digest row reads none has =
    let found = (reads has).change.1 in
    inr (found.0, found.1, found.2, λ octets is. absurd (none octets (ap (λ (r : Row). column r 0) found.3 ∙ is)))

-- how long what is under a digest is
pub size_there : (old new : State) (digest : List ℕ) (row : Row) (n : ℕ) → Steps (Reads (λ db. IsFound contents_tree (equals 1 (Blob digest)) (length_at 2) db (Some row))) old new → column row 0 ≡ Int (pos n)
    → (before : Entries) → Stands old.now before → (octets : List ℕ) → HasContent (old.now.trees contents_tree) digest octets → n ≡ length octets
size_there old new digest row n reads shown before stands octets there =
    let found = (reads stands.schema).change.1 in
    let h = all_has IsContentRow (old.now.trees contents_tree) found.0 stands.tables.contents found.1 in
    let is : bytes_eq h.1 digest ≡ true = sym (content_test found.0 h.0 h.1 h.2 digest h.3) ∙ found.2 in
    let held : HasContent (old.now.trees contents_tree) digest h.2 = (h.0, subst (Has (old.now.trees contents_tree)) (h.3 ∙ ap (λ d. content_row h.0 d h.2) (same_bytes h.1 digest is)) found.1) in
    let same = stands.tables.single digest h.2 octets held there in
    let long : column row 0 ≡ Int (pos (length h.2)) = ap (λ (r : Row). column r 0) found.3 ∙ ap (λ (r : Row). column (length_at 2 r) 0) h.3 ∙ blob_length h.2 in
    same_number n (length h.2) (sym shown ∙ long) ∙ ap length same
