-- What was found in tables that stand for a state can be read.
use Rattle.std.proofs.Common.{◌≡◌, ◌⊎◌, inl, inr, ℕ, ◌^◌, ◌<◌, pos, List, [], ◌∷◌, length, Option, Some, None, refl, sym, ap, subst, ◌∙◌, arith}
use Rattle.std.proofs.lemmas.Bool.{true≢false}
use Rattle.sqlite_value.specs.declared.value.Value.TheVariants.{Null, Int, Text, Blob}
use Rattle.sqlite_value.specs.Order.{Row, column}
use Rattle.sqlite_rules.proofs.ListLemmas.{all_has}
use Rattle.sqlite.specs.State.{State}
use Rattle.sqlite.specs.Values.{or_null}
use Rattle.part_store.specs.Tables.{users_tree, contents_tree, entries_tree, equals}
use Rattle.part_store.specs.Changes.{is_entry, columns, length_at, IsFound, Steps, Reads}
use Rattle.part_store.specs.Entries.{Entries}
use Rattle.part_store.specs.Standing.{IsContentRow, HasContent, Stands}
use Rattle.part_store.proofs.Equals.{blob_length, equal_blobs}
use Rattle.part_store.proofs.Finding.{zip_found}
use Rattle.part_store.proofs.Programs.{bytes_same, found_user}

-- the column is there, and holds a blob
abbrev pub IsBlobAt : ℕ → Row → Type 0
IsBlobAt at row = (at < length row) × ((octets : List ℕ) × (column row at ≡ Blob octets))

-- the same of a number
abbrev pub IsNumberAt : ℕ → Row → Type 0
IsNumberAt at row = (at < length row) × ((n : ℕ) × (column row at ≡ Int (pos n)))

abbrev pub IsShortAt : ℕ → Row → Type 0
IsShortAt at row = (at < length row) × ((n : ℕ) × (column row at ≡ Int (pos n)) × (n < 2 ^ 32))

-- the same of a blob or none
abbrev pub MayBeBlobAt : ℕ → Row → Type 0
MayBeBlobAt at row = (at < length row) × ((column row at ≡ Null) ⊎ ((octets : List ℕ) × (column row at ≡ Blob octets)))

module _ (old new : State) (before : Entries) (stands : Stands old.now before) (row : Row) where
  pub digest_readable : (user : List ℕ) (number : ℕ) → Steps (Reads (λ db. IsFound entries_tree (is_entry user number) (columns (7 ∷ [])) db (Some row))) old new → IsBlobAt 0 row
  digest_readable user number reads =
      let found = (reads stands.schema).change.1 in
      let x = zip_found _ (old.now.trees entries_tree) before.entries found.0 stands.tables.entries found.1 in
      subst (IsBlobAt 0) (sym found.3) (omega arith, (x.2.1, ap (λ (r : Row). column r 7) x.2.2))

  pub octets_readable : (digest : List ℕ) → Steps (Reads (λ db. IsFound contents_tree (equals 1 (Blob digest)) (columns (2 ∷ [])) db (Some row))) old new → IsBlobAt 0 row
  octets_readable digest reads =
      let found = (reads stands.schema).change.1 in
      let h = all_has IsContentRow (old.now.trees contents_tree) found.0 stands.tables.contents found.1 in
      subst (IsBlobAt 0) (sym found.3) (omega arith, (h.2, ap (λ (r : Row). column r 2) h.3))

  pub size_readable : (digest : List ℕ) → Steps (Reads (λ db. IsFound contents_tree (equals 1 (Blob digest)) (length_at 2) db (Some row))) old new → IsNumberAt 0 row
  size_readable digest reads =
      let found = (reads stands.schema).change.1 in
      let h = all_has IsContentRow (old.now.trees contents_tree) found.0 stands.tables.contents found.1 in
      subst (IsNumberAt 0) (sym found.3) (omega arith, (length h.2, ap (λ (r : Row). column (length_at 2 r) 0) h.3 ∙ blob_length h.2))

  may_be : (program : Option (List ℕ)) → (or_null Blob program ≡ Null) ⊎ ((octets : List ℕ) × (or_null Blob program ≡ Blob octets))
  may_be None = inl refl
  may_be (Some octets) = inr (octets, refl)

  pub user_readable : (user : List ℕ) → Steps (Reads (λ db. IsFound users_tree (equals 1 (Text user)) (columns (2 ∷ 3 ∷ [])) db (Some row))) old new → IsShortAt 0 row × MayBeBlobAt 1 row
  user_readable user reads =
      let found = (reads stands.schema).change.1 in
      let r = found_user old.now.trees before stands.tables user found.0 found.1 found.2 in
      let shown : row ≡ Int (pos (before.lasts user)) ∷ or_null Blob (before.programs user) ∷ [] = found.3 ∙ ap (columns (2 ∷ 3 ∷ [])) r.1 in
      subst (λ w. IsShortAt 0 w × MayBeBlobAt 1 w) (sym shown) ((omega arith, (before.lasts user, refl, omega (arith, stands.tables.numbers.limit user))), (omega arith, may_be (before.programs user)))

  pub last_readable : (user : List ℕ) → Steps (Reads (λ db. IsFound users_tree (equals 1 (Text user)) (columns (2 ∷ [])) db (Some row))) old new → IsShortAt 0 row
  last_readable user reads =
      let found = (reads stands.schema).change.1 in
      let r = found_user old.now.trees before stands.tables user found.0 found.1 found.2 in
      subst (IsShortAt 0) (sym (found.3 ∙ ap (columns (2 ∷ [])) r.1)) (omega arith, (before.lasts user, refl, omega (arith, stands.tables.numbers.limit user)))

-- content under a digest is found, whatever is shown of it
pub not_missing : (shown : Row → Row) (old new : State) (before : Entries) → Stands old.now before → (digest octets : List ℕ)
    → Steps (Reads (λ db. IsFound contents_tree (equals 1 (Blob digest)) shown db None)) old new → HasContent (old.now.trees contents_tree) digest octets → ⊥
not_missing shown old new before stands digest octets reads there =
    let none = (reads stands.schema).change.1 _ there.1 in
    true≢false (sym (bytes_same digest) ∙ sym (equal_blobs digest digest) ∙ none)
