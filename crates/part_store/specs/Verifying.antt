-- What is promised of bytes that are read, whatever was done to the tables.
use Rattle.std.specs.Prelude.{◌≡◌, ◌≢◌, ◌⊎◌, ℕ, pos, true, false, List}
use Rattle.sha2.specs.Sha256.{sha256}
use Rattle.sqlite.specs.State.{State}
use Rattle.sqlite_value.specs.declared.value.Value.TheVariants.{Int, Text, Blob}
use Rattle.sqlite_value.specs.Order.{Row, column}
use Rattle.sqlite_trees.specs.Tree.{Trees}
use Rattle.sqlite_rules.specs.Lists.{Has}
use Rattle.part_store.specs.Refusals.{HasFailed}
use Rattle.part_store.specs.Tables.{store_schema, contents_tree, entries_tree, equals}
use Rattle.part_store.specs.declared.error.StoreError.{StoreError}
use Rattle.part_store.specs.declared.error.StoreError.TheVariants.{Database}

-- a row of the user's entry of that number names the digest
abbrev pub Names : Trees → List ℕ → ℕ → List ℕ → Type 0
Names db user number digest = (r : Row) × Has (db entries_tree) r × (equals 1 (Text user) r ≡ true)
    × (equals 2 (Int (pos number)) r ≡ true) × (column r 7 ≡ Blob digest)

-- the octets are in a row under the digest
abbrev pub Keeps : Trees → List ℕ → List ℕ → Type 0
Keeps db digest octets = (r : Row) × Has (db contents_tree) r × (equals 1 (Blob digest) r ≡ true)
    × (column r 2 ≡ Blob octets)

-- nothing is in a row under the digest, or what isn't octets that have it
abbrev pub Lacks : Trees → List ℕ → Type 0
Lacks db digest = ((r : Row) → Has (db contents_tree) r → equals 1 (Blob digest) r ≡ false)
    ⊎ ((r : Row) × Has (db contents_tree) r × (equals 1 (Blob digest) r ≡ true)
    × ((octets : List ℕ) → column r 2 ≡ Blob octets → sha256 octets ≢ digest))

-- a row of the user's entry of that number names no digest under which there are octets that have it
abbrev pub IsAltered : Trees → List ℕ → ℕ → Type 0
IsAltered db user number = (r : Row) × Has (db entries_tree) r × (equals 1 (Text user) r ≡ true)
    × (equals 2 (Int (pos number)) r ≡ true)
    × ((digest : List ℕ) → column r 7 ≡ Blob digest → Lacks db digest)

-- the octets are kept under their SHA-256, and the user's entry of that number names it
pub record IsVerified (db : Trees) (user : List ℕ) (number : ℕ) (octets : List ℕ) : Type 0 where
  pub named : Names db user number (sha256 octets)
  pub kept : Keeps db (sha256 octets) octets

-- where there are the three tables, the octets of an entry are refused with `Database` only by a database that can't
-- work, or because they were altered
abbrev pub OnlyWhenFailedOrAltered : List ℕ → ℕ → State → State → StoreError → Type 0
OnlyWhenFailedOrAltered user number old new e = e ≡ Database → old.now.schema ≡ store_schema
    → HasFailed old new ⊎ IsAltered old.now.trees user number
