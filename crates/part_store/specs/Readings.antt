-- Private: what the rows of an answer show, and what is read of them.
use Rattle.std.specs.Prelude.{◌≡◌, ℕ, ◌^◌, ◌<◌, pos, List, [], ◌∷◌, Option, IsUtf8, true, String, Vec, string_bytes, nat_abs}
use Rattle.std.specs.declared.alloc.Global.{Global}
use Rattle.sqlite.specs.Values.{or_null}
use Rattle.sqlite_rules.specs.Lists.{Has}
use Rattle.sqlite_trees.specs.Tree.{Trees}
use Rattle.sqlite_value.specs.Order.{Row, column}
use Rattle.sqlite_value.specs.declared.value.Value.{Value}
use Rattle.sqlite_value.specs.declared.value.Value.TheVariants.{Int, Text, Blob}
use Rattle.part_store.specs.Changes.{is_entry}
use Rattle.part_store.specs.Entries.{Entry}
use Rattle.part_store.specs.Standing.{kind_number, HasContent}
use Rattle.part_store.specs.Tables.{contents_tree, entries_tree}
use Rattle.part_store.specs.declared.listing.Parts.{Parts}
use Rattle.part_store.specs.declared.user_row.UserRow.{UserRow}

-- the row of an answer can be read: a user and his program
abbrev pub ShowsProgram : Row → Type 0
ShowsProgram r = (user : List ℕ) × IsUtf8 user × (program : List ℕ) × (r ≡ Text user ∷ Blob program ∷ [])

-- a user, his last number and his program
abbrev pub ShowsUser : Row → Type 0
ShowsUser r =
    (user : List ℕ) × IsUtf8 user × (last : ℕ) × (last < 2 ^ 32) × (program : Option (List ℕ))
    × (r ≡ Text user ∷ Int (pos last) ∷ or_null Blob program ∷ [])

-- a digest, and how many octets are under it
abbrev pub ShowsSize : Row → Type 0
ShowsSize r = (digest : List ℕ) × (size : ℕ) × (r ≡ Blob digest ∷ Int (pos size) ∷ [])

-- what a listing shows of an entry
abbrev pub IsReadable : Row → Type 0
IsReadable r =
    (number : ℕ) × (kind : ℕ) × (folder : List ℕ) × (name : List ℕ) × (media : List ℕ) × (digest : List ℕ)
    × (number < 2 ^ 32) × (kind < 2 ^ 32)
    × (r ≡ Int (pos number) ∷ Int (pos kind) ∷ Blob folder ∷ Blob name ∷ Blob media ∷ Blob digest ∷ [])

-- a row of the user's entry of that number names the digest
abbrev pub NamesDigest : Trees → List ℕ → ℕ → List ℕ → Type 0
NamesDigest db user number digest = (r : Row) × Has (db entries_tree) r × (is_entry user number r ≡ true)
    × (column r 7 ≡ Blob digest)

-- the same as the row of an answer
abbrev pub row_of : String Global × Vec ℕ Global → Row
row_of pair = Text (string_bytes pair.0) ∷ Blob pair.1.items ∷ []

-- a row of the answer to a listing shows the entry
abbrev pub Shows : Trees → Row → Entry → Type 0
Shows db row x =
    (digest : List ℕ) × (row ≡ Int (pos x.number) ∷ Int (pos (kind_number x.kind)) ∷ Blob x.folder ∷ Blob x.name
    ∷ Blob x.media ∷ Blob digest ∷ []) × HasContent (db contents_tree) digest x.octets

-- what was read of a row that shows an entry is of that entry
pub record ArePartsOf (parts : Parts) (x : Entry) (named : List ℕ) : Type 0 where
  pub number : parts.number ≡ x.number
  pub kind : parts.kind ≡ x.kind
  pub folder : parts.folder.items ≡ x.folder
  pub name : parts.name.items ≡ x.name
  pub media : parts.media.items ≡ x.media
  pub digest : parts.digest.items ≡ named

abbrev pub IsParts : Row → Parts → Type 0
IsParts row parts =
    (x : Entry) (digest : List ℕ) → row ≡ Int (pos x.number) ∷ Int (pos (kind_number x.kind)) ∷ Blob x.folder
    ∷ Blob x.name ∷ Blob x.media ∷ Blob digest ∷ []
    → ArePartsOf parts x digest

-- the number that a value is
abbrev pub number_of : Value → ℕ
number_of (Int number) = nat_abs number
number_of _ = 0

-- the same as the row of an answer
abbrev pub answer_of : UserRow → Row
answer_of row = Text (string_bytes row.user) ∷ Int (pos row.last) ∷ or_null (λ v. Blob v.items) row.program ∷ []
