-- Private: how the digests of contents that several entries have are noted.
use Rattle.std.specs.Prelude.{◌≡◌, ℕ, ◌+◌, ◌<◌, Bool, true, List, [], Some, length, map, slice_get, slice_index_or}
use Rattle.std.specs.BTreeMap.{BTreeMap, get}
use Rattle.std.specs.Cmp.Lexicographic.{slice_cmp}
use Rattle.std.specs.Ordering.{nat_cmp}
use Rattle.sha2.specs.Sha256.{sha256}
use Rattle.sqlite_trees.specs.Tree.{Trees}
use Rattle.part_store.specs.Entries.{Draft, Entry}
use Rattle.part_store.specs.Sharing.{first_of, octets_at, SharesContents}
use Rattle.part_store.specs.Standing.{HasContent}
use Rattle.part_store.specs.Tables.{contents_tree}
use Rattle.part_store.specs.declared.shared.Shared.{Shared}

-- what a list has at a place past its end
abbrev pub none_shared : Shared
none_shared = record { first = 0; digest = [] }

-- the digest that was noted at the earlier place that is named for this one
abbrev pub IsKnown : List Shared → ℕ → List ℕ → Type 0
IsKnown shared place digest =
    (place < length shared) × ((slice_index_or shared place none_shared).first < place)
    × (digest ≡ (slice_index_or shared (slice_index_or shared place none_shared).first none_shared).digest)

-- before a place each digest was noted
pub record AreNoted (drafts : List Draft) (place : ℕ) (shared : List Shared) : Type 0 where
  pub shares : SharesContents drafts (map first_of shared)
  pub digests : (earlier : ℕ) → earlier < place → earlier < length shared
      → (slice_index_or shared earlier none_shared).digest ≡ sha256 (octets_at drafts earlier)

-- the digest of the octets at a place, whether an earlier draft has them, and that the digest was noted
pub record IsTold (drafts : List Draft) (place : ℕ) (octets : List ℕ) (shared : List Shared) (digest : List ℕ) (is_there : Bool) : Type 0 where
  pub is : digest ≡ sha256 octets
  pub earlier : is_there ≡ true → (first : ℕ) × (first < place) × (octets_at drafts first ≡ octets)
  pub noted : AreNoted drafts (place + 1) shared

-- ---- entries that are listed

-- a digest has one content
abbrev pub HaveOneContent : Trees → Type 0
HaveOneContent db =
    (digest one other : List ℕ) → HasContent (db contents_tree) digest one → HasContent (db contents_tree) digest other → one ≡ other

-- there is an entry at the place, and its octets are kept under the digest
abbrev pub HasContentAt : Trees → List Entry → ℕ → List ℕ → Type 0
HasContentAt db xs place digest = (x : Entry) × (slice_get xs place ≡ Some x) × HasContent (db contents_tree) digest x.octets

-- what is noted for digests are such places
abbrev pub AreFirsts : Trees → List Entry → BTreeMap (List ℕ) ℕ → Type 0
AreFirsts db xs firsts = (digest : List ℕ) (place : ℕ) → get (slice_cmp nat_cmp) firsts digest ≡ Some place → HasContentAt db xs place digest
