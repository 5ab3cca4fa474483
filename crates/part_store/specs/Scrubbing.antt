-- What a scrub finds: the contents that are damaged, and the entries that refer to them.
use Rattle.std.specs.Prelude.{◌≡◌, ◌⊎◌, ℕ, ◌<◌, ◌≤◌, ◌^◌, Bool, true, not, ◌&&◌, List, [], filter, length, map, bytes_eq, string_bytes}
use Rattle.std.specs.List.{AllByRecursion, list_any}
use Rattle.std.specs.Ordering.{nat_cmp}
use Rattle.std.specs.Cmp.Lexicographic.{slice_cmp}
use Rattle.std.specs.declared.cmp.Ordering.TheVariants.{Less}
use Rattle.sha2.specs.Sha256.{sha256}
use Rattle.sqlite_value.specs.declared.value.Value.{Value}
use Rattle.sqlite_value.specs.declared.value.Value.TheVariants.{Blob}
use Rattle.sqlite_value.specs.Order.{Row, column}
use Rattle.sqlite_trees.specs.Tree.{Trees, IsAscending}
use Rattle.sqlite_rules.specs.Lists.{Has}
use Rattle.sqlite.specs.State.{State}
use Rattle.part_store.specs.Entries.{Entry, Entries}
use Rattle.part_store.specs.Refusals.{AreNamed, OnlyWhenFailedOr}
use Rattle.part_store.specs.Tables.{contents_tree}
use Rattle.part_store.specs.Totals.{IsTotalOf, octets_of}
use Rattle.part_store.specs.Verifying.{Names}
use Rattle.part_store.specs.declared.error.StoreError.{StoreError}
use Rattle.part_store.specs.declared.scrubbing.DamagedEntry.{DamagedEntry}
use Rattle.part_store.specs.declared.scrubbing.Scrubbed.{Scrubbed}

-- the octets that a value is
abbrev pub blob_in : Value → List ℕ
blob_in (Blob octets) = octets
blob_in _ = []

-- a row of the table of contents is damaged: the SHA-256 of its octets isn't the digest that they are under
abbrev pub is_damaged : Row → Bool
is_damaged r = not (bytes_eq (sha256 (blob_in (column r 2))) (blob_in (column r 1)))

-- a damaged row of the table of contents has this digest
abbrev pub is_damaged_under : List Row → List ℕ → Bool
is_damaged_under contents digest = list_any (λ r. bytes_eq (blob_in (column r 1)) digest && is_damaged r) contents

-- the row of the entry names the digest of a damaged content
abbrev pub RefersToDamaged : Trees → Entry → Type 0
RefersToDamaged db x = (digest : List ℕ) × Names db x.user x.number digest
    × (is_damaged_under (db contents_tree) digest ≡ true)

-- what a scrub tells of an entry
pub record DamagedLine : Type 0 where
  pub user : List ℕ
  pub number : ℕ
  pub folder : List ℕ

abbrev pub damaged_line : DamagedEntry → DamagedLine
damaged_line it = record { user = string_bytes it.user; number = it.number; folder = it.folder.items }

abbrev pub line_of_entry : Entry → DamagedLine
line_of_entry x = record { user = x.user; number = x.number; folder = x.folder }

-- the first is of a user whose name comes before, octet by octet, or it is of the same user and has a lower number
abbrev pub IsBeforeDamaged : DamagedLine → DamagedLine → Type 0
IsBeforeDamaged one other = (slice_cmp nat_cmp one.user other.user ≡ Less)
    ⊎ ((one.user ≡ other.user) × (one.number < other.number))

-- the entries that refer to a damaged content, each once: users in the order of their names, the
-- entries of a user in that of their numbers
pub record AreDamagedOf (db : Trees) (e : Entries) (lines : List DamagedLine) : Type 0 where
  pub each : AllByRecursion (λ l. (x : Entry) × Has e.entries x × RefersToDamaged db x × (l ≡ line_of_entry x)) lines
  pub all : (x : Entry) → Has e.entries x → RefersToDamaged db x → Has lines (line_of_entry x)
  pub rising : IsAscending IsBeforeDamaged lines

-- how many contents there are, and their octets; how many are damaged; and the entries that refer to those
pub record IsScrubbed (db : Trees) (e : Entries) (x : Scrubbed) : Type 0 where
  pub contents : IsTotalOf (db contents_tree) x.contents
  pub damaged : x.damaged ≡ length (filter is_damaged (db contents_tree))
  pub entries : AreDamagedOf db e (map damaged_line x.entries.items)

-- where the tables stand for a state and the users' names are UTF-8, a scrub is refused `Database`
-- only by a database that can't work, or because the contents have 2^64 octets or more
abbrev pub OnlyWhenUncounted : State → State → StoreError → Type 0
OnlyWhenUncounted old new e = AreNamed old.now.trees → OnlyWhenFailedOr (λ _ db. 2 ^ 64 ≤ octets_of (db contents_tree)) old new e
