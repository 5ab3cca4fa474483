-- The state that the tables stand for.
use Rattle.std.specs.Prelude.{◌≡◌, ◌⊎◌, ℕ, ◌<◌, ◌≤◌, ℤ, pos, true, false, List, [], ◌∷◌, None, IsTrue, String, Vec, string_bytes}
use Rattle.std.specs.declared.alloc.Global.{Global}
use Rattle.std.specs.List.{AllByRecursion, AllZip}
use Rattle.sqlite_disk.specs.Disk.{MoreFaults}
use Rattle.sqlite_value.specs.declared.value.Value.TheVariants.{Int, Text, Blob}
use Rattle.sqlite_value.specs.Order.{Row, column}
use Rattle.sqlite_trees.specs.Tree.{Trees, IsTable, IsAscending}
use Rattle.sqlite_rules.specs.Lists.{Has}
use Rattle.sqlite.specs.Values.{or_null}
use Rattle.sqlite.specs.Effect.{Database, IsDatabase}
use Rattle.sqlite.specs.State.{State}
use Rattle.octets.specs.Limits.{max_entry_number}
use Rattle.sha2.specs.Sha256.{sha256}
use Rattle.part_store.specs.Tables.{store_schema, users_tree, contents_tree, entries_tree, equals}
use Rattle.part_store.specs.declared.entry.Kind.{Kind}
use Rattle.part_store.specs.declared.entry.Kind.TheVariants.{Message, Part}
use Rattle.part_store.specs.Entries.{Entry, Entries, Draft, Listing, UserProgram}
use Rattle.part_store.specs.declared.entry.EntryRow.{EntryRow}
use Rattle.part_store.specs.declared.entry.NewEntry.{NewEntry}

abbrev pub kind_number : Kind → ℕ
kind_number Message = 0
kind_number Part = 1

-- a user with his last number and his program
abbrev pub IsUserRow : Entries → Row → Type 0
IsUserRow e r = (id : ℤ) × (name : List ℕ)
    × (r ≡ Int id ∷ Text name ∷ Int (pos (e.lasts name)) ∷ or_null Blob (e.programs name) ∷ [])

abbrev pub content_row : ℤ → List ℕ → List ℕ → Row
content_row id digest octets = Int id ∷ Blob digest ∷ Blob octets ∷ []

abbrev pub IsContentRow : Row → Type 0
IsContentRow r = (id : ℤ) × (digest : List ℕ) × (octets : List ℕ) × (r ≡ content_row id digest octets)

-- the octets are kept under the digest
abbrev pub HasContent : List Row → List ℕ → List ℕ → Type 0
HasContent rows digest octets = (id : ℤ) × Has rows (content_row id digest octets)

-- the row of an entry, whose octets are those under its digest
abbrev pub IsEntryRow : List Row → Row → Entry → Type 0
IsEntryRow contents r x =
    (id : ℤ) × (digest : List ℕ)
    × (r ≡ Int id ∷ Text x.user ∷ Int (pos x.number) ∷ Blob x.folder ∷ Int (pos (kind_number x.kind)) ∷ Blob x.name
    ∷ Blob x.media ∷ Blob digest ∷ [])
    × HasContent contents digest x.octets

-- no number is above the last one or the limit, and a user's numbers rise
pub record IsNumbered (e : Entries) : Type 0 where
  pub limit : (user : List ℕ) → e.lasts user ≤ max_entry_number
  pub given : AllByRecursion (λ x. (1 ≤ x.number) × (x.number ≤ e.lasts x.user)) e.entries
  pub rising : IsAscending (λ x y. x.user ≡ y.user → x.number < y.number) e.entries

-- no user has two rows
abbrev pub HaveOneRow : List Row → Type 0
HaveOneRow rows =
    (name : List ℕ) (one other : Row) → Has rows one → Has rows other → equals 1 (Text name) one ≡ true
    → equals 1 (Text name) other ≡ true
    → one ≡ other

pub record StandsFor (db : Trees) (e : Entries) : Type 0 where
  -- the rowids rise
  pub users_rise : IsTable (db users_tree)
  pub contents_rise : IsTable (db contents_tree)
  pub entries_rise : IsTable (db entries_tree)
  pub users : AllByRecursion (IsUserRow e) (db users_tree)
  pub apart : HaveOneRow (db users_tree)
  -- who has no row has no number and no program
  pub strangers : (name : List ℕ) → ((r : Row) → Has (db users_tree) r → equals 1 (Text name) r ≡ false)
      → (e.lasts name ≡ 0) × (e.programs name ≡ None)
  pub contents : AllByRecursion IsContentRow (db contents_tree)
  -- a digest has one content
  pub single : (digest one other : List ℕ) → HasContent (db contents_tree) digest one
      → HasContent (db contents_tree) digest other → one ≡ other
  pub entries : AllZip (IsEntryRow (db contents_tree)) (db entries_tree) e.entries
  -- each content is named by an entry
  pub named : (digest octets : List ℕ) → HasContent (db contents_tree) digest octets
      → (r : Row) × Has (db entries_tree) r × (column r 7 ≡ Blob digest)
  pub numbers : IsNumbered e

-- the database has the three tables, lists them, and they stand for the state
pub record Stands (d : Database) (e : Entries) : Type 0 where
  pub schema : d.schema ≡ store_schema
  pub listed : IsDatabase d
  pub tables : StandsFor d.trees e

-- trees that are the store of a state: they list the three tables and obey them, and the tables stand for it
pub record IsStored (trees : Trees) (e : Entries) : Type 0 where
  pub listed : IsDatabase (record { schema = store_schema; trees = trees })
  pub tables : StandsFor trees e

-- each content has the digest that it is under
abbrev pub HaveDigests : Trees → Type 0
HaveDigests db = (digest octets : List ℕ) → HasContent (db contents_tree) digest octets → sha256 octets ≡ digest

-- each content was there before, or has the digest that it is under
abbrev pub AddsVerified : Trees → Trees → Type 0
AddsVerified old new = (digest octets : List ℕ) → HasContent (new contents_tree) digest octets
    → HasContent (old contents_tree) digest octets ⊎ (sha256 octets ≡ digest)

-- what may be committed of a change: the store of what it makes of the state that was
abbrev pub MayMake : (Entries → Entries) → State → Trees → Type 0
MayMake change old trees = (before : Entries) → Stands old.now before
    → IsStored trees (change before) × AddsVerified old.now.trees trees

-- the store was open and still is, and what it shows is committed
abbrev pub IsSaved : State → State → Type 0
IsSaved old new = IsTrue old.is_open × IsTrue new.is_open × (new.committed ≡ new.now)

-- the same, once it is committed
abbrev pub Makes : (Entries → Entries) → State → State → Type 0
Makes change old new = IsSaved old new × ((before : Entries) → Stands old.now before
    → Stands new.now (change before) × AddsVerified old.now.trees new.now.trees)

-- the disk failed in the call
abbrev pub DiskFailed : State → State → Type 0
DiskFailed old new = MoreFaults old.faults new.faults

-- The tables are as they were. Only a fault of the disk shuts a store; it shows nothing of the
-- tables then, and what is shut stays shut.
pub record LeavesUnchanged (old new : State) : Type 0 where
  pub same : old.now.schema ≡ store_schema → IsTrue new.is_open → (new.now ≡ old.now) × (new.committed ≡ old.committed)
  pub stays_closed : IsTrue new.is_open → IsTrue old.is_open
  pub closes : IsTrue old.is_open → IsTrue new.is_open ⊎ DiskFailed old new

-- the user's entry of that number
abbrev pub IsEntryAt : Entries → List ℕ → ℕ → Entry → Type 0
IsEntryAt e user number x = Has e.entries x × (x.user ≡ user) × (x.number ≡ number)

abbrev pub HasNone : Entries → List ℕ → ℕ → Type 0
HasNone e user number = (x : Entry) → ¬ IsEntryAt e user number x

-- a user and his program, as the definitions see them
abbrev pub pair_of : String Global × Vec ℕ Global → UserProgram
pair_of pair = (string_bytes pair.0, pair.1.items)

-- an entry that is to be made, as the definitions see it
abbrev pub draft_of : NewEntry → Draft
draft_of entry = record { folder = entry.folder.now; kind = entry.kind; name = entry.name.now; media = entry.media.now; octets = entry.octets.now }

-- an entry that is there, as the definitions see it
abbrev pub listed : EntryRow → Listing
listed row = record { number = row.number; kind = row.kind; folder = row.folder.items; name = row.name.items; media = row.media.items; octets = row.octets }
