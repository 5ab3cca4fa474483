-- Private: how entries are added: octets under their digest, a row for each entry, and the last number.
use Rattle.std.specs.Prelude.{◌≡◌, ◌⊎◌, ◌<◌, ◌≤◌, ℕ, ◌+◌, ◌+ℤ◌, pos, List, [], ◌∷◌, ◌++◌, IsTrue, length}
use Rattle.std.specs.List.{AllByRecursion}
use Rattle.octets.specs.Limits.{max_entry_number}
use Rattle.sha2.specs.Sha256.{sha256}
use Rattle.sqlite.specs.Effect.{IsDatabase}
use Rattle.sqlite.specs.State.{State}
use Rattle.sqlite_rules.specs.Edit.{next_rowid}
use Rattle.sqlite_rules.specs.Lists.{Has}
use Rattle.sqlite_trees.specs.Tree.{Trees, IsTable}
use Rattle.sqlite_value.specs.Order.{Row}
use Rattle.part_store.specs.Entries.{Entry, Entries, Draft, numbered, with_last, with_entries}
use Rattle.part_store.specs.Filing.{Collides, HasRoom}
use Rattle.part_store.specs.Standing.{AddsVerified, IsContentRow, HasContent, Stands}
use Rattle.part_store.specs.Tables.{users_tree, contents_tree, entries_tree, store_schema}
use Rattle.part_store.specs.declared.adding.Adding.{Adding}
use Rattle.part_store.specs.declared.adding.Adding.TheVariants.{From, NumberFull, Collision}

-- the table's next rowid is so many higher
abbrev pub RisesBy : ℕ → List Row → List Row → Type 0
RisesBy count old new = next_rowid new ≡ next_rowid old +ℤ pos count

-- or at most so many
abbrev pub RisesWithin : ℕ → List Row → List Row → Type 0
RisesWithin count old new = (k : ℕ) × (k ≤ count) × RisesBy k old new

-- the octets are under their digest, and else nothing has changed
pub record IsStocked (db new : Trees) (digest octets : List ℕ) : Type 0 where
  pub users : new users_tree ≡ db users_tree
  pub entries : new entries_tree ≡ db entries_tree
  pub rise : IsTable (new contents_tree)
  pub contents : AllByRecursion IsContentRow (new contents_tree)
  pub single : (d one other : List ℕ) → HasContent (new contents_tree) d one → HasContent (new contents_tree) d other
      → one ≡ other
  pub has : HasContent (new contents_tree) digest octets
  pub kept : (d o : List ℕ) → HasContent (db contents_tree) d o → HasContent (new contents_tree) d o
  pub from : (d o : List ℕ) → HasContent (new contents_tree) d o
      → HasContent (db contents_tree) d o ⊎ ((d ≡ digest) × (o ≡ octets))
  pub rowids : RisesWithin 1 (db contents_tree) (new contents_tree)

abbrev pub with_entry : Entry → Entries → Entries
with_entry x e = record e { entries = e.entries ++ x ∷ [] }

-- the number is one that the user may have next
pub record IsNext (e : Entries) (x : Entry) : Type 0 where
  pub first : 1 ≤ x.number
  pub within : x.number ≤ e.lasts x.user
  pub above : (y : Entry) → Has e.entries y → y.user ≡ x.user → y.number < x.number

-- in a transaction: the octets are stocked
pub record Stocks (digest octets : List ℕ) (old new : State) : Type 0 where
  pub schema : new.now.schema ≡ store_schema
  pub listed : IsDatabase new.now
  pub committed : new.committed ≡ old.committed
  pub tables : IsStocked old.now.trees new.now.trees digest octets

-- in a transaction: the entry is filed, and its digest names its octets
pub record Files (x : Entry) (digest : List ℕ) (before : Entries) (old new : State) : Type 0 where
  pub stands : Stands new.now (with_entry x before)
  pub committed : new.committed ≡ old.committed
  pub has : HasContent (new.now.trees contents_tree) digest x.octets
  pub kept : (d o : List ℕ) → HasContent (old.now.trees contents_tree) d o
      → HasContent (new.now.trees contents_tree) d o
  pub from : (d o : List ℕ) → HasContent (new.now.trees contents_tree) d o
      → HasContent (old.now.trees contents_tree) d o ⊎ ((d ≡ digest) × (o ≡ x.octets))
  pub content_rowids : RisesWithin 1 (old.now.trees contents_tree) (new.now.trees contents_tree)
  pub entry_rowids : RisesBy 1 (old.now.trees entries_tree) (new.now.trees entries_tree)

-- in a transaction: the user has another last number
pub record Claims (user : List ℕ) (last : ℕ) (before : Entries) (old new : State) : Type 0 where
  pub was_open : IsTrue old.is_open
  pub stands : Stands new.now (with_last user last before)
  pub committed : new.committed ≡ old.committed
  pub contents : new.now.trees contents_tree ≡ old.now.trees contents_tree
  pub entries : new.now.trees entries_tree ≡ old.now.trees entries_tree

-- a draft's octets are under its digest
abbrev pub HasDraft : Trees → Draft → Type 0
HasDraft db d = HasContent (db contents_tree) (sha256 d.octets) d.octets

-- content comes from one of the drafts
abbrev pub IsOfDraft : List Draft → List ℕ → List ℕ → Type 0
IsOfDraft drafts digest octets = (d : Draft) × Has drafts d × (digest ≡ sha256 d.octets) × (octets ≡ d.octets)

-- so many numbers after this one were claimed, and none of them was given
pub record CanFile (e : Entries) (user : List ℕ) (last count : ℕ) : Type 0 where
  pub claimed : last + count ≤ e.lasts user
  pub free : (y : Entry) → Has e.entries y → y.user ≡ user → y.number ≤ last

-- in a transaction: the drafts are filed under the numbers after this one, and their octets are under their digests
pub record FilesAll (user : List ℕ) (last : ℕ) (drafts : List Draft) (before : Entries) (old new : State) : Type 0 where
  pub stands : Stands new.now (record before { entries = before.entries ++ numbered user (last + 1) drafts })
  pub committed : new.committed ≡ old.committed
  pub has : (d : Draft) → Has drafts d → HasDraft new.now.trees d
  pub kept : (g o : List ℕ) → HasContent (old.now.trees contents_tree) g o
      → HasContent (new.now.trees contents_tree) g o
  pub from : (g o : List ℕ) → HasContent (new.now.trees contents_tree) g o
      → HasContent (old.now.trees contents_tree) g o ⊎ IsOfDraft drafts g o
  pub content_rowids : RisesWithin (length drafts) (old.now.trees contents_tree) (new.now.trees contents_tree)
  pub entry_rowids : RisesBy (length drafts) (old.now.trees entries_tree) (new.now.trees entries_tree)

-- in a transaction: the drafts have become the user's entries, and none of them collides
pub record Enters (user : List ℕ) (drafts : List Draft) (before : Entries) (old new : State) : Type 0 where
  pub was_open : IsTrue old.is_open
  pub stands : Stands new.now (with_entries user drafts before)
  pub committed : new.committed ≡ old.committed
  pub apart : Collides old.now.trees drafts → ⊥
  pub verified : AddsVerified old.now.trees new.now.trees

-- in a transaction: what adding the drafts comes to
abbrev pub Adds : List ℕ → List Draft → State → State → Adding → Type 0
Adds user drafts old new (From first) =
    (before : Entries) → Stands old.now before
    → HasRoom before user (length drafts) × (first ≡ before.lasts user + 1) × (Collides old.now.trees drafts → ⊥)
    × Stands new.now (with_entries user drafts before) × (new.committed ≡ old.committed)
    × AddsVerified old.now.trees new.now.trees
Adds user drafts old new NumberFull = (before : Entries) → Stands old.now before
    → max_entry_number < before.lasts user + length drafts
Adds user drafts old new Collision = (before : Entries) → Stands old.now before
    → HasRoom before user (length drafts) × Collides old.now.trees drafts

abbrev pub IsFrom : Adding → Type 0
IsFrom (From first) = Unit {0}
IsFrom NumberFull = ⊥
IsFrom Collision = ⊥
