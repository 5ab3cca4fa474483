-- Private: how a scrub goes over the rows of answers.
use Rattle.std.specs.Prelude.{◌≡◌, ℕ, ◌<◌, Bool, List, [], ◌∷◌, ◌++◌, filter, length, map, bytes_eq, Vec}
use Rattle.std.specs.declared.alloc.Global.{Global}
use Rattle.std.specs.List.{AllByRecursion, list_any}
use Rattle.sqlite_value.specs.declared.value.Value.TheVariants.{Blob}
use Rattle.sqlite_value.specs.Order.{Row, column}
use Rattle.sqlite_trees.specs.Tree.{Trees, IsAscending}
use Rattle.sqlite_rules.specs.Lists.{Has}
use Rattle.part_store.specs.Entries.{Entry, Entries}
use Rattle.part_store.specs.Readings.{number_of}
use Rattle.part_store.specs.Scrubbing.{DamagedLine, IsBeforeDamaged, RefersToDamaged, blob_in, is_damaged_under, line_of_entry}
use Rattle.part_store.specs.Standing.{HasContent}
use Rattle.part_store.specs.Tables.{contents_tree}

abbrev pub texts_of : List (Vec ℕ Global) → List (List ℕ)
texts_of = map (λ v. v.items)

-- the digest that a row shows first
abbrev pub digest_in : Row → List ℕ
digest_in r = blob_in (column r 0)

-- the row of an answer shows a digest first, under which there is a content
abbrev pub ShowsContent : Trees → Row → Type 0
ShowsContent db r = (0 < length r) × ((digest : List ℕ) × (octets : List ℕ) × (column r 0 ≡ Blob digest)
    × HasContent (db contents_tree) digest octets)

-- the digests of rows under which there are damaged contents
abbrev pub damaged_in : Trees → List Row → List (List ℕ)
damaged_in db rows = filter (is_damaged_under (db contents_tree)) (map digest_in rows)

-- the digest is one of these
abbrev pub is_one_of : List (Vec ℕ Global) → List ℕ → Bool
is_one_of digests digest = list_any (λ d. bytes_eq d.items digest) digests

-- these are the digests under which there are damaged contents
abbrev pub AreDamagedDigests : Trees → List (Vec ℕ Global) → Type 0
AreDamagedDigests db digests = (digest : List ℕ) → is_one_of digests digest ≡ is_damaged_under (db contents_tree) digest

-- what a scrub tells of the entry that a row of the answer to a listing shows
abbrev pub line_shown : List ℕ → Row → DamagedLine
line_shown user r = record { user = user; number = number_of (column r 0); folder = blob_in (column r 2) }

-- the rows that name one of the digests, as a scrub tells of them
abbrev pub lines_shown : List ℕ → List (Vec ℕ Global) → List Row → List DamagedLine
lines_shown user digests rows = map (line_shown user) (filter (λ r. is_one_of digests (blob_in (column r 5))) rows)

-- the entries of these users that refer to a damaged content, each once and in order
pub record AreDamagedAmong (db : Trees) (e : Entries) (names : List (List ℕ)) (lines : List DamagedLine) : Type 0 where
  pub each : AllByRecursion (λ l. Has names l.user
      × ((x : Entry) × Has e.entries x × RefersToDamaged db x × (l ≡ line_of_entry x))) lines
  pub all : (x : Entry) → Has e.entries x → Has names x.user → RefersToDamaged db x → Has lines (line_of_entry x)
  pub rising : IsAscending IsBeforeDamaged lines

-- those of one user were added
abbrev pub AddsDamaged : Trees → Entries → List ℕ → List DamagedLine → List DamagedLine → Type 0
AddsDamaged db e user old new = (lines : List DamagedLine) × (new ≡ old ++ lines) × AreDamagedAmong db e (user ∷ []) lines
