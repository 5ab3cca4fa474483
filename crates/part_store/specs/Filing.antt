-- When entries can be filed, and what their rows hold.
use Rattle.std.specs.Prelude.{◌≡◌, ◌≢◌, ◌⊎◌, ◌≤◌, ℕ, ◌+◌, pos, List, [], ◌∷◌, ◌++◌}
use Rattle.sqlite_value.specs.declared.value.Value.TheVariants.{Int, Text, Blob}
use Rattle.sqlite_value.specs.Order.{Row}
use Rattle.sqlite_trees.specs.Tree.{Trees}
use Rattle.sqlite_rules.specs.Lists.{Has}
use Rattle.sha2.specs.Sha256.{sha256}
use Rattle.part_store.specs.Entries.{Draft, Entry, Entries}
use Rattle.octets.specs.Limits.{max_entry_number}
use Rattle.part_store.specs.Standing.{HasContent, kind_number}
use Rattle.part_store.specs.Tables.{contents_tree}

abbrev pub entry_values : Entry → List ℕ → Row
entry_values x digest = Text x.user ∷ Int (pos x.number) ∷ Blob x.folder ∷ Int (pos (kind_number x.kind)) ∷ Blob x.name
    ∷ Blob x.media ∷ Blob digest ∷ []

-- other octets are under the digest
abbrev pub IsOther : Trees → List ℕ → List ℕ → Type 0
IsOther db digest octets = (other : List ℕ) × HasContent (db contents_tree) digest other × (other ≢ octets)

-- an earlier draft has the digest and other octets
abbrev pub IsAmongOthers : List Draft → Draft → Type 0
IsAmongOthers earlier d = (x : Draft) × Has earlier x × (sha256 x.octets ≡ sha256 d.octets) × (x.octets ≢ d.octets)

-- another content, stored or earlier in the list, has the digest of a draft and other octets
pub record Collides (db : Trees) (drafts : List Draft) : Type 0 where
  pub earlier : List Draft
  pub draft : Draft
  pub later : List Draft
  pub place : drafts ≡ earlier ++ draft ∷ later
  pub other : IsOther db (sha256 draft.octets) draft.octets ⊎ IsAmongOthers earlier draft

-- the numbers that the user has left suffice for so many entries
abbrev pub HasRoom : Entries → List ℕ → ℕ → Type 0
HasRoom e user count = e.lasts user + count ≤ max_entry_number
