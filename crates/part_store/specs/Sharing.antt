-- Drafts of one list, or entries, that have the same octets.
use Rattle.std.specs.Prelude.{◌≡◌, ℕ, ◌<◌, List, [], Some, length, map, slice_get, slice_index_or}
use Rattle.std.specs.List.{AllZip}
use Rattle.part_store.specs.Entries.{Draft, Entry}
use Rattle.part_store.specs.declared.entry.Kind.{Kind}
use Rattle.part_store.specs.declared.entry.SharingRow.{SharingRow}
use Rattle.part_store.specs.declared.shared.Shared.{Shared}

-- the place that is named for a draft
abbrev pub first_of : Shared → ℕ
first_of shared = shared.first

-- the octets of the draft at a place, none past the end
abbrev pub octets_at : List Draft → ℕ → List ℕ
octets_at drafts place = slice_index_or (map (λ (d : Draft). d.octets) drafts) place []

-- where an earlier place is named for a draft, the draft there has its octets
abbrev pub SharesContents : List Draft → List ℕ → Type 0
SharesContents drafts firsts =
    (place : ℕ) → place < length firsts → place < length drafts → slice_index_or firsts place 0 < place
    → octets_at drafts (slice_index_or firsts place 0) ≡ octets_at drafts place

-- ---- entries that are listed with the places of the first ones that have the same octets

-- an entry without its octets and how many they are
pub record Label : Type 0 where
  pub number : ℕ
  pub kind : Kind
  pub folder : List ℕ
  pub name : List ℕ
  pub media : List ℕ

abbrev pub label_of : Entry → Label
label_of x = record { number = x.number; kind = x.kind; folder = x.folder; name = x.name; media = x.media }

abbrev pub labelled : SharingRow → Label
labelled row = record { number = row.number; kind = row.kind; folder = row.folder.items; name = row.name.items; media = row.media.items }

-- a row lists one of these entries, and names the place of one with its octets
pub record IsSharingRow (xs : List Entry) (row : SharingRow) (x : Entry) : Type 0 where
  pub label : labelled row ≡ label_of x
  pub shared : (one : Entry) × (slice_get xs row.first ≡ Some one) × (one.octets ≡ x.octets)

-- the rows list these entries, in their order
abbrev pub AreSharing : List SharingRow → List Entry → Type 0
AreSharing rows xs = AllZip (IsSharingRow xs) rows xs
