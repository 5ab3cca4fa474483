-- What an index has for a digest.
use Rattle.std.specs.Prelude.{◌≡◌, ℕ, ◌+◌, List, [], ◌∷◌, Bool, true, bytes_eq, if◌then◌else◌}
use Rattle.std.specs.BTreeMap.{BTreeMap, get}
use Rattle.std.specs.Cmp.Lexicographic.{slice_cmp}
use Rattle.std.specs.List.{list_any}
use Rattle.std.specs.Option.{option_map_or}
use Rattle.std.specs.Ordering.{nat_cmp}
use Rattle.std.specs.Global.{Vec}
use Rattle.catalog.specs.Stored.{Numbered, messages_with}
use Rattle.catalog.specs.declared.entry.PartEntry.{PartEntry}
use Rattle.catalog.specs.declared.index.Slot.{Slot}
use Rattle.catalog.specs.declared.index.PartIndex.{PartIndex}

-- the values that a map has for a digest
abbrev pub found : {X : Type 0} → BTreeMap (List ℕ) (Vec X) → List ℕ → List X
found values digest = option_map_or (λ list. list.items) (get (slice_cmp nat_cmp) values digest) []

-- the numbers and the places of the entries that have this digest, if the first entry has this place
abbrev pub slots_from : ℕ → List ℕ → List PartEntry → List Slot
slots_from at digest [] = []
slots_from at digest (entry ∷ entries) =
    if bytes_eq entry.digest digest
    then record { number = entry.number; at = at } ∷ slots_from (at + 1) digest entries
    else slots_from (at + 1) digest entries

-- whether an entry has this digest
abbrev pub is_stored : List PartEntry → List ℕ → Bool
is_stored entries digest = list_any (λ (entry : PartEntry). bytes_eq entry.digest digest) entries

-- an index has these entries, and for each of their digests the messages that have a part with it
pub record IsIndex (index : PartIndex) (entries : List PartEntry) (messages : List Numbered) : Type 0 where
  pub has_entries : (digest : List ℕ) → found index.entries digest ≡ slots_from 0 digest entries
  pub has_messages : (digest : List ℕ) → is_stored entries digest ≡ true → found index.messages digest ≡ messages_with digest messages
