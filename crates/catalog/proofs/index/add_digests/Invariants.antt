use Rattle.std.proofs.Common.{◌≡◌, ◌++◌, ℕ, List, true, take}
use Rattle.std.specs.BTreeMap.{get}
use Rattle.std.specs.List.{slice_get}
use Rattle.std.specs.Option.{option_and_then}
use Rattle.std.specs.Ordering.{nat_cmp}
use Rattle.catalog.specs.Adding.{first_with}
use Rattle.catalog.specs.Index.{found, is_stored, slots_from}
use Rattle.catalog.specs.Stored.{stored_place}
use Rattle.catalog.specs.declared.entry.PartEntry.{PartEntry}
use Rattle.catalog.proofs.index.add_digests.Given as goal

abbrev pub invariant-loop-part : goal.invariant-loop-part
invariant-loop-part l =
    (entries : List PartEntry) → ((digest : List ℕ) → found l.slots digest ≡ slots_from 0 digest entries)
    → ((at : ℕ) → get nat_cmp l.places at ≡ option_and_then (stored_place (take l.part l.digests)) (slice_get entries at))
    × ((digest : List ℕ) → is_stored entries digest ≡ true → found l.messages digest ≡ found l.initial.messages digest ++ first_with l.number (take l.part l.digests) digest)
