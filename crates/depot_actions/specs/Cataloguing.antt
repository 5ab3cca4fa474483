-- Private: how a catalog is made of a store.
use Rattle.std.specs.Prelude.{◌≡◌, ◌⊎◌, ℕ, IsTrue, List, Some, slice_get}
use Rattle.sqlite_trees.specs.Tree.{Trees}
use Rattle.mime_decode.specs.Mail.{IsReadable}
use Rattle.mime_tree.specs.declared.error.MessageError.{MessageError}
use Rattle.mime_tree.specs.declared.error.MessageError.TheVariants as message
use Rattle.catalog.specs.Catalog.{Filed}
use Rattle.catalog.specs.Keeping.{known_as, known_of}
use Rattle.catalog.specs.declared.keeping.Kept.{Kept}
use Rattle.part_store.specs.Entries.{Entries, Entry}
use Rattle.part_store.specs.Sharing.{Label}
use Rattle.part_store.specs.Standing.{HasNone, IsEntryAt}
use Rattle.part_store.specs.Verifying.{IsAltered}
use Rattle.part_store.specs.declared.entry.SharingRow.{SharingRow}
use Rattle.part_store.specs.declared.error.StoreError.{StoreError}
use Rattle.part_store.specs.declared.error.StoreError.TheVariants as store
use Rattle.refusals.specs.declared.refusal.Refusal.{Refusal}
use Rattle.refusals.specs.declared.refusal.Refusal.TheVariants.{Memory, NumberFull, Collision, Database}
use Rattle.depot_actions.specs.DepotState.{filed_of, is_message}

-- an entry of a list, with the octets of its content
abbrev pub filed_under : Label → List ℕ → Filed
filed_under l octets = record { number = l.number; folder = l.folder; name = l.name; media = l.media; is_message = is_message l.kind; octets = octets }

-- if something is kept at the place, it is of an entry with the octets of this one
abbrev pub SharesKept : List Kept → ℕ → Entry → Type 0
SharesKept kept place x = (earlier : Kept) → slice_get kept place ≡ Some earlier → (y : Entry) × (known_as earlier ≡ known_of (filed_of y)) × (y.octets ≡ x.octets)

-- an error of the store, where the entry was listed
abbrev pub of_listed : StoreError → Refusal
of_listed store.Memory = Memory
of_listed store.NoSuchEntry = Database
of_listed store.NumberFull = NumberFull
of_listed store.Collision = Collision
of_listed store.Database = Database

-- a content that isn't read as a message
abbrev pub unread_as : MessageError → Refusal
unread_as message.Memory = Memory
unread_as message.MessageTooLarge = Database
unread_as message.TooManyParts = Database

-- the octets of the user's entry of this row were altered, or there is none, or it can't be read as a message though the row says
-- that it is one
abbrev pub IsUnkept : List ℕ → SharingRow → Entries → Trees → Type 0
IsUnkept user row before db =
    (IsAltered db user row.number ⊎ HasNone before user row.number)
    ⊎ ((x : Entry) × IsEntryAt before user row.number x × IsTrue (is_message row.kind) × (IsReadable x.octets → ⊥))
