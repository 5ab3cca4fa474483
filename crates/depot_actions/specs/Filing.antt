-- Private: how the code files what actions ask for.
use Rattle.std.specs.Prelude.{◌≡◌, ◌⊎◌, ℕ, ◌+◌, IsTrue, List, [], Option, None, IfSome, IsSome, length, map, slice_index_or}
use Rattle.std.specs.List.{HoldsAt}
use Rattle.std.specs.Cow.{cow_slice_items}
use Rattle.sqlite.specs.State.{State}
use Rattle.bytecode_format.specs.declared.action.Action.{Action}
use Rattle.bytecode_format.specs.declared.action.Action.TheVariants.{Keep, File, Store}
use Rattle.mime_decode.specs.Mail.{Mail, Part}
use Rattle.part_store.specs.Entries.{Draft, Entries, Listing, entry_of, listing_of, numbered, with_entries}
use Rattle.part_store.specs.Filing.{Collides, HasRoom}
use Rattle.part_store.specs.Standing.{Stands}
use Rattle.refusals.specs.declared.refusal.Refusal.{Refusal}
use Rattle.refusals.specs.declared.refusal.Refusal.TheVariants.{Memory, NumberFull, Collision, Database}
use Rattle.depot_actions.specs.Deliveries.{AcceptsAll}
use Rattle.depot_actions.specs.DepotState.{Accepts, Command, Reply}
use Rattle.depot_actions.specs.Drafts.{name_of}
use Rattle.mime_params.specs.MediaValue.{media_text}
use Rattle.depot_actions.specs.declared.stored_part.StoredPart.{StoredPart}

-- what is kept of a part is what an entry shows of it
pub record IsStored (stored : StoredPart) (part : Part) : Type 0 where
  pub name : stored.name.items ≡ name_of part
  pub media : stored.media.items ≡ media_text part.media
  pub content : cow_slice_items stored.content ≡ part.content

-- there is a place for each part of the message, and what is kept at a place is of that part
pub record AreKept (mail : Mail) (kept : List (Option StoredPart)) : Type 0 where
  pub number : length kept ≡ length mail.parts
  pub each : (place : ℕ) → IfSome (slice_index_or kept place None)
      (λ stored. HoldsAt (IsStored stored) mail.parts place)

-- the part of this number is kept
abbrev pub Keeps : List (Option StoredPart) → ℕ → Type 0
Keeps kept part = IsSome (slice_index_or kept part None)

-- the part is kept that an action stores
abbrev pub KeepsAction : List (Option StoredPart) → Action → Type 0
KeepsAction kept Keep = Unit {0}
KeepsAction kept (File folder) = Unit {0}
KeepsAction kept (Store folder part) = Keeps kept part

-- a draft as it is listed before it has a number
abbrev pub unnumbered : Draft → Listing
unnumbered draft = listing_of (entry_of [] 0 draft)

-- in a transaction: the drafts, of which there is at least one, became the user's entries, and these are their rows
pub record Adds (user : List ℕ) (drafts : List Draft) (rows : List Listing) (new : State) (before : Entries) : Type 0 where
  pub room : HasRoom before user (length drafts)
  pub rows_are : rows ≡ map listing_of (numbered user (before.lasts user + 1) drafts)
  pub stands : Stands new.now (with_entries user drafts before)

-- why they didn't
abbrev pub IsUnfiled : Refusal → List ℕ → List Draft → State → Type 0
IsUnfiled Memory user drafts old = Unit {0}
IsUnfiled Database user drafts old = Unit {0}
IsUnfiled NumberFull user drafts old = IsTrue old.is_open
    × ((before : Entries) → Stands old.now before → HasRoom before user (length drafts) → ⊥)
IsUnfiled Collision user drafts old =
    IsTrue old.is_open × ((before : Entries) → Stands old.now before
    → HasRoom before user (length drafts) × Collides old.now.trees drafts)
IsUnfiled _ user drafts old = ⊥

-- the refusals of filing, whatever the disk does
abbrev pub MayUnfile : Refusal → Type 0
MayUnfile refusal = (refusal ≡ Memory) ⊎ ((refusal ≡ Database) ⊎ ((refusal ≡ NumberFull) ⊎ (refusal ≡ Collision)))

-- in a transaction: the command is accepted with this reply, and the tables stand for what it leaves
abbrev pub Reaches : Command → Reply → State → State → Type 0
Reaches command reply old new =
    (before : Entries) → Stands old.now before → (after : Entries) × Accepts before command reply after × Stands new.now after

-- the same of several commands
abbrev pub ReachesAll : List Command → List Reply → State → State → Type 0
ReachesAll commands replies old new =
    (before : Entries) → Stands old.now before → (after : Entries) × AcceptsAll before commands replies after × Stands new.now after

-- of what is refused in a transaction
abbrev pub IfInside : (State → State → Refusal → Type 0) → State → State → Refusal → Type 0
IfInside Is old new refusal = IsTrue old.in_transaction → Is old new refusal
