-- Commands on volumes: each is done on one of them, and the lists and the catalog of a user on all.
use Rattle.std.specs.Prelude.{◌≡◌, List, [], ◌∷◌, ◌++◌, map, Option, None, Some}
use Rattle.std.specs.List.{flat_map}
use Rattle.catalog.specs.Catalog.{catalog}
use Rattle.part_store.specs.Entries.{Entries, entries_of, entries_since, listing_of}
use Rattle.depot_actions.specs.DepotState.{Accepts, Catalog, Command, Deliver, Export, IsNamed, ListAll, ListSince, Listed, Migrate, ProgramOf, Remove, Reply, SetCode, SetScript, Text, filed_of}
use Rattle.depot_actions.specs.History.{Call}
use Rattle.volumes.specs.Places.{IsFirstUpTo}
use Rattle.volumes.specs.Volumes.{begun, current}

-- The volume that a command is done on, between the earlier and the later ones: an export and a removal on the first in which
-- the user's last number is at least the entry's, the lists and the catalog on none alone, and any other command on the current one.
abbrev pub IsDoneOn : Command → List Entries → Entries → List Entries → Type 0
IsDoneOn (Export user number encoding) earlier v later = IsFirstUpTo user number earlier v
IsDoneOn (Remove user number) earlier v later = IsFirstUpTo user number earlier v
IsDoneOn (ListAll user) earlier v later = ⊥
IsDoneOn (ListSince user number) earlier v later = ⊥
IsDoneOn (Catalog user number) earlier v later = ⊥
IsDoneOn (SetScript user script) earlier v later = later ≡ []
IsDoneOn (SetCode user program) earlier v later = later ≡ []
IsDoneOn (Deliver user message) earlier v later = later ≡ []
IsDoneOn (ProgramOf user) earlier v later = later ≡ []
IsDoneOn Migrate earlier v later = later ≡ []

-- one volume accepts the command, and the others stay
pub record AcceptsOnOne (before : List Entries) (command : Command) (reply : Reply) (after : List Entries) : Type 0 where
  pub earlier : List Entries
  pub old : Entries
  pub new : Entries
  pub later : List Entries
  pub were : before ≡ earlier ++ old ∷ later
  pub on : IsDoneOn command earlier old later
  pub accepts : Accepts old command reply new
  pub are : after ≡ earlier ++ new ∷ later

-- Volumes accept a command with this reply, and these are left: a list is the lists of all volumes, one after the other, and a
-- catalog that of the entries of all; any other command is done on one.
abbrev pub AcceptOnVolumes : List Entries → Command → Reply → List Entries → Type 0
AcceptOnVolumes before (ListAll user) reply after =
    IsNamed (ListAll user) × (reply ≡ Listed (flat_map (λ v. map listing_of (entries_of user v)) before)) × (after ≡ before)
AcceptOnVolumes before (ListSince user number) reply after =
    IsNamed (ListSince user number) × (reply ≡ Listed (flat_map (λ v. map listing_of (entries_since user number v)) before)) × (after ≡ before)
AcceptOnVolumes before (Catalog user number) reply after =
    IsNamed (Catalog user number) × (reply ≡ Text (catalog number (map filed_of (flat_map (entries_of user) before)))) × (after ≡ before)
AcceptOnVolumes before command reply after = AcceptsOnOne before command reply after

-- ---- one after another

-- a command was called, or the next volume began
pub data Event : Type 0 where
  Called : Call → Event
  Began : Event

-- the calls among events
abbrev pub calls_in : List Event → List Call
calls_in [] = []
calls_in (Called call ∷ events) = call ∷ calls_in events
calls_in (Began ∷ events) = calls_in events

-- an accepted command is done on volumes, and a refused one changes nothing
abbrev pub IsAnswered : Command → Option Reply → List Entries → List Entries → Type 0
IsAnswered command None before after = after ≡ before
IsAnswered command (Some reply) before after = AcceptOnVolumes before command reply after

-- what an event makes of volumes: the next one is begun from the current one
abbrev pub Makes : Event → List Entries → List Entries → Type 0
Makes (Called call) before after = IsAnswered call.command call.reply before after
Makes Began before after = after ≡ before ++ begun (current before) ∷ []

-- what events make of volumes, one after another
abbrev pub MakeAll : List Event → List Entries → List Entries → Type 0
MakeAll [] before after = after ≡ before
MakeAll (event ∷ events) before after = (mid : List Entries) × Makes event before mid × MakeAll events mid after
