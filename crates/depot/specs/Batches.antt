-- What a batch answers, and what it leaves of its depot's files, from the open to the close.
use Rattle.std.specs.Prelude.{◌≡◌, ◌⊎◌, ℕ, List, [], ◌∷◌, Option, Result}
use Rattle.sqlite_disk.specs.declared.Disk.{Ghosts}
use Rattle.sqlite_disk.specs.declared.Files.{Files}
use Rattle.sqlite.specs.declared.FileStore.{FileStore}
use Rattle.sqlite.specs.Recovery.{Image}
use Rattle.part_store.specs.Entries.{Entries}
use Rattle.part_store.specs.Opening.{HoldsState}
use Rattle.refusals.specs.declared.refusal.Refusal.{Refusal}
use Rattle.devices.specs.Supply.{Supply}
use Rattle.depot_actions.specs.Deliveries.{AcceptsAll}
use Rattle.depot_actions.specs.DepotState.{Accepts, Command, Reply}
use Rattle.depot_jobs.specs.Host.{HostState}
use Rattle.depot_jobs.specs.Jobs.{HostAndOutputs}
use Rattle.depot_batch.specs.Asked.{Text}
use Rattle.depot_batch.specs.Effects.{Accepted, AcceptedAll, Declined, DepotAndOutput, Effect, HasHappened, MayMakeIn, NotAsked, Unchanged, depot_and_output}
use Rattle.depot_batch.specs.Turns.{AreTakenBy, HasServedBy, Turn, Writing}
use Rattle.depot_batch.specs.declared.format.Format.{Format}
use Rattle.depot.specs.Ending.{EndsSo, IsRefusal, IsUnopened}

-- ---- turns, by the state that the depot stands for

-- of a depot of whose files this is left
module _ {D : Type 0} {g : Ghosts D} (left : Result (Files D) (FileStore D g)) where
  -- what was done with a depot: what it refuses changes nothing
  abbrev pub Did : Entries → Entries → Effect → Type 0
  Did before after NotAsked = after ≡ before
  Did before after Unchanged = after ≡ before
  Did before after (Accepted command reply) = Accepts before command reply after
  Did before after (AcceptedAll commands replies) = AcceptsAll before commands replies after
  Did before after (Declined command refusal) = IsRefusal left command before refusal × (after ≡ before)

  -- what happens in a turn
  abbrev pub Happens : Text → Format → Turn → Writing → DepotAndOutput Entries → DepotAndOutput Entries → Type 0
  Happens = HasHappened Did

-- ---- what a crash may find

-- a command makes this of the state
abbrev pub Makes : Entries → Command → Entries → Type 0
Makes before command after = (reply : Reply) × Accepts before command reply after

-- commands make this of it, all of them
abbrev pub MakeAll : Entries → List Command → Entries → Type 0
MakeAll before commands after = (replies : List Reply) × AcceptsAll before commands replies after

-- a turn does, whole, with the octets that were read of its files
abbrev pub MakesIn : Turn → HostState → HostState → Entries → Entries → Type 0
MakesIn turn host host2 before = MayMakeIn (Makes before) (MakeAll before) turn host host2

-- a turn, in which the host and the state were these, does, and the state stayed
abbrev pub MakesOf : Entries → Entries → Turn → DepotAndOutput Entries → DepotAndOutput Entries → Type 0
MakesOf state held turn old new = (old.depot ≡ state) × MakesIn turn old.host new.host state held

-- one of the turns that were taken is so
abbrev pub OneIs :
    {T : Type 0} → (Turn → T → T → Type 0) → (Happens : Turn → Writing → T → T → Type 0) → (turns : List Turn) (input rest : Supply) (old new : T)
    → AreTakenBy Happens turns input rest old new → Type 0
OneIs Is Happens [] input rest old new taken = ⊥
OneIs Is Happens (turn ∷ turns) input rest old new taken =
    Is turn old taken.1 ⊎ OneIs Is Happens turns taken.0 rest taken.1 new taken.5

-- the last turn is, if there was one
abbrev pub LastIs : {T : Type 0} → (Turn → T → T → Type 0) → List Turn → T → T → Type 0
LastIs Is [] old new = ⊥
LastIs Is (turn ∷ turns) old new = Is turn old new

-- ---- from the open to the close

-- The name of a batch's depot, the status that it ends with; and standard input, the host, standard
-- output and standard error before it and after it.
pub record Batch : Type 0 where
  pub name : Text
  pub status : ℕ
  pub input : Supply
  pub input_after : Supply
  pub old : HostAndOutputs
  pub new : HostAndOutputs

abbrev pub batch_of : Text → ℕ → Supply → Supply → HostAndOutputs → HostAndOutputs → Batch
batch_of name status input input_after old new =
    record { name = name; status = status; input = input; input_after = input_after; old = old; new = new }

-- the turns brought the state from the one before to the one after, as their lines were answered
abbrev pub IsServed : {D : Type 0} {g : Ghosts D} → Batch → Result (Files D) (FileStore D g) → Entries → Entries → Type 0
IsServed it left before after =
    HasServedBy (Happens left it.name) it.status it.input it.input_after
    (depot_and_output before it.old.host it.old.out) (depot_and_output after it.new.host it.new.out) it.old.err it.new.err

-- Files whose close failed or was cut off stand for the state that was answered; or for what one of the
-- turns, whole, makes of that, with the files as they were read in it. At that turn a failure shut the
-- depot, so that nothing changed any more.
abbrev pub IsKept : {D : Type 0} {g : Ghosts D} (it : Batch) (left : Result (Files D) (FileStore D g)) (before after : Entries)
    → IsServed it left before after → Entries → Type 0
IsKept it left before after served held =
    (held ≡ after)
    ⊎ (OneIs (MakesOf after held) (Happens left it.name served.format) served.turns served.begun served.rest
    (depot_and_output before it.old.host it.old.out) served.mid served.taken
    ⊎ LastIs (MakesOf after held) served.last served.mid (depot_and_output after it.new.host it.new.out))

-- no depot was opened: the refusal was told, and nothing was read or done
abbrev pub IsNotBegun : (Refusal → Type 0) → Batch → Type 0
IsNotBegun Gave it = IsUnopened Gave it.status it.old.out it.old.err it.new.out it.new.err
    × (it.input_after ≡ it.input) × (it.new.host ≡ it.old.host)

-- a batch ended, by the refusals that opening its files gave, and by what is left of them; they held
-- the image
abbrev pub HasEnded : {D : Type 0} {g : Ghosts D} → Batch → (Refusal → Type 0) → Image → Option (Result (Files D) (FileStore D g)) → Type 0
HasEnded {D} {g} it Gave image left = EndsSo g (IsServed it) (IsKept it) (IsNotBegun Gave it) (HoldsState image) left
