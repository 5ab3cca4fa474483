-- What a batch does on the store of a depot.
use Rattle.std.specs.Prelude.{◌≡◌, ℕ, List, [], ◌∷◌, ◌++◌, Some, Result, Ok, Err}
use Rattle.sqlite_trees.specs.declared.store.Store.{Ghosts}
use Rattle.sqlite_trees.specs.Tree.{Trees}
use Rattle.sqlite.specs.Held.{Held, state}
use Rattle.sqlite.specs.State.{HasCleanDisk, State, Survives}
use Rattle.part_store.specs.Standing.{LeavesUnchanged}
use Rattle.depot_actions.specs.Applying.{MayAdd}
use Rattle.depot_actions.specs.Deliveries.{DoesAll, MayLeaveAll}
use Rattle.depot_actions.specs.DepotState.{Export as Exports, Reply as DepotReply, Text as Written}
use Rattle.depot_actions.specs.History.{Call}
use Rattle.devices.specs.Device.{Output}
use Rattle.devices.specs.Supply.{Supply}
use Rattle.depot_jobs.specs.Host.{HasMade, HostState}
use Rattle.depot_jobs.specs.Jobs.{HasTold}
use Rattle.depot_jobs.specs.Inputs.{HasReadFile, file_of}
use Rattle.depot_cli.specs.Requests.{on_depot, request_command}
use Rattle.depot_cli.specs.Tasks.{HasDone, HasRefused}
use Rattle.refusals.specs.declared.refusal.Refusal.{Refusal}
use Rattle.depot_batch.specs.Asked.{Text}
use Rattle.depot_batch.specs.Effects.{Accepted, AcceptedAll, Declined, DepotAndOutput, Effect, HasHappened, IsAsked, MayMakeIn, NotAsked, Unchanged, depot_and_output}
use Rattle.depot_batch.specs.Turns.{AreTakenBy, HasServedBy, Turn, Writing, done_in}
use Rattle.depot_batch.specs.declared.asked.Asked.{Asked}
use Rattle.depot_batch.specs.declared.format.Format.{Format}
use Rattle.depot_batch.specs.declared.asked.Asked.TheVariants.{Reply, Export as IntoFile}

-- what a crash may leave of a turn that it couldn't leave before: what the turn makes of the store, with the host as it
-- was before it and is after it
abbrev pub MayLeaveIn : Turn → State → HostState → HostState → Trees → Type 0
MayLeaveIn turn old = MayMakeIn (λ command. MayAdd command old) (λ commands. MayLeaveAll commands old) turn

module _ {S : Type 0} (g : Ghosts S) where
  -- what was done with a depot: what it accepts, and that nothing changes, as long as its disk returns what was written
  abbrev pub Did : Held S → Held S → Effect → Type 0
  Did old new NotAsked = new ≡ old
  Did old new Unchanged = HasCleanDisk (state g new) → LeavesUnchanged (state g old) (state g new)
  Did old new (Accepted command reply) = HasDone command reply (state g old) (state g new)
  Did old new (AcceptedAll commands replies) =
      HasCleanDisk (state g new) → DoesAll commands replies (state g old) (state g new)
  Did old new (Declined command refusal) = HasRefused command refusal (state g old) (state g new)

  -- What happens in a turn: this comes of it, and a crash may leave of the depot what it could have left before, or
  -- what the turn makes of it.
  pub record Happens (name : Text) (format : Format) (turn : Turn) (writing : Writing) (old new : DepotAndOutput (Held S)) : Type 0 where
    pub come : HasHappened Did name format turn writing old new
    pub outlasts : Survives (state g old.depot) (state g new.depot) (MayLeaveIn turn (state g old.depot) old.host new.host)

  -- turns of a batch, one after another; in none was a line refused `Database`
  abbrev pub AreTaken : Text → Format → List Turn → Supply → Supply → DepotAndOutput (Held S) → DepotAndOutput (Held S) → Type 0
  AreTaken name format turns input rest old new = AreTakenBy (Happens name format) turns input rest old new

  -- the trees are what one of the turns makes, whole, of what the turns before it left
  pub record IsMadeAtOne (name : Text) (format : Format) (turns : List Turn) (input : Supply) (old : DepotAndOutput (Held S)) (trees : Trees) : Type 0 where
    pub before : List Turn
    pub turn : Turn
    pub later : List Turn
    pub are : turns ≡ before ++ turn ∷ later
    pub here : Supply
    pub mid : DepotAndOutput (Held S)
    pub taken : AreTaken name format before input here old mid
    pub host : HostState
    pub made : MayLeaveIn turn (state g mid.depot) mid.host host trees

  -- a batch was served, with this status
  abbrev pub HasServed : Text → ℕ → Supply → Supply → DepotAndOutput (Held S) → DepotAndOutput (Held S) → Output → Output → Type 0
  HasServed name status input input2 old new err err2 = HasServedBy (Happens name) status input input2 old new err err2

  -- What opening a depot gave was served a batch, with this status, and it is open still; or the
  -- refusal of opening was told, with status 1, and nothing else happened.
  abbrev pub IsServed :
      Text → ℕ → Supply → Supply → Result (Held S) Refusal → Result (Held S) Refusal
      → HostState → HostState → Output → Output → Output → Output → Type 0
  IsServed name status input input2 (Ok old) (Ok new) host host2 out out2 err err2 =
      HasServed name status input input2 (depot_and_output old host out) (depot_and_output new host2 out2) err err2
  IsServed name status input input2 (Err refusal) (Err same) host host2 out out2 err err2 =
      (same ≡ refusal) × (status ≡ 1) × HasTold refusal err err2 × (input2 ≡ input) × (host2 ≡ host) × (out2 ≡ out)
  IsServed name status input input2 opened now host host2 out out2 err err2 = ⊥

-- ---- lines as calls

-- A call of a depot does what is asked: a request with the octets that were read of its file; or an
-- export, whose text was made a file.
abbrev pub IsCallFor : Text → Asked → Call → HostState → HostState → Type 0
IsCallFor name (Reply command) call host host2 =
    (octets : List ℕ) × HasReadFile (file_of (on_depot command)) octets host host2
    × (reply : DepotReply) × (call ≡ record { command = request_command (on_depot command) octets; reply = Some reply })
IsCallFor name (IntoFile export) call host host2 =
    (text : List ℕ) × HasMade export.file.now name text host host2
    × (call ≡ record { command = Exports export.user.now export.number export.encoding; reply = Some (Written text) })

-- calls do what lines ask for, one after another
abbrev pub AreCallsOf : Text → List (List ℕ) → List Call → HostState → Type 0
AreCallsOf name [] [] host = Unit {0}
AreCallsOf name (line ∷ lines) (call ∷ calls) host =
    (asked : Asked) × IsAsked line asked
    × (mid : HostState) × IsCallFor name asked call host mid × AreCallsOf name lines calls mid
AreCallsOf name lines calls host = ⊥

module _ {S : Type 0} (g : Ghosts S) where
  -- Calls do what the lines ask for that are answered as done in turns that were taken, each with the
  -- host as it was then.
  abbrev pub AreCallsIn :
      (name : Text) (format : Format) (turns : List Turn) (input rest : Supply) (old new : DepotAndOutput (Held S))
      → AreTaken g name format turns input rest old new → List Call → Type 0
  AreCallsIn name format [] input rest old new taken calls = calls ≡ []
  AreCallsIn name format (turn ∷ turns) input rest old new taken calls =
      (first later : List Call) × (calls ≡ first ++ later) × AreCallsOf name (done_in turn) first old.host
      × AreCallsIn name format turns taken.0 rest taken.1 new taken.5 later
