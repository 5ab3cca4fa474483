-- What the lines of a batch come to: by what is done with a depot, for whatever a depot is seen as, its store or the
-- state that this stands for.
use Rattle.std.specs.Prelude.{◌<◌, ◌≡◌, ◌≢◌, ◌⊎◌, ℕ, ◌≤◌, List, [], ◌∷◌, ◌++◌, None, Some, length, map}
use Rattle.std.specs.List.{All, flat_map}
use Rattle.std.specs.Borrow.{Bor}
use Rattle.std.specs.Str.{IsUtf8}
use Rattle.part_store.specs.Entries.{Listing}
use Rattle.depot_actions.specs.DepotState.{Command, Export as Exports, Listed, Reply as DepotReply, Text as Written}
use Rattle.devices.specs.Device.{HasBroken, HasTaken, Output}
use Rattle.depot_jobs.specs.Host.{HasMade, HasNotMade, HostState, makes, with_call}
use Rattle.depot_jobs.specs.Inputs.{HasNotReadFile, HasReadFile, file_of}
use Rattle.depot_cli.specs.Requests.{on_depot, request_command}
use Rattle.depot_jobs.specs.Requests.{Request}
use Rattle.depot_jobs.specs.declared.request.Deposit.TheVariants.{Message}
use Rattle.depot_cli.specs.declared.task.WithReply.TheVariants.{FromFile}
use Rattle.refusals.specs.declared.refusal.Refusal.{Refusal}
use Rattle.refusals.specs.declared.refusal.Refusal.TheVariants.{Memory, Write}
use Rattle.depot_batch.specs.Asked.{AskNothing, Asks, Text}
use Rattle.depot_batch.specs.Said.{OfExport, OfFault, OfRefusal, OfReply, Said, Suits, Wording, answer_in, filed_in}
use Rattle.depot_batch.specs.Turns.{Alone, Broken, Together, Turn, Whole, Withdrawn, Writing}
use Rattle.depot_batch.specs.Words.{words_of}
use Rattle.depot_batch.specs.declared.asked.Asked.{Asked}
use Rattle.depot_batch.specs.declared.asked.Asked.TheVariants.{Reply, Export as IntoFile}
use Rattle.depot_batch.specs.declared.asked.Export.{Export}
use Rattle.depot_batch.specs.declared.asked.LineFault.{LineFault}
use Rattle.depot_batch.specs.declared.asked.LineFault.TheVariants as faults
use Rattle.depot_batch.specs.declared.format.Format.{Format}
use Rattle.depot_batch.specs.declared.outcome.Outcome.{Outcome}
use Rattle.depot_batch.specs.declared.outcome.Outcome.TheVariants.{Done, Refused, Wrong}

-- ---- what a line asks for

-- the words of a line, which a line break ends
abbrev pub HasWords : List ℕ → List (List ℕ) → Type 0
HasWords octets words = (text : List ℕ) × (octets ≡ text ++ 10 ∷ []) × (words_of text ≡ Some words)

-- what a line asks for
abbrev pub IsAsked : List ℕ → Asked → Type 0
IsAsked octets asked = (words : List Text) × HasWords octets words × Asks words asked

-- why it asks for nothing
abbrev pub IsWrong : List ℕ → LineFault → Type 0
IsWrong octets faults.Unfinished = (text : List ℕ) → octets ≡ text ++ 10 ∷ [] → ⊥
IsWrong octets faults.Words = (text : List ℕ) × (octets ≡ text ++ 10 ∷ []) × (words_of text ≡ None)
IsWrong octets faults.NotText = (words : List (List ℕ)) × HasWords octets words × (All IsUtf8 words → ⊥)
IsWrong octets fault = (words : List Text) × HasWords octets words × AskNothing words fault

-- ---- what is answered

-- an answer was written so
abbrev pub HasWritten : Writing → List ℕ → Output → Output → Type 0
HasWritten Whole = HasTaken
HasWritten Broken = HasBroken

-- ---- a line

-- What is done with a depot: it isn't asked; nothing of it changes; it accepts a command with a reply, or commands one
-- after another; or it declines a command by a refusal. What that is, is said elsewhere.
pub data Effect : Type 0 where
  NotAsked : Effect
  Unchanged : Effect
  Accepted : Command → DepotReply → Effect
  AcceptedAll : List Command → List DepotReply → Effect
  Declined : Command → Refusal → Effect

-- This was done with a depot.
module _ (Did : Effect → Type 0) where
  -- it accepted a command, and its reply is the answer
  abbrev pub HasAnswered : Command → Said → Type 0
  HasAnswered command said = (reply : DepotReply) × Did (Accepted command reply) × (said ≡ OfReply command reply)

  -- the file of a request was read, and the depot did what is asked, with this answer
  abbrev pub HasReplied : Request → Said → HostState → HostState → Type 0
  HasReplied request said host host2 =
      (octets : List ℕ) × HasReadFile (file_of request) octets host host2
      × HasAnswered (request_command request octets) said

  -- It was not read, and nothing was asked of the depot; or the depot refused what was asked.
  abbrev pub HasNotReplied : Request → Refusal → HostState → HostState → Type 0
  HasNotReplied request refusal host host2 =
      (HasNotReadFile refusal (file_of request) host host2 × Did NotAsked)
      ⊎ ((octets : List ℕ) × HasReadFile (file_of request) octets host host2
      × Did (Declined (request_command request octets) refusal))

  -- the text of an entry was made a file, which is neither the depot's own nor one beside it
  abbrev pub HasExported : Text → Export → HostState → HostState → Type 0
  HasExported name export host host2 =
      (text : List ℕ) × HasMade export.file.now name text host host2
      × Did (Accepted (Exports export.user.now export.number export.encoding) (Written text))

  -- It was not: the file could not be made or written, or the depot refused for a cause of its own. No file was kept.
  abbrev pub HasNotExported : Text → Export → Refusal → HostState → HostState → Type 0
  HasNotExported name export refusal host host2 =
      (HasNotMade refusal export.file.now name host host2 × Did Unchanged)
      ⊎ ((refusal ≢ Write) × (host2 ≡ with_call (makes export.file.now name) host)
      × Did (Declined (Exports export.user.now export.number export.encoding) refusal))

  -- what is asked was done, with this answer
  abbrev pub IsDone : Text → Asked → Said → HostState → HostState → Type 0
  IsDone name (Reply command) said host host2 = HasReplied (on_depot command) said host host2
  IsDone name (IntoFile export) said host host2 = (said ≡ OfExport export.number) × HasExported name export host host2

  -- it was refused
  abbrev pub IsRefused : Text → Asked → Refusal → HostState → HostState → Type 0
  IsRefused name (Reply command) refusal host host2 = HasNotReplied (on_depot command) refusal host host2
  IsRefused name (IntoFile export) refusal host host2 = HasNotExported name export refusal host host2

  -- nothing happened to the depot and the host
  abbrev pub IsIdle : HostState → HostState → Type 0
  IsIdle host host2 = Did NotAsked × (host2 ≡ host)

  -- what came of a line, and its answer
  abbrev pub HasCome : Text → List ℕ → Outcome → Said → HostState → HostState → Type 0
  HasCome name octets Done said host host2 = (asked : Asked) × IsAsked octets asked × IsDone name asked said host host2
  HasCome name octets (Refused refusal) said host host2 =
      (said ≡ OfRefusal refusal)
      × (((refusal ≡ Memory) × IsIdle host host2)
      ⊎ ((asked : Asked) × IsAsked octets asked × IsRefused name asked refusal host host2))
  HasCome name octets Wrong said host host2 =
      (fault : LineFault) × IsWrong octets fault × (said ≡ OfFault fault) × IsIdle host host2

-- ---- lines together

-- A line asks for a delivery, and its file was read: this is what it asks of the depot.
abbrev pub IsDelivery : List ℕ → Command → HostState → HostState → Type 0
IsDelivery line command host host2 =
    (user file : Bor Text) × IsAsked line (Reply (FromFile Message user file))
    × (octets : List ℕ) × HasReadFile (Some file.now) octets host host2
    × (command ≡ request_command (on_depot (FromFile Message user file)) octets)

-- each line does, and the files were read in turn
abbrev pub AreDeliveries : List (List ℕ) → List Command → HostState → HostState → Type 0
AreDeliveries [] [] host host2 = host2 ≡ host
AreDeliveries (line ∷ lines) (command ∷ commands) host host2 =
    (mid : HostState) × IsDelivery line command host mid × AreDeliveries lines commands mid host2
AreDeliveries lines commands host host2 = ⊥

-- a line asks for a delivery, and its file was not read
abbrev pub IsUnread : List ℕ → HostState → HostState → Type 0
IsUnread line host host2 =
    (user file : Bor Text) × IsAsked line (Reply (FromFile Message user file))
    × (refusal : Refusal) × HasNotReadFile refusal (Some file.now) host host2

-- of a beginning of the lines, each asks for a delivery, and the files were read in turn; that of the
-- next perhaps was not
pub record AreLookedUp (lines : List (List ℕ)) (host host2 : HostState) : Type 0 where
  pub read : List (List ℕ)
  pub later : List (List ℕ)
  pub are : lines ≡ read ++ later
  pub commands : List Command
  pub mid : HostState
  pub files : AreDeliveries read commands host mid
  pub stops : (host2 ≡ mid)
      ⊎ ((next : List ℕ) × (others : List (List ℕ)) × (later ≡ next ∷ others) × IsUnread next mid host2)

-- as many lines are done together at most
abbrev pub most_together : ℕ
most_together = 64

-- ---- a turn

-- what lines are answered with: a depot, the host and standard output
pub record DepotAndOutput (D : Type 0) : Type 0 where
  pub depot : D
  pub host : HostState
  pub out : Output

abbrev pub depot_and_output : {D : Type 0} → D → HostState → Output → DepotAndOutput D
depot_and_output depot host out = record { depot = depot; host = host; out = out }

-- What is done with a depot, by what it was and what it is then.
module _ {D : Type 0} (Did : D → D → Effect → Type 0) where
  -- A line was answered alone. What happened doesn't depend on the format of the answer.
  pub record IsAnsweredBy (format : Format) (writing : Writing) (name line : List ℕ) (outcome : Outcome) (old new : DepotAndOutput D) : Type 0 where
    pub said : Said
    pub come : HasCome (Did old.depot new.depot) name line outcome said old.host new.host
    pub wording : Wording
    pub suits : Suits format wording
    pub written : HasWritten writing (answer_in wording said) old.out new.out

  -- Lines were done together, and answered: each asks for a delivery, the files were read in turn,
  -- and the depot did all. Then the answers were written, in the lines' order, all in one way.
  pub record AreAnsweredBy (format : Format) (writing : Writing) (lines : List (List ℕ)) (old new : DepotAndOutput D) : Type 0 where
    pub few : length lines ≤ most_together
    pub commands : List Command
    pub files : AreDeliveries lines commands old.host new.host
    pub filed : List (List Listing)
    pub done : Did old.depot new.depot (AcceptedAll commands (map Listed filed))
    pub wording : Wording
    pub suits : Suits format wording
    pub written : HasWritten writing (flat_map (filed_in wording) filed) old.out new.out

  -- nothing came of lines that were to be done together: the depot is as it was, and nothing was written
  pub record AreWithdrawn (lines : List (List ℕ)) (old new : DepotAndOutput D) : Type 0 where
    pub some : 0 < length lines
    pub few : length lines ≤ most_together
    pub files : AreLookedUp lines old.host new.host
    pub unchanged : Did old.depot new.depot Unchanged
    pub out : new.out ≡ old.out

  -- what happened in a turn
  abbrev pub HasHappened : Text → Format → Turn → Writing → DepotAndOutput D → DepotAndOutput D → Type 0
  HasHappened name format (Alone line outcome) writing old new = IsAnsweredBy format writing name line outcome old new
  HasHappened name format (Together lines) writing old new = AreAnsweredBy format writing lines old new
  HasHappened name format (Withdrawn lines) Whole old new = AreWithdrawn lines old new
  HasHappened name format (Withdrawn lines) Broken old new = ⊥

-- ---- what a crash may leave

-- What a crash may leave of what is asked that it couldn't leave before: what a request's command
-- makes with the octets that were read of its file. An export only looks. What a command makes, or what
-- commands make, all of them, is said elsewhere.
abbrev pub MayMake : {A : Type 0} → (Command → A → Type 0) → Asked → HostState → HostState → A → Type 0
MayMake Makes (Reply command) host host2 made =
    (octets : List ℕ) × HasReadFile (file_of (on_depot command)) octets host host2
    × Makes (request_command (on_depot command) octets) made
MayMake Makes (IntoFile export) host host2 made = ⊥

-- of a line
abbrev pub MayMakeOne : {A : Type 0} → (Command → A → Type 0) → List ℕ → HostState → HostState → A → Type 0
MayMakeOne Makes line host host2 made = (asked : Asked) × IsAsked line asked × MayMake Makes asked host host2 made

-- of lines that are to be done together
abbrev pub MayMakeAll : {A : Type 0} → (List Command → A → Type 0) → List (List ℕ) → HostState → HostState → A → Type 0
MayMakeAll MakeAll lines host host2 made =
    (commands : List Command) × AreDeliveries lines commands host host2 × MakeAll commands made

-- of a turn
abbrev pub MayMakeIn :
    {A : Type 0} → (Command → A → Type 0) → (List Command → A → Type 0) → Turn → HostState → HostState → A → Type 0
MayMakeIn Makes MakeAll (Alone line outcome) host host2 made = MayMakeOne Makes line host host2 made
MayMakeIn Makes MakeAll (Together lines) host host2 made = MayMakeAll MakeAll lines host host2 made
MayMakeIn Makes MakeAll (Withdrawn lines) host host2 made = MayMakeAll MakeAll lines host host2 made
