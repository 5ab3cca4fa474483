-- Private: how lines are read, parted and done together.
use Rattle.std.specs.Prelude.{◌≡◌, ◌≢◌, ◌⊎◌, ◌<◌, ◌≤◌, ◌+◌, ◌^◌, ℕ, List, [], ◌∷◌, ◌++◌, Option, Some, None, Result, Ok, Err, IfSome, take, drop, length, map, Vec, string_bytes}
use Rattle.std.specs.Borrow.{GName}
use Rattle.std.specs.Io.{StartsWith}
use Rattle.std.specs.List.{All, concat}
use Rattle.std.specs.declared.alloc.Global.{Global}
use Rattle.sqlite_trees.specs.declared.store.Store.{Ghosts}
use Rattle.sqlite.specs.Held.{Held}
use Rattle.part_store.specs.Entries.{Listing}
use Rattle.part_store.specs.Standing.{listed}
use Rattle.part_store.specs.declared.entry.EntryRow.{EntryRow}
use Rattle.devices.specs.Device.{Output}
use Rattle.devices.specs.Supply.{HasGiven, Supply}
use Rattle.depot_actions.specs.DepotState.{Command, Deliver}
use Rattle.depot_jobs.specs.Host.{HostState}
use Rattle.depot_jobs.specs.Jobs.{HasTold}
use Rattle.refusals.specs.declared.refusal.Refusal.{Refusal}
use Rattle.depot_batch.specs.declared.ahead.Ahead.{Ahead}
use Rattle.depot_batch.specs.declared.ahead.Ahead.TheVariants.{Deliveries, Other, End}
use Rattle.depot_batch.specs.declared.desk.Desk.{Desk}
use Rattle.depot_batch.specs.declared.first.First.{First}
use Rattle.depot_batch.specs.declared.first.First.TheVariants as firsts
use Rattle.depot_batch.specs.declared.format.Format.{Format}
use Rattle.depot_batch.specs.declared.format.Format.TheVariants.{Json, Plain}
use Rattle.depot_batch.specs.declared.mails.Mail.{Mail}
use Rattle.depot_batch.specs.declared.reading.Taken.{Taken}
use Rattle.depot_batch.specs.declared.reading.Taken.TheVariants.{Line, Unfinished, Nothing}
use Rattle.depot_batch.specs.declared.together.Tried.{Tried}
use Rattle.depot_batch.specs.declared.together.Tried.TheVariants as tried
use Rattle.depot_batch.specs.Asked.{Text}
use Rattle.depot_batch.specs.Batch.{Happens}
use Rattle.depot_batch.specs.Effects.{DepotAndOutput, IsUnread, depot_and_output, most_together}
use Rattle.depot_batch.specs.Lines.{HasShown, HasTakenAll, IsDeliveryLine, IsLine, IsUnfinished}
use Rattle.depot_batch.specs.Turns.{Alone, EndsBy, GoesOn, Takes, Together, Turn, Whole, Withdrawn, json_line}
use Rattle.depot_batch.specs.Words.{texts_of}

-- what was taken of an input next: a line; what it ends with; or nothing, at its end
abbrev pub HasTakenNext : Taken → List ℕ → Supply → Supply → Type 0
HasTakenNext Line octets old new = IsLine octets × HasGiven octets old new
HasTakenNext Unfinished octets old new = IsUnfinished octets × HasTakenAll octets old new
HasTakenNext Nothing octets old new = (octets ≡ []) × HasTakenAll [] old new

-- how octets end
abbrev pub EndsSo : Taken → List ℕ → Type 0
EndsSo Line octets = (text : List ℕ) × (octets ≡ text ++ 10 ∷ [])
EndsSo Unfinished octets = (octets ≢ []) × ((text : List ℕ) → octets ≡ text ++ 10 ∷ [] → ⊥)
EndsSo Nothing octets = octets ≡ []

-- what was taken of a reader that had so much left
abbrev pub IsTaken : Taken → List ℕ → Option (List ℕ) → Type 0
IsTaken Line octets left = IsLine octets
IsTaken Unfinished octets left = IsUnfinished octets × IfSome left (λ all. all ≡ octets)
IsTaken Nothing octets left = (octets ≡ []) × IfSome left (λ all. all ≡ octets)

-- the texts of a line: the first, and those after its space
abbrev pub parted : List ℕ → List ℕ → List (List ℕ)
parted text [] = text ∷ []
parted text (space ∷ rest) = text ∷ texts_of rest

-- the same, where the first has so many octets
abbrev pub parted_at : ℕ → List ℕ → List (List ℕ)
parted_at len line = parted (take len line) (drop len line)

-- ---- lines together

-- the octets of each of these lines
abbrev pub lines_of : List (Vec ℕ Global) → List (List ℕ)
lines_of lines = map (λ line. line.items) lines

-- octets begin with these lines, which begin as deliveries do and are few enough to be done together
pub record AreShown (lines : List (List ℕ)) (octets : List ℕ) : Type 0 where
  pub whole : All IsDeliveryLine lines
  pub few : length lines ≤ most_together
  pub small : length octets < 2 ^ 64
  pub later : List ℕ
  pub are : octets ≡ concat lines ++ later

-- what an input has ready; nothing was taken but its end
abbrev pub IsAhead : Ahead → Supply → Supply → Type 0
IsAhead (Deliveries lines) old new = All IsDeliveryLine (lines_of lines.items) × (length (lines_of lines.items) ≤ most_together)
    × HasShown (concat (lines_of lines.items)) old new × (0 < length (lines_of lines.items))
IsAhead Other old new = HasShown [] old new
IsAhead End old new = HasTakenAll [] old new

-- what a reader has ready that had so much left
abbrev pub IsSeen : Ahead → Option (List ℕ) → Type 0
IsSeen (Deliveries lines) left = All IsDeliveryLine (lines_of lines.items) × (length (lines_of lines.items) ≤ most_together)
    × IfSome left (λ all. StartsWith all (concat (lines_of lines.items))) × (0 < length (lines_of lines.items))
IsSeen Other left = Unit {0}
IsSeen End left = IfSome left (λ all. all ≡ [])

-- a reader that had so much left, and so much ready, may be told that these octets were taken
abbrev pub CanTake : List ℕ → Option (List ℕ) → Option ℕ → Type 0
CanTake octets left limit = IfSome left (λ _. IfSome limit (λ n. length octets ≤ n))

-- so may one with lines ready, whose length is a number of the machine
abbrev pub MayTake : Ahead → Option (List ℕ) → Option ℕ → Type 0
MayTake (Deliveries lines) left limit = (length (concat (lines_of lines.items)) < 2 ^ 64)
    × CanTake (concat (lines_of lines.items)) left limit
MayTake Other left limit = Unit {0}
MayTake End left limit = Unit {0}

-- ---- the first line

-- an input, as far as it is known, doesn't begin with the line that asks for JSON
abbrev pub BeginsOtherwise : Supply → Type 0
BeginsOtherwise input = IfSome input.left (λ left. StartsWith left json_line → ⊥)

-- the format of a batch that begins so
abbrev pub format_of : First → Format
format_of firsts.Json = Json
format_of firsts.Ready = Plain
format_of (firsts.Taken taken line) = Plain

-- what was taken of an input at its beginning: the line that asks for JSON; nothing, if lines are ready; or what comes first
abbrev pub HasFirst : First → Supply → Supply → Type 0
HasFirst firsts.Json old new = HasGiven json_line old new
HasFirst firsts.Ready old new = HasShown [] old new × BeginsOtherwise old
HasFirst (firsts.Taken taken line) old new = HasTakenNext taken line.items old new × (line.items ≢ json_line)

-- where the turns begin: after the line that asks for JSON, or where the input does
abbrev pub Begins : Format → Supply → Supply → Type 0
Begins Json input begun = HasGiven json_line input begun
Begins Plain input begun = (begun ≡ input) × BeginsOtherwise input

-- ---- what lines do

-- what a message is to the depot
abbrev pub command_of : Mail → Command
command_of mail = Deliver (string_bytes mail.user) mail.message.items

-- what rows of new entries are
abbrev pub filed_by : Vec EntryRow Global → List Listing
filed_by rows = map listed rows.items

-- the file of a line wasn't read, or the host wasn't asked for it
abbrev pub IsPassedOver : List ℕ → HostState → HostState → Type 0
IsPassedOver line host host2 = (host2 ≡ host) ⊎ IsUnread line host host2

-- a turn comes where so many lines are to be done alone, and leaves so many
abbrev pub ComesNext : ℕ → Turn → ℕ → Type 0
ComesNext alone (Alone line outcome) later = alone ≤ later + 1
ComesNext alone (Together lines) later = (alone ≡ 0) × (0 < length lines)
ComesNext alone (Withdrawn lines) later = (alone ≡ 0) × (0 < length lines) × (length lines ≤ later)

-- so does the last turn, if there is one
abbrev pub ComesLast : ℕ → List Turn → ℕ → Type 0
ComesLast alone [] later = Unit {0}
ComesLast alone (turn ∷ []) later = ComesNext alone turn later
ComesLast alone (turn ∷ next ∷ turns) later = ⊥

module _ {S : Type 0} (g : Ghosts S) where
  -- what came of lines that were to be done together
  abbrev pub HasTried : Text → Format → Tried → List (List ℕ) → DepotAndOutput (Held S) → DepotAndOutput (Held S) → Type 0
  HasTried name format tried.Done lines old new = Happens g name format (Together lines) Whole old new
  HasTried name format tried.Withdrawn lines old new = Happens g name format (Withdrawn lines) Whole old new

  -- a turn was taken, and the batch goes on; it ended, with this status; or it ended with a refusal, once that is told
  abbrev pub TurnsOut : Text → Format → Result (Option ℕ) Refusal → ℕ → ℕ → Supply → Supply → DepotAndOutput (Held S) → DepotAndOutput (Held S) → Type 0
  TurnsOut name format (Ok None) alone later input rest old new =
      (turn : Turn) × Takes turn input rest × Happens g name format turn Whole old new × GoesOn turn × ComesNext alone turn later
  TurnsOut name format (Ok (Some status)) alone later input rest old new =
      (last : List Turn) × ((err : Output) → EndsBy (Happens g name format) status 0 last input rest old new err err) × ComesLast alone last later
  TurnsOut name format (Err refusal) alone later input rest old new =
      (last : List Turn)
      × ((err err2 : Output) → HasTold refusal err err2 → EndsBy (Happens g name format) 1 0 last input rest old new err err2)
      × ComesLast alone last later

  -- this came of a turn
  pub record HasTurned (name : Text) (format : Format) (came : Result (Option ℕ) Refusal) (alone later : ℕ) (input rest : Supply) (old new : DepotAndOutput (Held S)) : Type 0 where
    pub come : TurnsOut name format came alone later input rest old new

  -- this came of the first turn
  pub record HasBegun (name : Text) (format : Format) (came : Result (Option ℕ) Refusal) (later : ℕ) (input rest : Supply) (old new : DepotAndOutput (Held S)) : Type 0 where
    pub begun : Supply
    pub begins : Begins format input begun
    pub turned : HasTurned name format came 0 later begun rest old new

-- ---- the desk

-- the name of the depot's file, the format of the answers, and which depot, host and writer there are
pub record Places : Type 0 where
  pub name : Text
  pub format : Format
  pub depot : GName
  pub host : GName
  pub out : GName

module _ {S H W Reader Writer : Type 0} where
  abbrev pub places_of : Desk S H W Reader Writer → Places
  places_of desk = record { name = desk.name.now; format = desk.format; depot = desk.depot.ghost_name; host = desk.host.ghost_name; out = desk.out.ghost_name }

  -- what lines are answered with there
  abbrev pub on : (H → HostState) → (W → Option (List ℕ)) → Desk S H W Reader Writer → DepotAndOutput (Held S)
  on state contents desk =
      depot_and_output desk.depot.now (state desk.host.now) (record { written = contents desk.out.now.inner; faults = desk.out.now.faults })
