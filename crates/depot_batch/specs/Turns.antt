-- A batch, turn by turn.
use Rattle.std.specs.Prelude.{◌<◌, ◌≡◌, ◌≢◌, ◌⊎◌, ℕ, ◌-◌, ◌^◌, List, [], ◌∷◌, ◌++◌, IfSome, codes, length, take}
use Rattle.std.specs.Io.{StartsWith}
use Rattle.std.specs.List.{All, concat}
use Rattle.devices.specs.Device.{Output}
use Rattle.devices.specs.Supply.{HasGiven, Supply}
use Rattle.depot_jobs.specs.Jobs.{HasTold}
use Rattle.refusals.specs.declared.refusal.Refusal.{Refusal}
use Rattle.refusals.specs.declared.refusal.Refusal.TheVariants.{Database, Write}
use Rattle.depot_batch.specs.Lines.{HasNotTaken, HasShown, HasTakenAll, IsDeliveryLine, IsLine, IsUnfinished}
use Rattle.depot_batch.specs.declared.format.Format.{Format}
use Rattle.depot_batch.specs.declared.format.Format.TheVariants.{Json, Plain}
use Rattle.depot_batch.specs.declared.outcome.Outcome.{Outcome}
use Rattle.depot_batch.specs.declared.outcome.Outcome.TheVariants.{Done, Refused, Wrong}

-- A turn of a batch: a line is answered alone, with this outcome; or lines are done together, and
-- answered; or lines were to be done together, and nothing came of it.
pub data Turn : Type 0 where
  Alone : List ℕ → Outcome → Turn
  Together : List (List ℕ) → Turn
  Withdrawn : List (List ℕ) → Turn

-- the lines that are answered as done in a turn
abbrev pub done_in : Turn → List (List ℕ)
done_in (Alone line Done) = line ∷ []
done_in (Alone line (Refused refusal)) = []
done_in (Alone line Wrong) = []
done_in (Together lines) = lines
done_in (Withdrawn lines) = []

-- the lines that are answered in a turn
abbrev pub answered_in : Turn → List (List ℕ)
answered_in (Alone line outcome) = line ∷ []
answered_in (Together lines) = lines
answered_in (Withdrawn lines) = []

-- the lines that are answered in turns
abbrev pub lines_answered : List Turn → List (List ℕ)
lines_answered [] = []
lines_answered (turn ∷ turns) = answered_in turn ++ lines_answered turns

-- What is taken of an input in a turn: the line, or the lines, that are answered in it. Lines that
-- were to be done together come next; none of them is taken. Only lines that begin as deliveries do
-- are done together, or were to be.
abbrev pub Takes : Turn → Supply → Supply → Type 0
Takes (Alone line outcome) old new = IsLine line × HasGiven line old new
Takes (Together lines) old new = All IsDeliveryLine lines × HasGiven (concat lines) old new
Takes (Withdrawn lines) old new = All IsDeliveryLine lines × HasShown (concat lines) old new

-- a batch goes on after a turn: it is none in which a line was refused `Database`
abbrev pub GoesOn : Turn → Type 0
GoesOn (Alone line outcome) = outcome ≢ Refused Database
GoesOn (Together lines) = Unit {0}
GoesOn (Withdrawn lines) = Unit {0}

-- a line is answered alone
abbrev pub IsAlone : Turn → Type 0
IsAlone (Alone line outcome) = Unit {0}
IsAlone (Together lines) = ⊥
IsAlone (Withdrawn lines) = ⊥

-- Turns make progress: there is a line at least in each, and after lines that were tried in vain as many
-- lines are answered alone, before any are tried again.
abbrev pub MakeProgress : List Turn → Type 0
MakeProgress [] = Unit {0}
MakeProgress (Alone line outcome ∷ turns) = MakeProgress turns
MakeProgress (Together lines ∷ turns) = (0 < length lines) × MakeProgress turns
MakeProgress (Withdrawn lines ∷ turns) = (0 < length lines) × All IsAlone (take (length lines) turns) × MakeProgress turns

-- How the answers of a turn were written: whole, or up to where standard output broke.
pub data Writing : Type 0 where
  Whole : Writing
  Broken : Writing

-- What happens in a turn whose answers were written so is said elsewhere.
module _ {T : Type 0} (Happens : Turn → Writing → T → T → Type 0) where
  -- Turns come one after another, by what the input has, and by what turns are taken with, before each
  -- and after it.
  abbrev pub AreTakenBy : List Turn → Supply → Supply → T → T → Type 0
  AreTakenBy [] input rest old new = (rest ≡ input) × (new ≡ old)
  AreTakenBy (turn ∷ turns) input rest old new =
      (here : Supply) × (mid : T) × Takes turn input here × Happens turn Whole old mid × GoesOn turn
      × AreTakenBy turns here rest mid new

  -- the last turn came to its end; or its answers broke off, which is told on standard error
  abbrev pub HasServedLastBy : ℕ → Turn → T → T → Output → Output → Type 0
  HasServedLastBy status turn old new err err2 =
      ((status ≡ 0) × Happens turn Whole old new × (err2 ≡ err))
      ⊎ ((status ≡ 1) × Happens turn Broken old new × HasTold Write err err2)

  -- Why a batch ends, with this status, after so many turns, and perhaps a last one, of an input that
  -- had so much left and has this left now: at the end of the input, or of counting; at the end of
  -- the input within a line, which is answered as what it is; after a line that is refused
  -- `Database`; after a turn whose answers broke off, which is told on standard error; or since no
  -- line could be read, which is told there.
  abbrev pub EndsBy : ℕ → ℕ → List Turn → Supply → Supply → T → T → Output → Output → Type 0
  EndsBy status turns last rest left old new err err2 =
      ((status ≡ 0) × (last ≡ []) × (HasTakenAll [] rest left ⊎ ((turns ≡ 2 ^ 64 - 1) × (left ≡ rest)))
      × (new ≡ old) × (err2 ≡ err))
      ⊎ ((octets : List ℕ) × (outcome : Outcome) × (last ≡ Alone octets outcome ∷ []) × IsUnfinished octets
      × HasTakenAll octets rest left
      × HasServedLastBy status (Alone octets outcome) old new err err2)
      ⊎ ((status ≡ 1) × (line : List ℕ) × (last ≡ Alone line (Refused Database) ∷ []) × IsLine line
      × HasGiven line rest left
      × Happens (Alone line (Refused Database)) Whole old new
      × (err2 ≡ err))
      ⊎ ((status ≡ 1) × (turn : Turn) × (last ≡ turn ∷ []) × Takes turn rest left × Happens turn Broken old new
      × HasTold Write err err2)
      ⊎ ((status ≡ 1) × (last ≡ []) × (refusal : Refusal) × (octets : List ℕ) × HasNotTaken refusal octets rest left
      × HasTold refusal err err2
      × (new ≡ old))

-- ---- a batch

-- the line that asks for answers in JSON
abbrev pub json_line : List ℕ
json_line = codes "json" ++ 10 ∷ []

-- Where the turns of a batch begin that has this format. If the input begins with the line that asks for JSON, they begin
-- after that line, which has no answer. Otherwise they begin where the input does; if there is no turn, the first line could
-- not be read.
abbrev pub BeginsSo : Format → List Turn → Supply → Supply → Type 0
BeginsSo Json turns input begun = HasGiven json_line input begun
BeginsSo Plain [] input begun = begun ≡ input
BeginsSo Plain (turn ∷ turns) input begun = (begun ≡ input) × IfSome input.left (λ left. StartsWith left json_line → ⊥)

-- A batch was served, with this status: its format was found out, turns were taken one after another, and made progress,
-- until it ended. What happens in a turn, by the format, is said elsewhere.
pub record HasServedBy
    {T : Type 0} (Happens : Format → Turn → Writing → T → T → Type 0) (status : ℕ) (input input2 : Supply) (old new : T)
    (err err2 : Output) : Type 0 where
  pub format : Format
  pub turns : List Turn
  pub begun : Supply
  pub rest : Supply
  pub mid : T
  pub taken : AreTakenBy (Happens format) turns begun rest old mid
  pub last : List Turn
  pub ended : EndsBy (Happens format) status (length turns) last rest input2 mid new err err2
  pub begins : BeginsSo format (turns ++ last) input begun
  pub progress : MakeProgress (turns ++ last)
