-- The files of volumes, and sessions over them, one after another.
use Rattle.std.specs.Prelude.{◌≡◌, List, [], ◌∷◌, ◌++◌, Option, None, Some, ⊤}
use Rattle.std.specs.List.{AllZip}
use Rattle.sqlite.specs.Recovery.{Image}
use Rattle.part_store.specs.Entries.{Entries}
use Rattle.part_store.specs.Opening.{HoldsState}
use Rattle.depot_actions.specs.Runs.{IsSessionStep, Leads, NotOpened, Ran, Session}
use Rattle.volumes.specs.OnVolumes.{IsDoneOn}
use Rattle.volumes.specs.Volumes.{AreVolumes, begun, current, whole}

-- the files of each stand for it, and they are volumes of one depot
abbrev pub HoldVolumes : List Image → List Entries → Type 0
HoldVolumes images vs = AllZip HoldsState images vs × AreVolumes vs

-- a command is run over the volume that it is done on; an open that comes to nothing may be of any
abbrev pub IsOver : Session → List Entries → Entries → List Entries → Type 0
IsOver NotOpened earlier v later = ⊤
IsOver (Ran command reply is_open) earlier v later = IsDoneOn command earlier v later

-- A session was over the files of one volume, the one of its command, and the files of the others are as they were.
pub record IsOverOne (session : Session) (old new : List Image) : Type 0 where
  pub earlier : List Image
  pub was : Image
  pub is : Image
  pub later : List Image
  pub were : old ≡ earlier ++ was ∷ later
  pub are : new ≡ earlier ++ is ∷ later
  pub leads : Leads session was is
  pub over : (es : List Entries) (v : Entries) (ls : List Entries) → AllZip HoldsState earlier es → HoldsState was v
      → AllZip HoldsState later ls → AreVolumes (es ++ v ∷ ls) → IsOver session es v ls

-- the files of the next volume were made, and hold what begins from the current one
pub record HasBegun (old new : List Image) : Type 0 where
  pub next : Image
  pub are : new ≡ old ++ next ∷ []
  pub begins : (vs : List Entries) → HoldVolumes old vs → ∥ HoldsState next (begun (current vs)) ∥₁

-- A change of the files of volumes: a session over one of them, or none where the next volume was begun; and what the files held
-- after it.
pub record Change : Type 0 where
  pub session : Option Session
  pub left : List Image

-- the files of volumes are changed so: by that session, or by the next volume
abbrev pub IsChange : Option Session → List Image → List Image → Type 0
IsChange None old new = HasBegun old new
IsChange (Some session) old new = IsOverOne session old new

-- changes one after another, each of the files that the one before left
abbrev pub AreChanges : List Image → List Change → Type 0
AreChanges images [] = ⊤
AreChanges images (one ∷ others) = IsChange one.session images one.left × AreChanges one.left others

-- what the files hold after them
abbrev pub left_after : List Image → List Change → List Image
left_after images [] = images
left_after images (one ∷ others) = left_after one.left others

-- what a session, or the beginning of a volume, makes of what all hold together
abbrev pub IsStepOf : Option Session → Entries → Entries → Type 0
IsStepOf None before after = after ≡ before
IsStepOf (Some session) before after = IsSessionStep session before after

abbrev pub AreStepsOf : List Change → Entries → Entries → Type 0
AreStepsOf [] before after = after ≡ before
AreStepsOf (one ∷ others) before after =
    (mid : Entries) × IsStepOf one.session before mid × AreStepsOf others mid after

-- files hold volumes that are together what a session, or the beginning of a volume, makes of what others were together
abbrev pub HoldAfter : Option Session → List Entries → List Image → Type 0
HoldAfter session before images =
    (after : List Entries) × IsStepOf session (whole before) (whole after) × HoldVolumes images after

-- the files hold volumes that are together what all of it makes of what others were together, one after another
abbrev pub HoldAfterAll : List Image → List Change → List Entries → Type 0
HoldAfterAll images past before =
    (after : List Entries) × AreStepsOf past (whole before) (whole after) × HoldVolumes (left_after images past) after
