-- Sessions over two files, one after another: opens that come to nothing; and runs, each of which
-- opens the files, does one command, and ends by itself or in a crash.
use Rattle.std.specs.Prelude.{◌≡◌, ◌⊎◌, Bool, IsTrue, List, [], ◌∷◌, Option, ⊤}
use Rattle.sqlite_disk.specs.declared.Disk.{Ghosts}
use Rattle.sqlite.specs.declared.FileStore.{FileStore}
use Rattle.sqlite.specs.Files.{file_state}
use Rattle.sqlite.specs.Held.{Held}
use Rattle.sqlite.specs.Recovery.{Image}
use Rattle.sqlite.specs.State.{HasCleanDisk, Survives}
use Rattle.part_store.specs.Crashes.{AreLeft}
use Rattle.part_store.specs.Entries.{Entries, no_entries}
use Rattle.part_store.specs.Opening.{HoldsNoTables, HoldsState, HoldsStore, IsAt}
use Rattle.part_store.specs.Standing.{Stands}
use Rattle.depot_actions.specs.DepotState.{Accepts, Command, MayLeave, Reply}
use Rattle.depot_actions.specs.History.{Answers, IsStep}

-- What was done to the files, as far as the state goes: an open that came to nothing; or a command
-- that was answered, with its reply, or none where it was refused, and whether the depot was open as
-- the run ended, or a failure had shut it.
pub data Session : Type 0 where
  NotOpened : Session
  Ran : Command → Option Reply → Bool → Session

-- what a run makes of a state: nothing, or what its command makes of it; one that ends with the depot
-- open makes what its reply says
pub record IsRunStep (command : Command) (reply : Option Reply) (is_open : Bool) (before after : Entries) : Type 0 where
  pub either : (after ≡ before) ⊎ ((reply : Reply) × Accepts before command reply after)
  pub told : IsTrue is_open → IsStep command reply before after

-- what a session makes of it
abbrev pub IsSessionStep : Session → Entries → Entries → Type 0
IsSessionStep NotOpened before after = after ≡ before
IsSessionStep (Ran command reply is_open) before after = IsRunStep command reply is_open before after

-- the files stand for what the session makes of the state
abbrev pub HoldsAfter : Session → Entries → Image → Type 0
HoldsAfter session before image = (after : Entries) × IsSessionStep session before after × HoldsState image after

-- files that hold one image before the session and the other after it stand for what it makes of the
-- state that they stood for
abbrev pub Leads : Session → Image → Image → Type 0
Leads session old new = (before : Entries) → HoldsState old before → ∥ HoldsAfter session before new ∥₁

-- a session, and what the files held after it
pub record Past : Type 0 where
  pub session : Session
  pub left : Image

-- sessions one after another, each over the files that the one before left
abbrev pub AreLed : Image → List Past → Type 0
AreLed image [] = ⊤
AreLed image (one ∷ others) = Leads one.session image one.left × AreLed one.left others

-- what the files hold after them
abbrev pub left_by : Image → List Past → Image
left_by image [] = image
left_by image (one ∷ others) = left_by one.left others

abbrev pub AreSessionSteps : List Past → Entries → Entries → Type 0
AreSessionSteps [] before after = after ≡ before
AreSessionSteps (one ∷ others) before after =
    (mid : Entries) × IsSessionStep one.session before mid × AreSessionSteps others mid after

-- the files stand for what the sessions make of a state, one after another
abbrev pub HoldFold : Image → List Past → Entries → Type 0
HoldFold image past before = (after : Entries) × AreSessionSteps past before after × HoldsState (left_by image past) after

-- ---- a run over files

-- A command with its reply, or none where it was refused; the depot as it was opened and as the run
-- ended, in whatever way; and what the files hold then.
pub record Run {D : Type 0} (g : Ghosts D) : Type 0 where
  pub command : Command
  pub reply : Option Reply
  pub opened : Held (FileStore D g)
  pub ended : Held (FileStore D g)
  pub left : Image

module _ {D : Type 0} {g : Ghosts D} where
  -- an open depot was closed, and the files hold what it stood for
  abbrev pub IsClosedAs : Held (FileStore D g) → Image → Type 0
  IsClosedAs depot image = IsTrue (file_state depot).is_open
      × ((held : Entries) → Stands (file_state depot).now held → HoldsStore image held)

  -- what the files hold after a run that left the depot so: a crash ended it, its close failed or was
  -- cut off, also where a failure had shut it; or it was closed
  abbrev pub MayEnd : Held (FileStore D g) → Image → Type 0
  MayEnd depot image = AreLeft depot image ⊎ IsClosedAs depot image

  -- A run over files that held the image. The depot is what `open_from` found in them; its command
  -- was answered, and left what its call says, also if the disk failed from some moment on; and
  -- then the run ended.
  pub record IsRun (image : Image) (run : Run g) : Type 0 where
    pub found : HasCleanDisk (file_state run.opened) → (held : Entries) → HoldsStore image held
        → IsAt held (file_state run.opened)
    pub empty : HasCleanDisk (file_state run.opened) → HoldsNoTables image → IsAt no_entries (file_state run.opened)
    pub clean : HasCleanDisk (file_state run.ended)
    pub answers : Answers run.command run.reply (file_state run.opened) (file_state run.ended)
    pub survives : Survives (file_state run.opened) (file_state run.ended)
        (MayLeave run.command (file_state run.opened))
    pub left : MayEnd run.ended run.left

  -- a run as a session
  abbrev pub session_of : Run g → Session
  session_of run = Ran run.command run.reply (file_state run.ended).is_open
