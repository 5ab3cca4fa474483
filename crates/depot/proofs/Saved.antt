-- Saving a program from the open of the files to their close.
use Rattle.std.proofs.Common.{◌≡◌, ◌⊎◌, ◌≤◌, inl, inr, IsTrue, List, ℕ, Option, Some, None, Result, Ok, Err, IfErr, refl, subst, arith}
use Rattle.sqlite_disk.specs.declared.Disk.{Ghosts}
use Rattle.sqlite_disk.specs.declared.Files.{Files}
use Rattle.sqlite.specs.declared.FileStore.{FileStore}
use Rattle.sqlite.specs.Files.{file_state}
use Rattle.sqlite.specs.Held.{Held}
use Rattle.sqlite.specs.Recovery.{Image}
use Rattle.sqlite.specs.State.{HasCleanDisk, Survives}
use Rattle.part_store.specs.Entries.{Entries}
use Rattle.part_store.specs.Opening.{HoldsState, IsAt, IsReadyFrom}
use Rattle.refusals.specs.declared.refusal.Refusal.{Refusal}
use Rattle.depot_actions.specs.DepotState.{Accepts, Program, ProgramOf}
use Rattle.depot_cli.specs.Saving.{HasGiven, HasNotSaved, HasSaved, HasServed, OutlastsSaving}
use Rattle.depot.specs.Ending.{HasCounted, IsFound}
use Rattle.depot.specs.Private.{IsShut}
use Rattle.depot.specs.Programs.{HasEnded, IsAnswered, Save, Tells}
use Rattle.depot.proofs.Ended.{Came, at_state, ends, refused_by, still_at, unchanged}

module _ {D : Type 0} (g : Ghosts D) where
  -- a depot at this state told the program of it
  tells : (old new : Held (FileStore D g)) (it : Save) (before : Entries) (program : Option (List ℕ)) → IsAt before (file_state old) → HasCleanDisk (file_state new)
      → HasGiven it.saving.user.now program (file_state old) (file_state new) → Tells it before program
  tells old new it before program at clean given =
      let one = (given clean).0.1 before at.0 in
      subst (λ (e : Entries). Accepts before (ProgramOf it.saving.user.now) (Program program) e) one.1.step.1 one.1

  shows_after : (old new : Held (FileStore D g)) (it : Save) (before : Entries) (program : Option (List ℕ)) → IsAt before (file_state old) → HasCleanDisk (file_state new)
      → HasGiven it.saving.user.now program (file_state old) (file_state new) → IsTrue (file_state new).is_open → IsAt before (file_state new)
  shows_after old new it before program at clean given = still_at g old new before (λ is_open. at) (given clean).1

  -- what saving came to, and the depot after it
  record Done (image : Image) (left : Result (Files D) (FileStore D g)) (it : Save) (before : Entries) (new : Held (FileStore D g)) : Type 0 where
    answered : IsAnswered image left it before before
    shows : IsTrue (file_state new).is_open → IsAt before (file_state new)

  done : (image : Image) (left : Result (Files D) (FileStore D g)) (old new : Held (FileStore D g)) (it : Save) (before : Entries) → IsReadyFrom image old → (file_state old).step_limit ≡ None
      → (file_state old).faults ≤ (file_state new).faults → HasCounted (file_state new).faults left → IsAt before (file_state old) → HasCleanDisk (file_state new)
      → HasSaved it.saving it.status (file_state old) (file_state new) it.old it.new ⊎ HasNotSaved it.saving it.status (file_state old) (file_state new) it.old it.new → Done image left it before new
  done image left old new it before ready unlimited counts counted at clean (inl (program, saved, printed)) = record {
    answered = (refl, inl (program, tells old new it before (Some program) at clean saved.0, saved.1, printed));
    shows = shows_after old new it before (Some program) at clean saved.0;
  }
  done image left old new it before ready unlimited counts counted at clean (inr (refusal, inl (none, given, same), one, told, quiet)) = record {
    answered = (refl, inr (refusal, inl (none, tells old new it before None at clean given, same), one, told, quiet));
    shows = shows_after old new it before None at clean given;
  }
  done image left old new it before ready unlimited counts counted at clean (inr (refusal, inr (inl (refused, same)), one, told, quiet)) =
      let all = refused.1 clean in
      let why = refused_by g left image old new (ProgramOf it.saving.user.now) refusal before ready at unlimited counts counted refused.0 all.0 all.1 in
      record {
        answered = (refl, inr (refusal, inr (inl (why, same)), one, told, quiet));
        shows = still_at g old new before (λ is_open. at) all.2;
      }
  done image left old new it before ready unlimited counts counted at clean (inr (refusal, inr (inr (program, given, unmade)), one, told, quiet)) = record {
    answered = (refl, inr (refusal, inr (inr (program, tells old new it before (Some program) at clean given, unmade)), one, told, quiet));
    shows = shows_after old new it before (Some program) at clean given;
  }

  came : (image : Image) (left : Result (Files D) (FileStore D g)) (old new : Held (FileStore D g)) → ((file : D) → g.may_leave file (g.seen file)) → (it : Save) (before : Entries) → IsFound image (Ok old)
      → HasCounted (file_state new).faults left → IsAt before (file_state old) → HasCleanDisk (file_state new)
      → HasSaved it.saving it.status (file_state old) (file_state new) it.old it.new ⊎ HasNotSaved it.saving it.status (file_state old) (file_state new) it.old it.new
      → Survives (file_state old) (file_state new) (λ _. ⊥) → Came g (IsAnswered image left it) (λ before after answered held. held ≡ before) before new
  came image left old new stays it before found counted at clean saved survives =
      let one = done image left old new it before found.0 found.1 survives.counts counted at clean saved in
      unchanged g old new stays (IsAnswered image left it) before one.answered at clean one.shows survives

  -- a program was saved from what opening gave, which was closed then
  pub ended : (opened mid : Result (Held (FileStore D g)) Refusal) (left : Option (Result (Files D) (FileStore D g))) → ((file : D) → g.may_leave file (g.seen file))
      → (Gave : Refusal → Type 0) (it : Save) (image : Image) → IsFound image opened → IfErr opened Gave → HasServed file_state it.saving it.status opened mid it.old it.new → OutlastsSaving file_state opened mid
      → IsShut mid left → HasEnded it Gave image left
  ended (Ok old) (Ok new) left stays Gave it image found gave served survives shut =
      ends g (λ left. IsAnswered image left it) (λ left before after answered held. held ≡ before) Refusal _ (HoldsState image) new left shut (λ left counted clean before stood.
      let early : HasCleanDisk (file_state old) = omega (arith, clean, survives.clean) in
      came image left old new stays it before found counted (at_state image old found early before stood) clean served survives)
  ended (Ok old) (Err refusal) left stays Gave it image found gave served survives shut = absurd served
  ended (Err refusal) (Ok new) left stays Gave it image found gave served survives shut = absurd served
  ended (Err refusal) (Err same) None stays Gave it image found gave served survives shut = ((refusal, gave, found, (served.1, served.2, served.3)), served.4)
  ended (Err refusal) (Err same) (Some left) stays Gave it image found gave served survives shut = absurd shut
