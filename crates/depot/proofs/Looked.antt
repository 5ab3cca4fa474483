-- A look from the open of the files to their close.
use Rattle.std.proofs.Common.{◌≡◌, inl, inr, IsTrue, Option, Some, None, Result, Ok, Err, IfErr, refl, arith}
use Rattle.sqlite_disk.specs.declared.Disk.{Ghosts}
use Rattle.sqlite_disk.specs.declared.Files.{Files}
use Rattle.sqlite.specs.declared.FileStore.{FileStore}
use Rattle.sqlite.specs.Files.{file_state}
use Rattle.sqlite.specs.Held.{Held}
use Rattle.sqlite.specs.Recovery.{Image}
use Rattle.sqlite.specs.State.{HasCleanDisk, Survives}
use Rattle.part_store.specs.Entries.{Entries}
use Rattle.part_store.specs.Opening.{HoldsStore, IsAt, IsFoundIn}
use Rattle.part_store.specs.declared.looking.Unopened.{Unopened}
use Rattle.depot_cli.specs.Carrying.{HasReported, OutlastsReporting}
use Rattle.depot_cli.specs.Looking.{HasLooked}
use Rattle.depot_cli.specs.Tasks.{store_and_outputs}
use Rattle.depot.specs.Ending.{HasCounted, IsSeen}
use Rattle.depot.specs.Private.{IsShut}
use Rattle.depot.specs.Looks.{Answer, HasEnded, IsAnswered, IsUntold}
use Rattle.depot.proofs.Ended.{Came, ends, still_at, unchanged}

module _ {D : Type 0} (g : Ghosts D) where
  -- what a look came to, and the depot after it
  record Done (image : Image) (left : Result (Files D) (FileStore D g)) (it : Answer) (before : Entries) (new : Held (FileStore D g)) : Type 0 where
    answered : IsAnswered image left it before before
    shows : IsTrue (file_state new).is_open → IsAt before (file_state new)

  done : (image : Image) (left : Result (Files D) (FileStore D g)) (old new : Held (FileStore D g)) (it : Answer) (before : Entries) → IsFoundIn image old → (file_state old).step_limit ≡ None
      → HasCounted (file_state new).faults left → IsAt before (file_state old) → HasCleanDisk (file_state new)
      → HasLooked it.look it.status (store_and_outputs (file_state old) it.out it.err) (store_and_outputs (file_state new) it.out_after it.err_after) → Done image left it before new
  done image left old new it before finds unlimited counted at clean (inl (x, seen, shown)) =
      let all = seen clean in
      record {
        answered = (refl, inl (x, (old, finds, at, all.1 before at.0), shown));
        shows = still_at g old new before (λ is_open. at) all.2;
      }
  done image left old new it before finds unlimited counted at clean (inr (status, refusal, unseen, told, same)) =
      let all = unseen.1 clean in
      let why : IsUntold image left before refusal = record {
        which = unseen.0;
        depot = old;
        found = finds;
        at = at;
        unlimited = unlimited;
        after = new;
        fault = all.0;
        counted = counted;
      } in
      record {
        answered = (refl, inr (refusal, why, status, told, same));
        shows = still_at g old new before (λ is_open. at) all.1;
      }

  came : (image : Image) (left : Result (Files D) (FileStore D g)) (old new : Held (FileStore D g)) → ((file : D) → g.may_leave file (g.seen file)) → (it : Answer) (before : Entries) → IsSeen image (Ok old)
      → HasCounted (file_state new).faults left → IsAt before (file_state old) → HasCleanDisk (file_state new)
      → HasLooked it.look it.status (store_and_outputs (file_state old) it.out it.err) (store_and_outputs (file_state new) it.out_after it.err_after)
      → Survives (file_state old) (file_state new) (λ _. ⊥) → Came g (IsAnswered image left it) (λ before after answered held. held ≡ before) before new
  came image left old new stays it before found counted at clean looked survives =
      let one = done image left old new it before found.0 found.1 counted at clean looked in
      unchanged g old new stays (IsAnswered image left it) before one.answered at clean one.shows survives

  -- what opening gave was looked at, and closed then
  pub ended : (opened mid : Result (Held (FileStore D g)) Unopened) (left : Option (Result (Files D) (FileStore D g))) → ((file : D) → g.may_leave file (g.seen file))
      → (Gave : Unopened → Type 0) (it : Answer) (image : Image) → IsSeen image opened → IfErr opened Gave
      → HasReported file_state it.look it.status opened mid it.out it.err it.out_after it.err_after → OutlastsReporting file_state opened mid
      → IsShut mid left → HasEnded it Gave image left
  ended (Ok old) (Ok new) left stays Gave it image found gave reported survives shut =
      ends g (λ left. IsAnswered image left it) (λ left before after answered held. held ≡ before) Unopened _ (HoldsStore image) new left shut (λ left counted clean before stood.
      let early : HasCleanDisk (file_state old) = omega (arith, clean, survives.clean) in
      came image left old new stays it before found counted (found.2 early before stood) clean reported survives)
  ended (Ok old) (Err why) left stays Gave it image found gave reported survives shut = absurd reported
  ended (Err why) (Ok new) left stays Gave it image found gave reported survives shut = absurd reported
  ended (Err why) (Err same) None stays Gave it image found gave reported survives shut = (why, gave, found, reported.1, reported.2)
  ended (Err why) (Err same) (Some left) stays Gave it image found gave reported survives shut = absurd shut
