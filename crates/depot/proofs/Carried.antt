-- A task from the open of its files to their close.
use Rattle.std.proofs.Common.{◌≡◌, ◌⊎◌, ◌≤◌, inl, inr, IsTrue, Option, Some, None, Result, Ok, Err, IfErr, refl, sym, arith}
use Rattle.sqlite_disk.specs.declared.Disk.{Ghosts}
use Rattle.sqlite_disk.specs.declared.Files.{Files}
use Rattle.sqlite_trees.specs.Tree.{Trees}
use Rattle.sqlite.specs.declared.FileStore.{FileStore}
use Rattle.sqlite.specs.Files.{file_state}
use Rattle.sqlite.specs.Held.{Held}
use Rattle.sqlite.specs.Recovery.{Image}
use Rattle.sqlite.specs.State.{HasCleanDisk, Survives}
use Rattle.part_store.specs.Entries.{Entries}
use Rattle.part_store.specs.Opening.{HoldsState, IsAt, IsReadyFrom}
use Rattle.part_store.specs.Standing.{IsStored}
use Rattle.refusals.specs.declared.refusal.Refusal.{Refusal}
use Rattle.depot_cli.specs.Carrying.{HasCarried, OutlastsCarrying}
use Rattle.depot_actions.specs.Applying.{MayAdd}
use Rattle.depot_cli.specs.Tasks.{HasPerformed, store_and_outputs}
use Rattle.depot.specs.Ending.{HasCounted, IsFound}
use Rattle.depot.specs.Private.{IsShut}
use Rattle.depot.specs.Tasks.{Answer, HasEnded, IsAnswered, IsKept}
use Rattle.depot.proofs.Ended.{Came, at_state, ends, left_by, left_open, refused_by, still_at}

-- what a command came to, and the depot at that
record Did {D : Type 0} {g : Ghosts D} (it : Answer) (image : Image) (left : Result (Files D) (FileStore D g)) (before : Entries) (new : Held (FileStore D g)) : Type 0 where
  after : Entries
  answered : IsAnswered it image left before after
  shows : IsTrue (file_state new).is_open → IsAt after (file_state new)
  closes : IsTrue (file_state new).is_open ⊎ (after ≡ before)

module _ {D : Type 0} (g : Ghosts D) where
  did : (old new : Held (FileStore D g)) (it : Answer) (image : Image) (left : Result (Files D) (FileStore D g)) (before : Entries) → IsReadyFrom image old → (file_state old).step_limit ≡ None
      → (file_state old).faults ≤ (file_state new).faults → HasCounted (file_state new).faults left → IsAt before (file_state old) → HasCleanDisk (file_state new)
      → HasPerformed it.command it.status (store_and_outputs (file_state old) it.out it.err) (store_and_outputs (file_state new) it.out_after it.err_after) → Did it image left before new
  did old new it image left before ready unlimited counts counted at clean (inl (status, (reply, done, taken, quiet))) =
      let one = (done clean).1 before at.0 in
      record {
        after = one.0;
        answered = inl (reply, one.1, inl (status, taken, quiet));
        shows = λ is_open. let both = one.2.stands is_open in (both.0, both.1, is_open);
        closes = elim one.2.closes [ inl is_open ↦ inl is_open | inr same ↦ inr same.0 ];
      }
  did old new it image left before ready unlimited counts counted at clean (inr (status, inl (reply, done, broken, told))) =
      let one = (done clean).1 before at.0 in
      record {
        after = one.0;
        answered = inl (reply, one.1, inr (status, inl (broken, told)));
        shows = λ is_open. let both = one.2.stands is_open in (both.0, both.1, is_open);
        closes = elim one.2.closes [ inl is_open ↦ inl is_open | inr same ↦ inr same.0 ];
      }
  did old new it image left before ready unlimited counts counted at clean (inr (status, inr (inl (exports, reply, done, begun, told)))) =
      let one = (done clean).1 before at.0 in
      record {
        after = one.0;
        answered = inl (reply, one.1, inr (status, inr (exports, begun, told)));
        shows = λ is_open. let both = one.2.stands is_open in (both.0, both.1, is_open);
        closes = elim one.2.closes [ inl is_open ↦ inl is_open | inr same ↦ inr same.0 ];
      }
  did old new it image left before ready unlimited counts counted at clean (inr (status, inr (inr (refusal, wrote, refused, told, same)))) =
      let all = refused.1 clean in
      let why = refused_by g left image old new it.command refusal before ready at unlimited counts counted refused.0 all.0 all.1 in
      record {
        after = before;
        answered = inr (refusal, why, wrote, refl, (status, told, same));
        shows = still_at g old new before (λ is_open. at) all.2;
        closes = inr refl;
      }

  module _ (old new : Held (FileStore D g)) (stays : (file : D) → g.may_leave file (g.seen file)) (it : Answer) (image : Image) (left_of : Result (Files D) (FileStore D g)) (before : Entries)
      (found : IsFound image (Ok old)) (counted : HasCounted (file_state new).faults left_of) (at : IsAt before (file_state old)) (clean : HasCleanDisk (file_state new))
      (performed : HasPerformed it.command it.status (store_and_outputs (file_state old) it.out it.err) (store_and_outputs (file_state new) it.out_after it.err_after))
      (survives : Survives (file_state old) (file_state new) (MayAdd it.command (file_state old))) where
    made : Did it image left_of before new
    made = did old new it image left_of before found.0 found.1 survives.counts counted at clean performed

    abbrev Left : Trees → Type 0
    Left trees = (held : Entries) × IsStored trees held × IsKept it.command before made.after held

    -- a command that left the depot shut changed nothing, and a crash may leave what it makes
    left_shut : (trees : Trees) → made.after ≡ before → (file_state new).may_leave trees → Left trees
    left_shut trees same may = elim (survives.crash clean trees may) [
      | inl was ↦ (before, left_open g old stays before at trees was, inl (sym same))
      | inr is ↦
          let left = (left_by it.command (file_state old) trees is).1 before at.0 in
          (left.1, left.3, inr (same, left.0, left.2))
    ]

    left : (trees : Trees) → (file_state new).may_leave trees → Left trees
    left trees may = elim made.closes [
      | inl is_open ↦ (made.after, left_open g new stays made.after (made.shows is_open) trees may, inl refl)
      | inr same ↦ left_shut trees same may
    ]

    came : Came g (IsAnswered it image left_of) (λ before after answered held. IsKept it.command before after held) before new
    came = record { after = made.after; answered = made.answered; shows = λ is_open. (made.shows is_open).0; left = left }

  -- a task was carried to what opening gave, which was closed then
  pub ended : (opened mid : Result (Held (FileStore D g)) Refusal) (left : Option (Result (Files D) (FileStore D g))) → ((file : D) → g.may_leave file (g.seen file))
      → (Gave : Refusal → Type 0) (it : Answer) (image : Image) → IsFound image opened → IfErr opened Gave
      → HasCarried file_state it.command it.status opened mid it.out it.err it.out_after it.err_after → OutlastsCarrying file_state it.command opened mid
      → IsShut mid left → HasEnded it Gave image left
  ended (Ok old) (Ok new) left stays Gave it image found gave carried survives shut =
      ends g (IsAnswered it image) (λ left before after answered held. IsKept it.command before after held) Refusal _ (HoldsState image) new left shut (λ left counted clean before stood.
      let early : HasCleanDisk (file_state old) = omega (arith, clean, survives.clean) in
      came old new stays it image left before found counted (at_state image old found early before stood) clean carried survives)
  ended (Ok old) (Err refusal) left stays Gave it image found gave carried survives shut = absurd carried
  ended (Err refusal) (Ok new) left stays Gave it image found gave carried survives shut = absurd carried
  ended (Err refusal) (Err same) None stays Gave it image found gave carried survives shut = (refusal, gave, found, (carried.1, carried.2, carried.3))
  ended (Err refusal) (Err same) (Some left) stays Gave it image found gave carried survives shut = absurd shut
