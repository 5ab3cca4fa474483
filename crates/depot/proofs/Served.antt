-- A batch from the open of its files to their close.
use Rattle.std.proofs.Common.{◌≡◌, ◌⊎◌, ◌<◌, inl, inr, IsTrue, ℕ, List, length, Option, Some, None, Result, Ok, Err, IfErr, refl, sym, subst, arith}
use Rattle.sqlite_disk.specs.declared.Disk.{Ghosts}
use Rattle.sqlite_disk.specs.declared.Files.{Files}
use Rattle.sqlite_trees.specs.Tree.{Trees}
use Rattle.sqlite.specs.declared.FileStore.{FileStore}
use Rattle.sqlite.specs.Files.{file_state, over_files}
use Rattle.sqlite.specs.Held.{Held}
use Rattle.sqlite.specs.Recovery.{Image}
use Rattle.sqlite.specs.State.{HasCleanDisk, Survives}
use Rattle.part_store.specs.Entries.{Entries}
use Rattle.part_store.specs.Opening.{HoldsState, IsAt}
use Rattle.part_store.specs.Standing.{IsStored}
use Rattle.refusals.specs.declared.refusal.Refusal.{Refusal}
use Rattle.depot_actions.specs.Deliveries.{MayLeaveAll}
use Rattle.depot_jobs.specs.Host.{HostState}
use Rattle.depot_cli.specs.Requests.{on_depot, request_command}
use Rattle.depot_batch.specs.Asked.{Text}
use Rattle.depot_batch.specs.Batch.{HasServed, MayLeaveIn}
use Rattle.depot_batch.specs.Batch as batch
use Rattle.depot_batch.specs.Effects.{DepotAndOutput, HasHappened, MayMakeAll, depot_and_output}
use Rattle.depot_batch.specs.Turns.{Alone, Broken, Together, Turn, Whole, Withdrawn, Writing}
use Rattle.depot_batch.specs.declared.format.Format.{Format}
use Rattle.depot_batch.specs.declared.asked.Asked.TheVariants.{Reply as ToReply, Export as IntoFile}
use Rattle.depot_batch.proofs.Grouping.{as_many}
use Rattle.depot.specs.Batches.{Batch, Did, Happens, HasEnded, IsKept, IsServed, MakeAll, MakesIn, MakesOf}
use Rattle.depot.specs.Ending.{HasCounted, IsFound}
use Rattle.depot.specs.Private.{IsShut}
use Rattle.depot.proofs.Chained.{Follows, both, sound_first}
use Rattle.depot.proofs.Ended.{Came, at_state, ends, fewer, left_by, left_open}
use Rattle.depot.proofs.Turned.{Shown, Shows, Works, effect_leads, still_works, turn_leads}

-- what a turn makes of a state, by what it is had with
abbrev MakesBeside : Entries × Entries → Turn → DepotAndOutput Entries → DepotAndOutput Entries → Type 0
MakesBeside v = MakesOf v.0 v.1

module _ {D : Type 0} (g : Ghosts D) where
  -- ---- what a crash leaves

  -- trees stand for the state, or for another that was made of it
  abbrev Left : (Entries × Entries → Type 0) → Entries → Trees → Type 0
  Left Made state trees = IsStored trees state ⊎ ((held : Entries) × Made (state, held) × IsStored trees held)

  -- where a depot stands after turns that made so much of its state
  record Track (Made : Entries × Entries → Type 0) (depot : Held (FileStore D g)) (state : Entries) : Type 0 where
    works : Works g state depot
    left : (trees : Trees) → (file_state depot).may_leave trees → Left Made state trees

  widen : (Made More : Entries × Entries → Type 0) (depot : Held (FileStore D g)) (state : Entries) → ((v : Entries × Entries) → Made v → More v) → Track Made depot state → Track More depot state
  widen Made More depot state more track = record {
    works = track.works;
    left = λ trees may. elim (track.left trees may) [ inl stored ↦ inl stored | inr one ↦ inr (one.0, more (state, one.0) one.1, one.2) ];
  }

  -- what lines together make of a depot that was at a state
  made_together : (lines : List (List ℕ)) (before : Entries) (depot : Held (FileStore D g)) (host host2 : HostState) (trees : Trees) → Shows g before depot
      → IsTrue (file_state depot).is_open ⊎ (0 < length lines) → MayMakeAll (λ commands. MayLeaveAll commands (file_state depot)) lines host host2 trees
      → (held : Entries) × MayMakeAll (MakeAll before) lines host host2 held × IsStored trees held
  made_together lines before depot host host2 trees shows works may =
      let count = as_many lines may.0 host host2 may.1 in
      let is_open : IsTrue (file_state depot).is_open = elim works [
        | inl is_open ↦ is_open
        | inr some ↦ may.2.0 (omega (arith, count, some))
      ] in
      let one = may.2.1 before (shows is_open).0 in
      (one.1, (may.0, may.1, (one.0, one.2)), one.3)

  -- what a turn makes of it
  made : (name : Text) (format : Format) (turn : Turn) (writing : Writing) (before : Entries) (old new : DepotAndOutput (Held (FileStore D g))) (trees : Trees) → Shows g before old.depot → HasCleanDisk (file_state new.depot)
      → HasHappened (batch.Did over_files) name format turn writing old new → MayLeaveIn turn (file_state old.depot) old.host new.host trees
      → (held : Entries) × MakesIn turn old.host new.host before held × IsStored trees held
  made name format (Alone line outcome) writing before old new trees shows clean it (ToReply command, is, (octets, read, may)) =
      let can = left_by (request_command (on_depot command) octets) (file_state old.depot) trees may in
      let one = can.1 before (shows can.0).0 in
      (one.1, (ToReply command, is, (octets, read, (one.0, one.2))), one.3)
  made name format (Alone line outcome) writing before old new trees shows clean it (IntoFile export, is, may) = absurd may
  made name format (Together lines) writing before old new trees shows clean it may = made_together lines before old.depot old.host new.host trees shows (inl (it.done clean).0) may
  made name format (Withdrawn lines) Whole before old new trees shows clean it may = made_together lines before old.depot old.host new.host trees shows (inr it.some) may
  made name format (Withdrawn lines) Broken before old new trees shows clean it may = absurd it

  -- a turn was had, which may have made this, and the depot is at the state after it
  tracked : (Made Makes : Entries × Entries → Type 0) (before after : Entries) (old new : Held (FileStore D g)) (May : Trees → Type 0) → ((file : D) → g.may_leave file (g.seen file))
      → Track Made old before → Shown g before new after → HasCleanDisk (file_state new) → Survives (file_state old) (file_state new) May
      → ((trees : Trees) → May trees → (held : Entries) × Makes (before, held) × IsStored trees held) → Track (λ v. Made v ⊎ Makes v) new after
  tracked Made Makes before after old new May stays track shown clean survives made = record {
    works = still_works g old new before after track.works shown.shows clean survives;
    left = λ trees may. elim shown.closes [
      | inl is_open ↦ inl (left_open g new stays after (shown.shows is_open) trees may)
      | inr same ↦
          let was : Left (λ v. Made v ⊎ Makes v) before trees = elim (survives.crash clean trees may) [
            | inl was ↦ elim (track.left trees was) [
              | inl stored ↦ inl stored
              | inr one ↦ inr (one.0, inl one.1, one.2)
            ]
            | inr may ↦ let one = made trees may in inr (one.0, inr one.1, one.2)
          ] in
          subst (λ (e : Entries). Left (λ v. Made v ⊎ Makes v) e trees) (sym same) was
    ];
  }

  -- ---- from the open to the close

  module _ (left : Result (Files D) (FileStore D g)) (stays : (file : D) → g.may_leave file (g.seen file)) where
    -- the disk has returned what was written, and what it counted is counted in what is left
    abbrev Sound : Held (FileStore D g) → Type 0
    Sound depot = HasCleanDisk (file_state depot) × HasCounted (file_state depot).faults left

    module _ (name : Text) where
      -- what happens in a turn happens to the state, too
      follows : (format : Format) → Follows (batch.Happens over_files name format) (Happens left name format) Sound MakesBeside Track
      follows format = record {
        sound = λ turn writing old new it sound.
            (omega (arith, it.outlasts.clean, sound.0), fewer g (file_state old.depot).faults (file_state new.depot).faults left it.outlasts.counts sound.1);
        widen = widen;
        step = λ Made turn writing old new before track sound it.
            let one = turn_leads (batch.Did over_files) (Did left) old new before (effect_leads g left old.depot new.depot before track.works sound.0 it.outlasts.counts sound.1) name format turn writing it.come in
            let was = depot_and_output before old.host old.out in
            let is = depot_and_output one.after new.host new.out in
            record {
              after = one.after;
              other = one.is;
              fits = tracked Made (λ v. MakesBeside v turn was is) before one.after old.depot new.depot (MayLeaveIn turn (file_state old.depot) old.host new.host) stays track one.fits sound.0 it.outlasts
                  (λ trees may. let held = made name format turn writing before old new trees track.works.shows sound.0 it.come may in (held.0, (refl, held.1), held.2));
            };
      }

    module _ (old new : Held (FileStore D g)) (it : Batch) (sound : Sound new) where
      abbrev first : DepotAndOutput (Held (FileStore D g))
      first = depot_and_output old it.old.host it.old.out

      abbrev end : DepotAndOutput (Held (FileStore D g))
      end = depot_and_output new it.new.host it.new.out

      abbrev Serves : Type 0
      Serves = HasServed over_files it.name it.status it.input it.input_after first end it.old.err it.new.err

      clean_first : Serves → HasCleanDisk (file_state old)
      clean_first served =
          (sound_first (batch.Happens over_files it.name) (Happens left it.name) Sound MakesBeside Track (follows it.name) it.status it.input it.input_after first end it.old.err it.new.err served sound).0

      came : (before : Entries) → (file_state old).step_limit ≡ None → IsAt before (file_state old) → Serves → Came g (IsServed it left) (IsKept it left) before new
      came before unlimited at served =
          let begun : Track (λ v. ⊥) old before = record {
            works = record { shows = λ is_open. at; closed_by_failure = inl at.2; unlimited = unlimited };
            left = λ trees may. inl (left_open g old stays before at trees may);
          } in
          let all = both (batch.Happens over_files it.name) (Happens left it.name) Sound MakesBeside Track (follows it.name) it.status it.input it.input_after first end it.old.err it.new.err served sound before begun in
          record {
            after = all.after;
            answered = all.served;
            shows = λ is_open. (all.fits.works.shows is_open).0;
            left = λ trees may. elim (all.fits.left trees may) [ inl stored ↦ (all.after, stored, inl refl) | inr one ↦ (one.0, one.2, inr one.1) ];
          }

  -- a batch was served by what opening gave, which was closed then
  pub ended : (opened mid : Result (Held (FileStore D g)) Refusal) (left : Option (Result (Files D) (FileStore D g))) → ((file : D) → g.may_leave file (g.seen file))
      → (Gave : Refusal → Type 0) (it : Batch) (image : Image) → IsFound image opened → IfErr opened Gave
      → batch.IsServed over_files it.name it.status it.input it.input_after opened mid it.old.host it.new.host it.old.out it.new.out it.old.err it.new.err
      → IsShut mid left → HasEnded it Gave image left
  ended (Ok old) (Ok new) left stays Gave it image found gave served shut =
      ends g (IsServed it) (IsKept it) Refusal _ (HoldsState image) new left shut (λ left counted clean before stood.
      came left stays old new it (clean, counted) before found.1 (at_state image old found (clean_first left stays old new it (clean, counted) served) before stood) served)
  ended (Ok old) (Err refusal) left stays Gave it image found gave served shut = absurd served
  ended (Err refusal) (Ok new) left stays Gave it image found gave served shut = absurd served
  ended (Err refusal) (Err same) None stays Gave it image found gave served shut = ((refusal, gave, found, (served.1, served.2, served.5)), served.3, served.4)
  ended (Err refusal) (Err same) (Some left) stays Gave it image found gave served shut = absurd shut
