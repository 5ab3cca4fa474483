-- What is left of files that were opened, by what was done with the depot and how it was closed.
use Rattle.std.proofs.Common.{◌≡◌, ◌⊎◌, ◌≤◌, ℕ, Bool, true, false, inl, inr, IsTrue, Option, Some, None, Result, Ok, Err, IfOk, IfErr, refl, sym, subst, ◌∙◌, arith}
use Rattle.std.specs.Prelude.{⊤}
use Rattle.std.proofs.Math.Logic.{∥∥₁_map}
use Rattle.sqlite_disk.specs.declared.Disk.{Ghosts}
use Rattle.sqlite_disk.specs.declared.Files.{Files}
use Rattle.sqlite_store.specs.Laws.{shut_if_dirty_at}
use Rattle.sqlite_trees.specs.Tree.{Trees}
use Rattle.sqlite_trees.specs.View.{IsClean}
use Rattle.sqlite.specs.declared.FileStore.{FileStore}
use Rattle.sqlite.specs.FileStore as store
use Rattle.sqlite.specs.Effect.{Database}
use Rattle.sqlite.specs.Files.{file_state, IsClosed}
use Rattle.sqlite.specs.Held.{Held}
use Rattle.sqlite.specs.Recovery.{Image}
use Rattle.sqlite.specs.State.{HasCleanDisk, State, Survives}
use Rattle.sqlite.specs.WalReads.{AreClean}
use Rattle.sqlite.proofs.StateLemmas.{clean_if_open}
use Rattle.part_store.specs.Crashes.{KeepsState}
use Rattle.part_store.specs.Entries.{Entries, no_entries}
use Rattle.part_store.specs.Opening.{HoldsNoTables, HoldsState, HoldsStore, IsAt, IsFoundIn, IsReadyFrom, KeepsStore, TellsWhy}
use Rattle.part_store.specs.Standing.{IsStored, LeavesUnchanged, Stands}
use Rattle.part_store.specs.declared.looking.Unopened.{Unopened}
use Rattle.part_store.proofs.Crashed.{closing_holds_one, files_leave_committed}
use Rattle.part_store.proofs.Stored.{stored_as}
use Rattle.refusals.specs.declared.refusal.Refusal.{Refusal}
use Rattle.refusals.specs.declared.refusal.Refusal.TheVariants.{Memory, Database as Refused}
use Rattle.depot_actions.specs.Applying.{HasFault, MayAdd, Unless, only_looks}
use Rattle.depot_actions.specs.Causes.{HasCause, MayRefuse}
use Rattle.depot_actions.specs.DepotState.{Command, MayLeave}
use Rattle.depot.specs.Ending.{EndsSo, HasCounted, HoldsKept, IsFound, IsRefusal, IsRefusedBy, IsSeen}
use Rattle.depot.specs.Private.{IsShut}

-- what a crash may leave of a command is what the command leaves
pub left_by : (command : Command) (old : State) (trees : Trees) → MayAdd command old trees → MayLeave command old trees
left_by command old trees may = go (only_looks command) may
  where
    go : (b : Bool) → Unless b (MayLeave command) old trees → MayLeave command old trees
    go true may = absurd may
    go false may = may

-- what was done with a depot came to a state, which it shows while it is open; and what a crash may
-- leave of it stands for a state that a close may keep
pub record Came {D : Type 0} (g : Ghosts D) (Answered : Entries → Entries → Type 0)
    (Kept : (before after : Entries) → Answered before after → Entries → Type 0) (before : Entries) (new : Held (FileStore D g)) : Type 0 where
  pub after : Entries
  pub answered : Answered before after
  pub shows : IsTrue (file_state new).is_open → Stands (file_state new).now after
  pub left : (trees : Trees) → (file_state new).may_leave trees → (held : Entries) × IsStored trees held × Kept before after answered held

module _ {D : Type 0} (g : Ghosts D) where
  -- a crash leaves of an open depot what it shows
  pub left_open : (depot : Held (FileStore D g)) → ((file : D) → g.may_leave file (g.seen file)) → (state : Entries) → IsAt state (file_state depot)
      → (trees : Trees) → (file_state depot).may_leave trees → IsStored trees state
  left_open depot stays state at trees may =
      stored_as trees (file_state depot).committed state (files_leave_committed depot stays trees at.2 may) (subst (λ (d : Database). Stands d state) (sym at.1) at.0)

  -- a depot that was unchanged shows what it showed
  pub still_at : (old new : Held (FileStore D g)) (state : Entries) → (IsTrue (file_state old).is_open → IsAt state (file_state old)) → LeavesUnchanged (file_state old) (file_state new)
      → IsTrue (file_state new).is_open → IsAt state (file_state new)
  still_at old new state at spares is_open =
      let was = at (spares.stays_closed is_open) in
      let same = spares.same was.0.schema is_open in
      (subst (λ (d : Database). Stands d state) (sym same.0) was.0, same.1 ∙ was.1 ∙ sym same.0, is_open)

  -- an open depot without a limit of steps, which was found in files that held the image, refused a
  -- command, and what it counted was counted
  pub refused_by : (left : Result (Files D) (FileStore D g)) (image : Image) (old new : Held (FileStore D g)) (command : Command) (refusal : Refusal) (before : Entries) → IsReadyFrom image old
      → IsAt before (file_state old) → (file_state old).step_limit ≡ None → (file_state old).faults ≤ (file_state new).faults → HasCounted (file_state new).faults left → MayRefuse command refusal
      → HasCause refusal command (file_state old) → HasFault command (file_state old) (file_state new) refusal → IsRefusedBy left image command before refusal
  refused_by left image old new command refusal before ready at unlimited counts counted may cause fault =
      let why : IsRefusal left command before refusal = record {
        may = may;
        depot = old;
        shows = λ is_open. at;
        closed_by_failure = inl at.2;
        unlimited = unlimited;
        cause = cause;
        after = new;
        fault = fault;
        counts = counts;
        counted = counted;
      } in
      (why, at.2, ready)

  -- what counted so many faults counted no more
  pub fewer : (few many : ℕ) (left : Result (Files D) (FileStore D g)) → few ≤ many → HasCounted many left → HasCounted few left
  fewer few many (Ok files) less counted = (counted.0, counted.1, omega (arith, less, counted.2))
  fewer few many (Err last) less counted = omega (arith, less, counted)

  module _ (Answered : Result (Files D) (FileStore D g) → Entries → Entries → Type 0)
      (Kept : (left : Result (Files D) (FileStore D g)) (before after : Entries) → Answered left before after → Entries → Type 0) where
    -- what files stand for whose close failed or was cut off
    still_holds : (before : Entries) (new : Held (FileStore D g)) (last : FileStore D g) (came : Came g (Answered (Err last)) (Kept (Err last)) before new) → IsClosed new last → IsClean (store.view last)
        → IsTrue (store.view last).is_numbered → (image : Image) → (store.state last).may_leave image
        → ∥ HoldsKept g Answered Kept last before came.after came.answered image ∥₁
    still_holds before new last came closed sound numbered image may =
        ∥∥₁_map (closing_holds_one new image (record { last = last; closed = closed; clean = sound; numbered = numbered; may = may }))
        (λ one.
        let is = came.left one.trees one.may in
        let r : HoldsKept g Answered Kept last before came.after came.answered image = (is.0, inl (one.holds is.0 is.1), is.2) in r)

    -- a depot was closed
    pub ends : (E Told : Type 0) (Stood : Entries → Type 0) (new : Held (FileStore D g)) (left : Option (Result (Files D) (FileStore D g))) → IsShut {E = E} (Ok new) left
        → ((left : Result (Files D) (FileStore D g)) → HasCounted (file_state new).faults left → HasCleanDisk (file_state new) → (before : Entries) → Stood before
        → Came g (Answered left) (Kept left) before new) → EndsSo g Answered Kept Told Stood left
    ends E Told Stood new (Some (Ok files)) shut came = λ honest before stood.
        let given = shut.0 in
        let closed = shut.1 honest in
        let clean : HasCleanDisk (file_state new) = clean_if_open (store.view new.store) (shut_if_dirty_at new.store) closed.0 in
        let it = came (Ok files) (given.0, given.1, given.2.quiet.counts) clean before stood in
        (it.after, it.answered, closed.1 it.after (it.shows closed.0))
    ends E Told Stood new (Some (Err last)) shut came = λ sound before stood.
        let clean : HasCleanDisk (file_state new) = omega (arith, sound, shut.0.quiet.clean) in
        let it = came (Err last) shut.0.quiet.counts clean before stood in
        (it.after, it.answered, still_holds before new last it shut.0 sound)
    ends E Told Stood new None shut came = absurd shut

  -- what was asked changed nothing, and a crash leaves nothing new: whatever comes, the depot stands for its state
  pub unchanged : (old new : Held (FileStore D g)) → ((file : D) → g.may_leave file (g.seen file)) → (Answered : Entries → Entries → Type 0) → (before : Entries) → Answered before before
      → IsAt before (file_state old) → HasCleanDisk (file_state new) → (IsTrue (file_state new).is_open → IsAt before (file_state new))
      → Survives (file_state old) (file_state new) (λ _. ⊥) → Came g Answered (λ before after answered held. held ≡ before) before new
  unchanged old new stays Answered before answered at clean shows survives = record {
    after = before;
    answered = answered;
    shows = λ is_open. (shows is_open).0;
    left = λ trees may. elim (survives.crash clean trees may) [ inl was ↦ (before, left_open old stays before at trees was, refl) | inr none ↦ absurd none ];
  }

-- a depot that was found in files that stood for a state is at that state
pub at_state : {D : Type 0} {g : Ghosts D} (image : Image) (depot : Held (FileStore D g)) → IsFound {g = g} image (Ok depot) → HasCleanDisk (file_state depot) → (before : Entries)
    → HoldsState image before → IsAt before (file_state depot)
at_state image depot found clean before (inl holds) = found.2 clean before holds
at_state image depot found clean before (inr (none, is)) = subst (λ (e : Entries). IsAt e (file_state depot)) (sym is) (found.3 clean none)

-- what opening gave of files that held an image, by its own clauses
pub found_in : {D : Type 0} {g : Ghosts D} (image : Image) (opened : Result (Held (FileStore D g)) Refusal)
    → IfOk opened (IsReadyFrom image) → IfOk opened (λ d. (file_state d).step_limit ≡ None)
    → IfOk opened (λ d. HasCleanDisk (file_state d) → (held : Entries) → HoldsStore image held → IsAt held (file_state d))
    → IfOk opened (λ d. HasCleanDisk (file_state d) → HoldsNoTables image → IsAt no_entries (file_state d))
    → IfErr opened (λ e. (e ≡ Memory) ⊎ (e ≡ Refused)) → IsFound image opened
found_in image (Ok depot) ready unlimited found empty refused = (ready, unlimited, found, empty)
found_in image (Err refusal) ready unlimited found empty refused = refused

-- and what opening them as they are gave
pub seen_in : {D : Type 0} {g : Ghosts D} (image : Image) (opened : Result (Held (FileStore D g)) Unopened)
    → IfOk opened (IsFoundIn image) → IfOk opened (λ d. (file_state d).step_limit ≡ None)
    → IfOk opened (λ d. HasCleanDisk (file_state d) → (held : Entries) → HoldsStore image held → IsAt held (file_state d))
    → TellsWhy image opened → IsSeen image opened
seen_in image (Ok depot) finds unlimited found cause = (finds, unlimited, found)
seen_in image (Err why) finds unlimited found cause = cause

-- where nothing is said of a refusal
pub any_refusal : {A E : Type 0} (opened : Result A E) → IfErr opened (λ e. ⊤)
any_refusal (Ok depot) = tt
any_refusal (Err e) = tt

-- a depot whose files were closed, and one whose close failed
pub shut_done : {D E : Type 0} {g : Ghosts D} (opened : Result (Held (FileStore D g)) E) (depot whole : Held (FileStore D g)) (files : Files D) → opened ≡ Ok depot → whole ≡ depot
    → ((last : FileStore D g) × (store.files last ≡ (files.log, files.db)) × IsClosed whole last)
    → (AreClean g files.log files.db → IsTrue (file_state whole).is_open)
    → (AreClean g files.log files.db → (held : Entries) → Stands (file_state whole).now held → KeepsStore g files held) → IsShut opened (Some (Ok files))
shut_done {D} {E} {g} opened depot whole files is same given stays holds =
    subst (λ (o : Result (Held (FileStore D g)) E). IsShut o (Some (Ok files))) (sym is)
    (subst (λ (d : Held (FileStore D g)). IsShut {E = E} (Ok d) (Some (Ok files))) same (given, λ honest. (stays honest, holds honest)))

pub shut_failed : {D E : Type 0} {g : Ghosts D} (opened : Result (Held (FileStore D g)) E) (depot whole : Held (FileStore D g)) (last : FileStore D g) → opened ≡ Ok depot → whole ≡ depot
    → IsClosed whole last → (IsTrue (file_state whole).is_open → (held : Entries) → Stands (file_state whole).now held → KeepsState last held) → IsShut opened (Some (Err last))
shut_failed {D} {E} {g} opened depot whole last is same closed keeps =
    subst (λ (o : Result (Held (FileStore D g)) E). IsShut o (Some (Err last))) (sym is)
    (subst (λ (d : Held (FileStore D g)). IsShut {E = E} (Ok d) (Some (Err last))) same (closed, keeps))
