-- Deliveries in a transaction, which is committed or rolled back.
use Rattle.std.proofs.Common.{◌≡◌, ◌<◌, inl, inr, ℕ, ◌+◌, ◌⊎◌, List, [], ◌∷◌, ◌++◌, IsTrue, drop, get_or, length, map, take, refl, sym, ap, subst, ◌∙◌, Some, arith, false, true, Result, Ok, Err, IsErrAnd, Vec}
use Rattle.std.proofs.lemmas.Bool.{true≢false}
use Rattle.std.proofs.lemmas.List.{drop_more, length-append, length-map, length-take-le, map-append, map_more, take-append-drop}
use Rattle.sqlite_trees.specs.declared.store.Store as store
use Rattle.sqlite_trees.specs.Tree.{Trees}
use Rattle.sqlite.specs.Held.{Held, state}
use Rattle.sqlite.specs.State.{State, HasCleanDisk, IsRolledBack, Shows, Survives}
use Rattle.sqlite.specs.Steps.{FailsToCommit}
use Rattle.sqlite.specs.declared.error.Error.{Error}
use Rattle.sqlite.specs.declared.error.Error.TheVariants.{SqliteFailure}
use Rattle.sqlite.specs.declared.error.ErrorCode.TheVariants.{OutOfMemory}
use Rattle.sqlite.proofs.Callers.{survives_begin}
use Rattle.sqlite.proofs.StateLemmas.{survives_then}
use Rattle.part_store.specs.Calls.{Always, MayCommit, StaysClosed}
use Rattle.part_store.specs.Entries.{Entries}
use Rattle.part_store.specs.Inside.{KeepsStored, KeepsTables, StaysInside}
use Rattle.part_store.specs.Refusals.{HasFailed, refusal_of}
use Rattle.part_store.specs.Standing.{DiskFailed, LeavesUnchanged, Stands}
use Rattle.part_store.specs.declared.error.StoreError.{StoreError}
use Rattle.part_store.proofs.Entering.{kept_then}
use Rattle.part_store.proofs.Failing.{commit_blamed, first_failed, later_failed}
use Rattle.part_store.proofs.Stored.{stored_as}
use Rattle.refusals.specs.declared.refusal.Refusal.{Refusal}
use Rattle.refusals.specs.declared.refusal.Refusal.TheVariants as refusal
use Rattle.depot_actions.specs.Applying.{Applies, AppliesAll, HasFault, MayAdd}
use Rattle.depot_actions.specs.Causes.{HasCause, IsFault, IsSound, MayRefuse}
use Rattle.depot_actions.specs.Deliveries.{AcceptsAll, AreRefused, DoesAll, IsAt, IsRefusedAt, IsUncommitted, MayLeaveAll, MayRefuseAll, calls_of, command_of, reply_of}
use Rattle.part_store.specs.declared.entry.EntryRow.{EntryRow}
use Rattle.std.specs.declared.alloc.Global.{Global}
use Rattle.depot_actions.specs.declared.deliveries.Delivery.{Delivery}
use Rattle.depot_actions.specs.declared.deliveries.RefusedDelivery.{RefusedDelivery}
use Rattle.depot_actions.specs.DepotState.{Accepts, Command, Does, IsNamed, MayLeave, Reply}
use Rattle.depot_actions.specs.Filing.{Reaches, ReachesAll}
use Rattle.depot_actions.specs.History.{AreSteps, Call, IsStep}
use Rattle.depot_actions.specs.Private.{of_store}
use Rattle.depot_actions.proofs.Applying.{refused_by}
use Rattle.depot_actions.proofs.StoreFaults.{of_database}

-- ---- what a transaction comes to

-- a cause is told of what a store shows, and of whether it is open
pub cause_as : (e : Refusal) (command : Command) (s t : State) → t.now ≡ s.now → (IsTrue s.is_open → IsTrue t.is_open) → HasCause e command s → HasCause e command t
cause_as refusal.NoSuchEntry command s t same on h = rw same (h.0, on h.1, h.2)
cause_as refusal.NumberFull command s t same on h = rw same (h.0, h.1, on h.2, h.3)
cause_as refusal.Collision command s t same on h = rw same (h.0, h.1, on h.2, h.3)
cause_as _ command s t same on h = h

-- a failed commit that is told as `Database`
pub commit_failed : (mid new : State) (e : Error) (told : StoreError) (r : Refusal) → told ≡ refusal_of e → r ≡ of_store told → FailsToCommit mid new e → IsTrue mid.in_transaction → r ≡ refusal.Database → HasFailed mid new
commit_failed mid new e told r was is fails inside database = commit_blamed mid new e inside fails (sym was ∙ of_database told (sym is ∙ database))

-- the refusal of a commit
pub commit_refusal : (e : Error) (told : StoreError) (r : Refusal) → told ≡ refusal_of e → r ≡ of_store told → (r ≡ refusal.Memory) ⊎ (r ≡ refusal.Database)
commit_refusal (SqliteFailure OutOfMemory) told r was is = inl (is ∙ ap of_store was)
commit_refusal _ told r was is = inr (is ∙ ap of_store was)

pub lost_refusal : (command : Command) (d : Refusal) → IsNamed command → IsSound command → (d ≡ refusal.Memory) ⊎ (d ≡ refusal.Database) → MayRefuse command d
lost_refusal command d named sound (inl is) = inr (named, inl is)
lost_refusal command d named sound (inr is) = inr (named, inr (inr (is, sound)))

pub lost_cause : (command : Command) (d : Refusal) (s : State) → IsNamed command → IsSound command → (d ≡ refusal.Memory) ⊎ (d ≡ refusal.Database) → HasCause d command s
lost_cause command d s named sound (inl is) = subst (λ r. HasCause r command s) (sym is) tt
lost_cause command d s named sound (inr is) = subst (λ r. HasCause r command s) (sym is) (named, sound)

module _ {S : Type 0} (g : store.Ghosts S) (conn : Held S) where
  abbrev pub begun : State
  begun = state g (record conn { in_transaction = true })

  -- one that was to be committed leaves that, or what it showed
  pub left_by_commit : (mid new : State) (Commits : Trees → Type 0) → Survives begun mid (λ _. ⊥) → (HasCleanDisk mid → Commits mid.now.trees) → Survives mid new (λ trees. trees ≡ mid.now.trees) → Survives (state g conn) new Commits
  left_by_commit mid new Commits one commits two =
      survives_begin g conn new Commits (survives_then begun mid new _ _ Commits (λ clean trees none. absurd none)
      (λ clean trees is. let early : HasCleanDisk mid = omega (arith, clean, two.clean) in subst Commits (sym is) (commits early)) one two)

  -- what a transaction reaches is done once it is committed
  pub done_alone : (command : Command) (reply : Reply) (mid new : State) → IsTrue (state g conn).is_open → Reaches command reply begun mid → Shows mid new mid.now mid.now false → Does command reply (state g conn) new
  done_alone command reply mid new was_open reaches shows = (
    was_open,
    λ before stands.
        let reached = reaches before stands in
        (reached.0, reached.1, record { stands = λ _. (subst (λ d. Stands d reached.0) (sym shows.now_is) reached.2, shows.committed_is ∙ sym shows.now_is); closes = inl shows.is_open }),
  )

  -- the same of several commands
  pub done_together : (commands : List Command) (replies : List Reply) (mid new : State) → ReachesAll commands replies begun mid → Shows mid new mid.now mid.now false → StaysClosed begun mid → DoesAll commands replies (state g conn) new
  done_together commands replies mid new reaches shows shut = (
    shut shows.was_open,
    λ before stands.
        let reached = reaches before stands in
        (reached.0, reached.1, record { stands = λ _. (subst (λ d. Stands d reached.0) (sym shows.now_is) reached.2, shows.committed_is ∙ sym shows.now_is); closes = inl shows.is_open }),
  )

  pub left_alone : (command : Command) (reply : Reply) (mid : State) → IsTrue (state g conn).is_open → Reaches command reply begun mid → MayLeave command (state g conn) mid.now.trees
  left_alone command reply mid was_open reaches = (
    was_open,
    λ before stands. let reached = reaches before stands in (reply, reached.0, reached.1, stored_as mid.now.trees mid.now reached.0 refl reached.2),
  )

  pub left_together : (commands : List Command) (replies : List Reply) (mid : State) → (0 < length commands → IsTrue (state g conn).is_open) → ReachesAll commands replies begun mid
      → MayLeaveAll commands (state g conn) mid.now.trees
  left_together commands replies mid was_open reaches = (
    was_open,
    λ before stands. let reached = reaches before stands in (replies, reached.0, reached.1, stored_as mid.now.trees mid.now reached.0 refl reached.2),
  )

  -- a command that was refused in a transaction, which was then rolled back
  pub refused_together : (commands : List Command) (place : ℕ) (e : Refusal) (mid new : State) → Survives mid new (λ _. ⊥) → IsRefusedAt commands place e begun mid → IsRefusedAt commands place e (state g conn) new
  refused_together commands place e mid new two h = record {
    command = h.command;
    at = h.at;
    mid = h.mid;
    reached = h.reached;
    cause = cause_as e h.command (record begun { now = h.mid }) (record (state g conn) { now = h.mid }) refl (λ on. on) h.cause;
    fault = λ is before stands. elim (h.fault is before stands) [
      | inl failed ↦ inl (first_failed begun mid new two failed)
      | inr other ↦ inr other
    ];
  }

  pub fault_alone : (command : Command) (e : Refusal) (mid new : State) → Survives mid new (λ _. ⊥) → IsFault command begun mid e → IsFault command (state g conn) new e
  fault_alone command e mid new two fault is before stands = elim (fault is before stands) [
    | inl failed ↦ inl (first_failed begun mid new two failed)
    | inr other ↦ inr other
  ]

  pub survives_both : {Q : Trees → Type 0} (P : Trees → Type 0) (mid new : State) → Survives begun mid (λ _. ⊥) → (HasCleanDisk new → (db : Trees) → Q db → P db) → Survives mid new Q → Survives (state g conn) new P
  survives_both P mid new one weaker two = survives_begin g conn new P (survives_then begun mid new _ _ P (λ clean trees none. absurd none) weaker one two)

  -- one that was rolled back leaves what was
  pub rolled_back : (mid new : State) → IsRolledBack mid new → KeepsStored begun mid → StaysClosed begun mid → (IsTrue (state g conn).is_open → (state g conn).now ≡ (state g conn).committed)
      → (IsTrue (state g conn).is_open → IsTrue new.is_open ⊎ DiskFailed (state g conn) new) → LeavesUnchanged (state g conn) new
  rolled_back mid new rolled kept shut settled closes = record {
    same = λ schema is_open.
        let mid_open = rolled.was_open is_open in
        let keeps = kept schema in
        let same = keeps.committed mid_open in
        let undone = rolled.undone is_open in
        (undone.0 ∙ same ∙ sym (settled (shut mid_open)), undone.1 ∙ same);
    stays_closed = λ is_open. shut (rolled.was_open is_open);
    closes = closes;
  }

  module _ {A : Type 0} (command : Command) (reply : A → Reply) (mid : State) (new : Held S) (one : Survives begun mid (λ _. ⊥)) (kept : HasCleanDisk mid → KeepsStored begun mid) (shut : HasCleanDisk mid → StaysClosed begun mid)
      (settled : IsTrue (state g conn).is_open → (state g conn).now ≡ (state g conn).committed) where
    -- a command that is refused in a transaction, which is rolled back then
    pub refused_alone : (r : Result A Refusal) (e : Refusal) → IsErrAnd r (λ d. d ≡ e) → MayRefuse command e → (HasCleanDisk mid → HasCause e command begun) → (HasCleanDisk mid → IsFault command begun mid e)
        → ((old new : State) → IsFault command old new e → HasFault command old new e)
        → (HasCleanDisk (state g new) → IsRolledBack mid (state g new)) → Survives mid (state g new) (λ _. ⊥) → Applies g conn new r command reply
    refused_alone r e is may cause fault blamed rolled two =
        let survives = survives_both (λ _. ⊥) mid (state g new) one (λ clean db none. none) two in
        let early : HasCleanDisk (state g new) → HasCleanDisk mid = λ clean. omega (arith, clean, two.clean) in
        refused_by g conn new command reply r e is
        (λ clean. rolled_back mid (state g new) (rolled clean) (kept (early clean)) (shut (early clean)) settled (survives.closes clean))
        may
        (λ clean. cause_as e command begun (state g conn) refl (λ on. on) (cause (early clean)))
        (λ clean. blamed (state g conn) (state g new) (fault_alone command e mid (state g new) two (fault (early clean))))
        (survives_both (MayAdd command (state g conn)) mid (state g new) one (λ clean db none. absurd none) two)

  -- a commit that is refused
  pub commit_fault : {P : Trees → Type 0} (command : Command) (e : Refusal) (mid new : State) → Survives begun mid (λ _. ⊥) → Survives mid new P → HasCleanDisk new → StaysInside begun mid
      → (IsTrue mid.in_transaction → e ≡ refusal.Database → HasFailed mid new) → IsFault command (state g conn) new e
  commit_fault command e mid new one two clean inside fails is before stands = inl (later_failed begun mid new one two clean (fails (inside stands.schema refl) is))

  pub commit_undone : (mid new : State) (e : Error) → FailsToCommit mid new e → StaysInside begun mid → KeepsStored begun mid → StaysClosed begun mid → (IsTrue (state g conn).is_open → (state g conn).now ≡ (state g conn).committed)
      → (IsTrue (state g conn).is_open → IsTrue new.is_open ⊎ DiskFailed (state g conn) new) → LeavesUnchanged (state g conn) new
  commit_undone mid new e (inl (cause, is, has, rolled, tells)) inside kept shut settled closes = rolled_back mid new rolled kept shut settled closes
  commit_undone mid new e (inr (is, off, (shows, counts, marks))) inside kept shut settled closes = record {
    same = λ schema is_open. let on = inside schema refl in absurd (true≢false (sym on ∙ off));
    stays_closed = λ is_open. shut shows.was_open;
    closes = closes;
  }

  -- a command that was accepted, and whose commit is refused
  pub commit_lost : {A : Type 0} (command : Command) (reply : A → Reply) (mid : State) (new : Held S) (e : Error) (told : StoreError) (d : Refusal) → told ≡ refusal_of e → d ≡ of_store told
      → IsNamed command → IsSound command → ((old new : State) → IsFault command old new d → HasFault command old new d)
      → Survives begun mid (λ _. ⊥) → (HasCleanDisk mid → StaysInside begun mid) → (HasCleanDisk mid → KeepsStored begun mid) → (HasCleanDisk mid → StaysClosed begun mid)
      → (IsTrue (state g conn).is_open → (state g conn).now ≡ (state g conn).committed)
      → (HasCleanDisk (state g new) → FailsToCommit mid (state g new) e) → Survives mid (state g new) (λ trees. trees ≡ mid.now.trees) → MayCommit g conn new (MayAdd command)
      → Applies g conn new (Err d) command reply
  commit_lost command reply mid new e told d was is named sound blamed one inside kept shut settled fails two survives =
      let which = commit_refusal e told d was is in
      let early : HasCleanDisk (state g new) → HasCleanDisk mid = λ clean. omega (arith, clean, two.clean) in
      refused_by g conn new command reply (Err d) d refl
      (λ clean. commit_undone mid (state g new) e (fails clean) (inside (early clean)) (kept (early clean)) (shut (early clean)) settled (survives.closes clean))
      (lost_refusal command d named sound which)
      (λ clean. lost_cause command d (state g conn) named sound which)
      (λ clean. blamed (state g conn) (state g new) (commit_fault command d mid (state g new) one two clean (inside (early clean)) (commit_failed mid (state g new) e told d was is (fails clean))))
      survives

  -- commands that are refused together
  pub all_refused_by : {A : Type 0} (new : Held S) (commands : List Command) (replies : A → List Reply) (r : Result A RefusedDelivery) (e : RefusedDelivery) → IsErrAnd r (λ d. d ≡ e)
      → Always g conn new LeavesUnchanged → MayRefuseAll commands e.place e.refusal → (HasCleanDisk (state g new) → AreRefused commands e.place e.refusal (state g conn) (state g new))
      → MayCommit g conn new (MayLeaveAll commands) → AppliesAll g conn new r commands replies
  all_refused_by new commands replies (Ok x) e is same may refused survives = absurd is
  all_refused_by new commands replies (Err d) e is same may refused survives = record {
    done = λ clean. tt;
    unchanged = same;
    which = subst (λ (x : RefusedDelivery). MayRefuseAll commands x.place x.refusal) (sym is) may;
    refused = λ clean. subst (λ (x : RefusedDelivery). AreRefused commands x.place x.refusal (state g conn) (state g new)) (sym is) (refused clean);
    survives = survives;
  }

  pub uncommitted : {P : Trees → Type 0} (commands : List Command) (replies : List Reply) (place : ℕ) (e : Refusal) (mid new : State) → place ≡ length commands → Survives begun mid (λ _. ⊥) → Survives mid new P → HasCleanDisk new
      → StaysInside begun mid → ReachesAll commands replies begun mid → (e ≡ refusal.Memory) ⊎ (e ≡ refusal.Database) → (IsTrue mid.in_transaction → e ≡ refusal.Database → HasFailed mid new)
      → IsUncommitted commands place e (state g conn) new
  uncommitted commands replies place e mid new number one two clean inside reaches which fails = record {
    number = number;
    mid = mid.now;
    reached = λ before stands. let reached = reaches before stands in (replies, reached.0, reached.1, reached.2);
    which = which;
    fault = λ is before stands. later_failed begun mid new one two clean (fails (inside stands.schema refl) is);
  }

-- ---- one command more

calls_more : (commands : List Command) (replies : List Reply) (command : Command) (reply : Reply) → length replies ≡ length commands
    → calls_of (commands ++ command ∷ []) (replies ++ reply ∷ []) ≡ calls_of commands replies ++ record { command = command; reply = Some reply } ∷ []
calls_more [] [] command reply same = refl
calls_more [] (first ∷ replies) command reply same = absurd (cc)
calls_more (one ∷ commands) [] command reply same = absurd (cc)
calls_more (one ∷ commands) (first ∷ replies) command reply same =
    ap (λ calls. record { command = one; reply = Some first } ∷ calls) (calls_more commands replies command reply (omega (arith, same)))

steps_more : (calls : List Call) (call : Call) (before mid after : Entries) → AreSteps calls before mid → IsStep call.command call.reply mid after → AreSteps (calls ++ call ∷ []) before after
steps_more [] call before mid after same step = (after, subst (λ e. IsStep call.command call.reply e after) same step, refl)
steps_more (one ∷ calls) call before mid after (first, is, more) step = (first, is, steps_more calls call first mid after more step)

accepts_more : (before mid after : Entries) (commands : List Command) (replies : List Reply) (command : Command) (reply : Reply) → AcceptsAll before commands replies mid → Accepts mid command reply after
    → AcceptsAll before (commands ++ command ∷ []) (replies ++ reply ∷ []) after
accepts_more before mid after commands replies command reply all one = record {
  each = length-append replies (reply ∷ []) ∙ ap (λ n. n + 1) all.each ∙ sym (length-append commands (command ∷ []));
  steps = subst (λ calls. AreSteps calls before after) (sym (calls_more commands replies command reply all.each))
      (steps_more (calls_of commands replies) (record { command = command; reply = Some reply }) before mid after all.steps one);
}

-- ---- one delivery more of a list

pub deliveries_more : (ds : List Delivery) (place : ℕ) (d : Delivery) → place < length ds → map command_of (take place ds) ++ command_of (get_or ds place d) ∷ [] ≡ map command_of (take (place + 1) ds)
deliveries_more ds place d lt = sym (map_more command_of ds place d lt)

pub deliveries_split : (ds : List Delivery) (place : ℕ) (d : Delivery) → place < length ds
    → map command_of ds ≡ map command_of (take place ds) ++ command_of (get_or ds place d) ∷ map command_of (drop (place + 1) ds)
deliveries_split ds place d lt =
    ap (map command_of) (sym (take-append-drop place ds) ∙ ap (λ rest. take place ds ++ rest) (drop_more ds place d lt))
    ∙ map-append command_of (take place ds) (get_or ds place d ∷ drop (place + 1) ds)

-- so many commands come before a place
pub deliveries_number : (ds : List Delivery) (place : ℕ) → place < length ds → length (map command_of (take place ds)) ≡ place
deliveries_number ds place lt = length-map (take place ds) command_of ∙ length-take-le place ds (omega (arith, lt))

pub delivery_at : (ds : List Delivery) (index : ℕ) (d : Delivery) (place : ℕ) → index < length ds → place ≡ index → IsAt (map command_of ds) place (command_of (get_or ds index d))
delivery_at ds index d place lt is = record {
  earlier = map command_of (take index ds);
  later = map command_of (drop (index + 1) ds);
  are = deliveries_split ds index d lt;
  number = is ∙ sym (deliveries_number ds index lt);
}

pub replies_more : (old new : List (Vec EntryRow Global)) (rows : Vec EntryRow Global) → new ≡ old ++ rows ∷ [] → map reply_of new ≡ map reply_of old ++ reply_of rows ∷ []
replies_more old new rows is = ap (map reply_of) is ∙ map-append reply_of old (rows ∷ [])

-- want of memory is no fault of the store
pub no_fault : (command : Command) (old new : State) → IsFault command old new refusal.Memory
no_fault command old new is = absurd (cc)

-- ---- so far

-- commands that were accepted one after another
pub record Delivering (commands : List Command) (replies : List Reply) (old mid : State) : Type 0 where
  pub reaches : HasCleanDisk mid → ReachesAll commands replies old mid
  pub was_open : HasCleanDisk mid → 0 < length commands → IsTrue old.is_open
  pub inside : HasCleanDisk mid → StaysInside old mid
  pub schema : HasCleanDisk mid → KeepsTables old mid
  pub stays_closed : HasCleanDisk mid → StaysClosed old mid
  pub kept : HasCleanDisk mid → KeepsStored old mid
  pub survives : Survives old mid (λ _. ⊥)

module _ (commands : List Command) (replies : List Reply) (old mid new : State) (so_far : Delivering commands replies old mid) (two : Survives mid new (λ _. ⊥)) where
  early : HasCleanDisk new → HasCleanDisk mid
  early clean = omega (arith, clean, two.clean)

  pub kept_on : HasCleanDisk new → KeepsStored mid new → KeepsStored old new
  kept_on clean kept schema = kept_then old mid new (so_far.kept (early clean) schema) (kept (so_far.schema (early clean) schema))

  pub shut_on : HasCleanDisk new → StaysClosed mid new → StaysClosed old new
  shut_on clean shut is_open = so_far.stays_closed (early clean) (shut is_open)

  pub survives_on : Survives old new (λ _. ⊥)
  survives_on = survives_then old mid new _ _ (λ _. ⊥) (λ clean trees none. none) (λ clean trees none. none) so_far.survives two

  pub one_more : (command : Command) (reply : Reply) → (HasCleanDisk new → Reaches command reply mid new) → (HasCleanDisk new → IsTrue mid.is_open) → (HasCleanDisk new → StaysInside mid new)
      → (HasCleanDisk new → KeepsTables mid new) → (HasCleanDisk new → StaysClosed mid new) → (HasCleanDisk new → KeepsStored mid new)
      → Delivering (commands ++ command ∷ []) (replies ++ reply ∷ []) old new
  one_more command reply reaches is_open inside schema shut kept = record {
    reaches = λ clean before stands.
        let first = so_far.reaches (early clean) before stands in
        let second = reaches clean first.0 first.2 in
        (second.0, accepts_more before first.0 second.0 commands replies command reply first.1 second.1, second.2);
    was_open = λ clean some. so_far.stays_closed (early clean) (is_open clean);
    inside = λ clean has on. inside clean (so_far.schema (early clean) has) (so_far.inside (early clean) has on);
    schema = λ clean has. schema clean (so_far.schema (early clean) has);
    stays_closed = λ clean. shut_on clean (shut clean);
    kept = λ clean. kept_on clean (kept clean);
    survives = survives_on;
  }

  -- the next one is refused
  pub next_refused : (whole later : List Command) (command : Command) (place : ℕ) (e : Refusal) → whole ≡ commands ++ command ∷ later → place ≡ length commands → HasCleanDisk new
      → HasCause e command mid → (IsTrue mid.in_transaction → IsFault command mid new e) → IsTrue old.in_transaction → IsRefusedAt whole place e old new
  next_refused whole later command place e are number clean cause fault inside = record {
    command = command;
    at = record { earlier = commands; later = later; are = are; number = number };
    mid = mid.now;
    reached = λ before stands. let first = so_far.reaches (early clean) before stands in (replies, first.0, first.1, first.2);
    cause = cause_as e command mid (record old { now = mid.now }) refl (so_far.stays_closed (early clean)) cause;
    fault = λ is before stands.
        let first = so_far.reaches (early clean) before stands in
        elim (fault (so_far.inside (early clean) stands.schema inside) is first.0 first.2) [
          | inl failed ↦ inl (later_failed old mid new so_far.survives two clean failed)
          | inr hindered ↦ inr (first.0, first.2, hindered)
        ];
  }
