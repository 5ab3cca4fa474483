-- What becomes of deliveries in a transaction of their own.
use Rattle.std.proofs.Common.{◌≡◌, ◌∙◌, ◌<◌, inl, inr, ℕ, List, IsTrue, Result, Ok, Err, Vec, arith, length, map, refl, subst, sym, true}
use Rattle.std.proofs.lemmas.List.{length-map}
use Rattle.std.specs.declared.alloc.Global.{Global}
use Rattle.sqlite_trees.specs.declared.store.Store as store
use Rattle.sqlite.specs.Held.{Held, state}
use Rattle.sqlite.specs.State.{State, HasCleanDisk, Survives}
use Rattle.part_store.specs.Transacting.{Ends, Transacts}
use Rattle.part_store.specs.declared.entry.EntryRow.{EntryRow}
use Rattle.part_store.specs.declared.error.StoreError.{StoreError}
use Rattle.part_store.specs.declared.within.Undone.TheVariants.{Refused, Uncommitted}
use Rattle.refusals.specs.declared.refusal.Refusal.{Refusal}
use Rattle.depot_actions.specs.Applying.{Applies, AppliesAll}
use Rattle.depot_actions.specs.Delivering.{Delivers, DeliversEach}
use Rattle.depot_actions.specs.Deliveries.{MayLeaveAll, command_of, reply_of}
use Rattle.depot_actions.specs.DepotState.{Command, Deliver, MayLeave, Reply}
use Rattle.depot_actions.specs.Private.{of_store}
use Rattle.depot_actions.specs.declared.deliveries.Delivery.{Delivery}
use Rattle.depot_actions.specs.declared.deliveries.RefusedDelivery.{RefusedDelivery}
use Rattle.depot_actions.proofs.Together.{all_refused_by, commit_failed, commit_lost, commit_refusal, commit_undone, done_alone, done_together, left_alone, left_by_commit, left_together, refused_alone, refused_together, rolled_back, survives_both, uncommitted}

module _ {S : Type 0} (g : store.Ghosts S) (conn new : Held S) (settled : IsTrue (state g conn).is_open → (state g conn).now ≡ (state g conn).committed) where
  abbrev inside : Held S
  inside = record conn { in_transaction = true }

  -- ---- one delivery

  module _ (user message : List ℕ) where
    abbrev command : Command
    command = Deliver user message

    alone_done_at : (mid : Held S) (given : Result (Vec EntryRow Global) Refusal) (rows : Vec EntryRow Global) → Delivers g user message inside mid given → Ends g mid new given (Ok rows)
        → Applies g conn new (Ok rows) command reply_of
    alone_done_at mid (Ok x) rows does ((is, shows), two) =
        let early : HasCleanDisk (state g new) → HasCleanDisk (state g mid) = λ clean. omega (arith, clean, two.clean) in
        subst (λ y. Applies g conn new (Ok y) command reply_of) (sym is) (record {
          done = λ clean. done_alone g conn command (reply_of x) (state g mid) (state g new) (does.within.was_open (early clean)) (does.done (early clean)) (shows clean);
          unchanged = λ clean. tt;
          which = tt;
          refused = λ clean. tt;
          cause = λ clean. tt;
          survives = left_by_commit g conn (state g mid) (state g new) (MayLeave command (state g conn)) does.within.survives
              (λ clean. left_alone g conn command (reply_of x) (state g mid) (does.within.was_open clean) (does.done clean)) two;
        })
    alone_done_at mid (Err e) rows does (is, rolled, two) = absurd (cc)

    alone_refused_at : (mid : Held S) (given : Result (Vec EntryRow Global) Refusal) (d : Refusal) → Delivers g user message inside mid given → Ends g mid new given (Err (Refused d))
        → Applies g conn new (Err d) command reply_of
    alone_refused_at mid (Ok x) d does (none, two) = absurd none
    alone_refused_at mid (Err e) d does (is, rolled, two) =
        let same : d ≡ e = cc in
        refused_alone g conn command reply_of (state g mid) new does.within.survives does.within.kept does.within.stays_closed settled (Err d) e same does.which does.refused (λ clean. does.cause clean refl) (λ old new h. h) rolled two

    alone_lost_at : (mid : Held S) (given : Result (Vec EntryRow Global) Refusal) (told : StoreError) (d : Refusal) → d ≡ of_store told → Delivers g user message inside mid given → Ends g mid new given (Err (Uncommitted told))
        → Applies g conn new (Err d) command reply_of
    alone_lost_at mid (Ok x) told d is does ((error, was, fails), two) =
        commit_lost g conn command reply_of (state g mid) new error told d was is does.sound.0 does.sound.1 (λ old new h. h) does.within.survives does.inside does.within.kept does.within.stays_closed settled fails two
        (left_by_commit g conn (state g mid) (state g new) (MayLeave command (state g conn)) does.within.survives
        (λ clean. left_alone g conn command (reply_of x) (state g mid) (does.within.was_open clean) (does.done clean)) two)
    alone_lost_at mid (Err e) told d is does (same, rolled, two) = absurd (cc)

  -- ---- several deliveries

  module _ (deliveries : List Delivery) where
    abbrev commands : List Command
    commands = map command_of deliveries

    abbrev replies_of : Vec (Vec EntryRow Global) Global → List Reply
    replies_of replies = map reply_of replies.items

    left_at : (mid : Held S) (x : Vec (Vec EntryRow Global) Global) → DeliversEach g deliveries inside mid (Ok x) → HasCleanDisk (state g mid) → MayLeaveAll commands (state g conn) (state g mid).now.trees
    left_at mid x does clean =
        left_together g conn commands (replies_of x) (state g mid) (λ some. does.was_open clean (subst (λ n. 0 < n) (length-map deliveries command_of) some)) (does.done clean)

    together_done_at : (mid : Held S) (given : Result (Vec (Vec EntryRow Global) Global) RefusedDelivery) (replies : Vec (Vec EntryRow Global) Global) → DeliversEach g deliveries inside mid given → Ends g mid new given (Ok replies)
        → AppliesAll g conn new (Ok replies) commands replies_of
    together_done_at mid (Ok x) replies does ((is, shows), two) =
        let early : HasCleanDisk (state g new) → HasCleanDisk (state g mid) = λ clean. omega (arith, clean, two.clean) in
        subst (λ y. AppliesAll g conn new (Ok y) commands replies_of) (sym is) (record {
          done = λ clean. done_together g conn commands (replies_of x) (state g mid) (state g new) (does.done (early clean)) (shows clean) (does.stays_closed (early clean));
          unchanged = λ clean. tt;
          which = tt;
          refused = λ clean. tt;
          survives = left_by_commit g conn (state g mid) (state g new) (MayLeaveAll commands (state g conn)) does.survives (left_at mid x does) two;
        })
    together_done_at mid (Err e) replies does (is, rolled, two) = absurd (cc)

    together_refused_at : (mid : Held S) (given : Result (Vec (Vec EntryRow Global) Global) RefusedDelivery) (d : RefusedDelivery) → DeliversEach g deliveries inside mid given → Ends g mid new given (Err (Refused d))
        → AppliesAll g conn new (Err d) commands replies_of
    together_refused_at mid (Ok x) d does (none, two) = absurd none
    together_refused_at mid (Err e) d does (is, rolled, two) =
        let same : d ≡ e = cc in
        let early : HasCleanDisk (state g new) → HasCleanDisk (state g mid) = λ clean. omega (arith, clean, two.clean) in
        let nothing = survives_both g conn (λ _. ⊥) (state g mid) (state g new) does.survives (λ clean db none. none) two in
        all_refused_by g conn new commands replies_of (Err d) e same
        (λ clean. rolled_back g conn (state g mid) (state g new) (rolled clean) (does.kept (early clean)) (does.stays_closed (early clean)) settled (nothing.closes clean))
        (inl does.which)
        (λ clean. inl (refused_together g conn commands e.place e.refusal (state g mid) (state g new) two (does.refused (early clean) refl)))
        (survives_both g conn (MayLeaveAll commands (state g conn)) (state g mid) (state g new) does.survives (λ clean db none. absurd none) two)

    together_lost_at : (mid : Held S) (given : Result (Vec (Vec EntryRow Global) Global) RefusedDelivery) (told : StoreError) (d : RefusedDelivery) → d.place ≡ length deliveries → d.refusal ≡ of_store told
        → DeliversEach g deliveries inside mid given → Ends g mid new given (Err (Uncommitted told)) → AppliesAll g conn new (Err d) commands replies_of
    together_lost_at mid (Ok x) told d place is does ((error, was, fails), two) =
        let early : HasCleanDisk (state g new) → HasCleanDisk (state g mid) = λ clean. omega (arith, clean, two.clean) in
        let number : d.place ≡ length commands = place ∙ sym (length-map deliveries command_of) in
        let which = commit_refusal error told d.refusal was is in
        let survives = left_by_commit g conn (state g mid) (state g new) (MayLeaveAll commands (state g conn)) does.survives (left_at mid x does) two in
        all_refused_by g conn new commands replies_of (Err d) d refl
        (λ clean. commit_undone g conn (state g mid) (state g new) error (fails clean) (does.inside (early clean)) (does.kept (early clean)) (does.stays_closed (early clean)) settled (survives.closes clean))
        (inr (number, which))
        (λ clean. inr (uncommitted g conn commands (replies_of x) d.place d.refusal (state g mid) (state g new) number does.survives two clean (does.inside (early clean)) (does.done (early clean)) which
        (commit_failed (state g mid) (state g new) error told d.refusal was is (fails clean))))
        survives
    together_lost_at mid (Err e) told d place is does (same, rolled, two) = absurd (cc)

-- ---- as the store's call says it

module _ {S : Type 0} (g : store.Ghosts S) (conn new : Held S) (user message : List ℕ) where
  pub alone_done : (rows : Vec EntryRow Global) → Transacts g conn new (Ok rows) (Delivers g user message) → Applies g conn new (Ok rows) (Deliver user message) reply_of
  alone_done rows t = alone_done_at g conn new t.settled user message t.mid t.given rows t.does t.ends

  pub alone_refused : (d : Refusal) → Transacts g conn new (Err (Refused d)) (Delivers g user message) → Applies g conn new (Err d) (Deliver user message) reply_of
  alone_refused d t = alone_refused_at g conn new t.settled user message t.mid t.given d t.does t.ends

  pub alone_lost : (told : StoreError) (d : Refusal) → d ≡ of_store told → Transacts g conn new (Err (Uncommitted told)) (Delivers g user message) → Applies g conn new (Err d) (Deliver user message) reply_of
  alone_lost told d is t = alone_lost_at g conn new t.settled user message t.mid t.given told d is t.does t.ends

module _ {S : Type 0} (g : store.Ghosts S) (conn new : Held S) (deliveries : List Delivery) where
  pub together_done : (replies : Vec (Vec EntryRow Global) Global) → Transacts g conn new (Ok replies) (DeliversEach g deliveries) → AppliesAll g conn new (Ok replies) (map command_of deliveries) (λ (replies : Vec (Vec EntryRow Global) Global). map reply_of replies.items)
  together_done replies t = together_done_at g conn new t.settled deliveries t.mid t.given replies t.does t.ends

  pub together_refused : (d : RefusedDelivery) → Transacts g conn new (Err (Refused d)) (DeliversEach g deliveries) → AppliesAll g conn new (Err d) (map command_of deliveries) (λ (replies : Vec (Vec EntryRow Global) Global). map reply_of replies.items)
  together_refused d t = together_refused_at g conn new t.settled deliveries t.mid t.given d t.does t.ends

  pub together_lost : (told : StoreError) (d : RefusedDelivery) → d.place ≡ length deliveries → d.refusal ≡ of_store told → Transacts g conn new (Err (Uncommitted told)) (DeliversEach g deliveries)
      → AppliesAll g conn new (Err d) (map command_of deliveries) (λ (replies : Vec (Vec EntryRow Global) Global). map reply_of replies.items)
  together_lost told d place is t = together_lost_at g conn new t.settled deliveries t.mid t.given told d place is t.does t.ends
