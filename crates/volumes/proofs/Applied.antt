-- A command on one volume's depot, which was opened and given back, is a command on all volumes.
use Rattle.std.proofs.Common.{◌≡◌, ℕ, zero, suc, ◌+◌, Bool, true, false, inl, inr, IsTrue, IsErrAnd, IfErr, List, [], ◌∷◌, ◌++◌, Ok, Err, Result, length, refl, sym, ap, subst, ◌∙◌, arith}
use Rattle.sqlite_trees.specs.declared.store.Store.{Ghosts}
use Rattle.sqlite.specs.Held.{Held, state}
use Rattle.sqlite.specs.State.{HasCleanDisk, State}
use Rattle.part_store.specs.Entries.{Entries}
use Rattle.part_store.specs.Opening.{IsAt}
use Rattle.part_store.specs.Standing.{LeavesUnchanged, Stands}
use Rattle.refusals.specs.declared.refusal.Refusal.{Refusal}
use Rattle.refusals.specs.declared.refusal.Refusal.TheVariants.{NoSuchEntry, NumberFull}
use Rattle.depot_actions.specs.Applying.{Applies, Spares, only_looks}
use Rattle.depot_actions.specs.Causes.{HasCause, IsFull, NamesNone}
use Rattle.depot_actions.specs.DepotState.{Accepts, Command, Does, Reply}
use Rattle.volumes.specs.Applying.{AppliesOnVolumes, HasCauseIn, HoldsSame, HoldsStep, KeepsWhole}
use Rattle.volumes.specs.Holding.{HasClosed, HasOpened, Holding, IsFailure, Keeps}
use Rattle.volumes.specs.OnVolumes.{IsDoneOn}
use Rattle.volumes.specs.Private.{HasOpenedNewest}
use Rattle.volumes.specs.Volumes.{AreVolumes, whole}
use Rattle.volumes.proofs.Lifting.{on_volumes}
use Rattle.volumes.proofs.Stepping.{accepts_whole, none_named, volumes_after, whole_full}

-- ---- the last of volumes

pub record HasLast (vs : List Entries) (place : ℕ) : Type 0 where
  pub earlier : List Entries
  pub last : Entries
  pub are : vs ≡ earlier ++ last ∷ []
  pub at : length earlier ≡ place

pub has_last : (vs : List Entries) (place : ℕ) → length vs ≡ place + 1 → HasLast vs place
has_last [] place e = absurd (omega (arith, e))
has_last (v ∷ []) place e = record { earlier = []; last = v; are = refl; at = omega (arith, e) }
has_last (v ∷ w ∷ ws) zero e = absurd (omega (arith, e))
has_last (v ∷ w ∷ ws) (suc place) e =
    let rest = has_last (w ∷ ws) place (omega (arith, e)) in
    record { earlier = v ∷ rest.earlier; last = rest.last; are = ap (λ vs. v ∷ vs) rest.are; at = ap suc rest.at }

-- the volume at this place, which a command is done on wherever that volume accepts it
pub record IsToldOn (command : Command) (place : ℕ) (before : List Entries) : Type 0 where
  pub earlier : List Entries
  pub v : Entries
  pub later : List Entries
  pub are : before ≡ earlier ++ v ∷ later
  pub at : length earlier ≡ place
  pub on : (reply : Reply) (w : Entries) → Accepts v command reply w → IsDoneOn command earlier v later
  pub none : NamesNone v command → NamesNone (whole before) command
  pub full : IsFull v command → IsFull (whole before) command

-- ---- one depot

-- an open store has a clean disk
abbrev pub IsLawful : {S : Type 0} → Ghosts S → Type 0
IsLawful {S} g = (h : Held S) → IsTrue (state g h).is_open → HasCleanDisk (state g h)

spared : {S : Type 0} (g : Ghosts S) (looks : Bool) (old new : Held S) (A : Type 0) (e : Refusal) → Spares looks g old new {A = A} (Err e) → HasCleanDisk (state g new) → LeavesUnchanged (state g old) (state g new)
spared g true old new A e spares clean = spares clean
spared g false old new A e spares clean = spares clean

pub cause_in : (command : Command) (e : Refusal) (v b : Entries) → (NamesNone v command → NamesNone b command) → (IsFull v command → IsFull b command) → (old : State) → Stands old.now v → HasCause e command old → HasCauseIn e command b
cause_in command NoSuchEntry v b none full old stands cause = none (cause.2 v stands)
cause_in command NumberFull v b none full old stands cause = full (cause.3 v stands)
cause_in command _ v b none full old stands cause = tt

module _ {S V : Type 0} (g : Ghosts S) (lawful : IsLawful g) (k : Holding V) (place : ℕ) (old mid new : V) (was is : Held S) (opened : HasOpened k g place old mid was) (closed : HasClosed k g place mid new is) where
  module _ (sound : k.is_sound new) where
    pub open_after : IsTrue (state g is).is_open
    open_after = (closed.sound sound).0

    pub clean_after : HasCleanDisk (state g is)
    clean_after = lawful is open_after

    pub sound_before : IsTrue (state g was).is_open → k.is_sound old
    sound_before is_open = opened.sound (closed.sound sound).1 is_open

    module _ (earlier : List Entries) (v : Entries) (later : List Entries) (holds : k.holds old (earlier ++ v ∷ later)) (at : length earlier ≡ place) where
      pub was_at : IsTrue (state g was).is_open → IsAt v (state g was)
      was_at is_open = opened.found (closed.sound sound).1 is_open earlier v later holds at

      held_after : IsTrue (state g was).is_open → (w : Entries) → IsAt w (state g is) → k.holds new (earlier ++ w ∷ later)
      held_after is_open w shows = closed.held sound earlier v w later (opened.same (closed.sound sound).1 is_open (earlier ++ v ∷ later) holds) at shows

      pub still_held : LeavesUnchanged (state g was) (state g is) → k.holds new (earlier ++ v ∷ later)
      still_held spares =
          let shown = was_at (spares.stays_closed open_after) in
          let same = spares.same shown.0.schema open_after in
          held_after (spares.stays_closed open_after) v (subst (λ d. Stands d v) (sym same.0) shown.0, same.1 ∙ shown.1 ∙ sym same.0, open_after)

      module _ (are : AreVolumes (earlier ++ v ∷ later)) where
        kept_whole : LeavesUnchanged (state g was) (state g is) → HoldsSame k new (earlier ++ v ∷ later)
        kept_whole spares = (earlier ++ v ∷ later, refl, are, still_held spares)

        pub step_whole : (command : Command) (reply : Reply) → ((w : Entries) → Accepts v command reply w → IsDoneOn command earlier v later)
            → Does command reply (state g was) (state g is) → HoldsStep k new (earlier ++ v ∷ later) command reply
        step_whole command reply on does =
            let left = does.1 v (was_at does.0).0 in
            let shown = left.2.stands open_after in
            let done = on_volumes earlier v left.0 later command reply (on left.0 left.1) left.1 in (
              earlier ++ left.0 ∷ later,
              accepts_whole (earlier ++ v ∷ later) (earlier ++ left.0 ∷ later) command reply are done,
              volumes_after (earlier ++ v ∷ later) (earlier ++ left.0 ∷ later) command reply are done,
              held_after does.0 left.0 (shown.0, shown.1, open_after),
            )

  -- what a command on the depot comes to, where the volumes are given and its own can be told
  module _ {A : Type 0} (command : Command) (reply : A → Reply) where
    sound_by : (result : Result A Refusal) → Applies g was is result command reply → k.is_sound new → k.is_sound old
    sound_by (Ok x) applies sound = sound_before sound (applies.done (clean_after sound)).0
    sound_by (Err e) applies sound = sound_before sound ((spared g (only_looks command) was is A e applies.unchanged (clean_after sound)).stays_closed (open_after sound))

    module _ (tell : k.is_sound mid → IsTrue (state g was).is_open → (before : List Entries) → k.holds old before → AreVolumes before → IsToldOn command place before) where
      pub applied : (result : Result A Refusal) → Applies g was is result command reply → AppliesOnVolumes k old new result command reply
      applied (Ok x) applies = record {
        done = λ sound before holds are.
            let told = tell (closed.sound sound).1 (applies.done (clean_after sound)).0 before holds are in
            subst (λ vs. HoldsStep k new vs command (reply x)) (sym told.are)
            (step_whole sound told.earlier told.v told.later (subst (k.holds old) told.are holds) told.at (subst AreVolumes told.are are) command (reply x)
            (λ w accepts. told.on (reply x) w accepts) (applies.done (clean_after sound)));
        unchanged = λ sound before holds are. tt;
        sound = sound_by (Ok x) applies;
        which = tt;
        cause = λ sound before holds are. tt;
      }
      applied (Err e) applies = record {
        done = λ sound before holds are. tt;
        unchanged = λ sound before holds are.
            let spares = spared g (only_looks command) was is A e applies.unchanged (clean_after sound) in
            let told = tell (closed.sound sound).1 (spares.stays_closed (open_after sound)) before holds are in
            subst (HoldsSame k new) (sym told.are)
            (kept_whole sound told.earlier told.v told.later (subst (k.holds old) told.are holds) told.at (subst AreVolumes told.are are) spares);
        sound = sound_by (Err e) applies;
        which = inl applies.which;
        cause = λ sound before holds are.
            let spares = spared g (only_looks command) was is A e applies.unchanged (clean_after sound) in
            let told = tell (closed.sound sound).1 (spares.stays_closed (open_after sound)) before holds are in
            let shown = was_at sound told.earlier told.v told.later (subst (k.holds old) told.are holds) told.at (spares.stays_closed (open_after sound)) in
            cause_in command e told.v (whole before) told.none told.full (state g was) shown.0 (applies.refused (clean_after sound));
      }

-- a command on the newest volume's depot
pub newest_applied : {S V : Type 0} (g : Ghosts S) (lawful : IsLawful g) (k : Holding V) (place : ℕ) (old mid new : V) (was is : Held S) → HasOpenedNewest k g place old mid was → HasClosed k g place mid new is
    → {A : Type 0} (command : Command) (reply : A → Reply) → ((earlier : List Entries) (v : Entries) → IsDoneOn command earlier v []) → (result : Result A Refusal) → Applies g was is result command reply → AppliesOnVolumes k old new result command reply
newest_applied g lawful k place old mid new was is opened closed command reply on result applies =
    applied g lawful k place old mid new was is opened.opened closed command reply
    (λ sound is_open before holds are.
    let last = has_last before place (opened.newest before holds) in
    let there = subst AreVolumes last.are are in
    record {
      earlier = last.earlier;
      v = last.last;
      later = [];
      are = last.are;
      at = last.at;
      on = λ reply w accepts. on last.earlier last.last;
      none = λ h. subst (λ vs. NamesNone (whole vs) command) (sym last.are) (none_named last.earlier last.last [] command there (on last.earlier last.last) h);
      full = λ h. subst (λ vs. IsFull (whole vs) command) (sym last.are) (whole_full last.earlier last.last [] command (on last.earlier last.last) h);
    })
    result applies

pub failed_in : (e : Refusal) (command : Command) (b : Entries) → IsFailure e → HasCauseIn e command b
failed_in e command b (inl is) = subst (λ e. HasCauseIn e command b) (sym is) tt
failed_in e command b (inr is) = subst (λ e. HasCauseIn e command b) (sym is) tt

-- no depot was opened
pub not_applied : {V : Type 0} (k : Holding V) (old new : V) → Keeps k old new → {A : Type 0} (command : Command) (reply : A → Reply) (e : Refusal) → IsFailure e → AppliesOnVolumes k old new (Err e) command reply
not_applied k old new keeps command reply e failure = record {
  done = λ sound before holds are. tt;
  unchanged = λ sound before holds are. (before, refl, are, keeps.same sound before holds);
  sound = keeps.sound;
  which = inr failure;
  cause = λ sound before holds are. failed_in e command (whole before) failure;
}

-- a refusal of the volumes that `?` passes on
pub passed : {V : Type 0} (k : Holding V) (old new : V) → Keeps k old new → {A : Type 0} (command : Command) (reply : A → Reply) (result : Result A Refusal) (given : Refusal) → IsErrAnd result (λ d. d ≡ given) → IsFailure given
    → AppliesOnVolumes k old new result command reply
passed k old new keeps command reply (Ok x) given is failure = absurd is
passed k old new keeps command reply (Err e) given is failure = not_applied k old new keeps command reply e (subst IsFailure (sym is) failure)

-- a command after something that changed nothing of what all volumes hold together
pub applied_after : {V : Type 0} (k : Holding V) (old mid new : V) → KeepsWhole k old mid → {A : Type 0} (result : Result A Refusal) (command : Command) (reply : A → Reply) → AppliesOnVolumes k mid new result command reply
    → AppliesOnVolumes k old new result command reply
applied_after k old mid new keeps (Ok x) command reply applies = record {
  done = λ sound before holds are.
      let kept = keeps.same (applies.sound sound) before holds are in
      let step = applies.done sound kept.0 kept.3 kept.2 in
      (step.0, subst (λ e. Accepts e command (reply x) (whole step.0)) kept.1 step.1, step.2, step.3);
  unchanged = λ sound before holds are. tt;
  sound = λ sound. keeps.sound (applies.sound sound);
  which = tt;
  cause = λ sound before holds are. tt;
}
applied_after k old mid new keeps (Err e) command reply applies = record {
  done = λ sound before holds are. tt;
  unchanged = λ sound before holds are.
      let kept = keeps.same (applies.sound sound) before holds are in
      let same = applies.unchanged sound kept.0 kept.3 kept.2 in
      (same.0, same.1 ∙ kept.1, same.2, same.3);
  sound = λ sound. keeps.sound (applies.sound sound);
  which = applies.which;
  cause = λ sound before holds are.
      let kept = keeps.same (applies.sound sound) before holds are in
      subst (λ b. HasCauseIn e command b) kept.1 (applies.cause sound kept.0 kept.3 kept.2);
}

pub refused_after : {V : Type 0} (k : Holding V) (old new : V) → KeepsWhole k old new → {A : Type 0} (command : Command) (reply : A → Reply) (result : Result A Refusal) (given : Refusal) → IsErrAnd result (λ d. d ≡ given) → IsFailure given
    → AppliesOnVolumes k old new result command reply
refused_after k old new keeps command reply (Ok x) given is failure = absurd is
refused_after k old new keeps command reply (Err e) given is failure = record {
  done = λ sound before holds are. tt;
  unchanged = keeps.same;
  sound = keeps.sound;
  which = inr (subst IsFailure (sym is) failure);
  cause = λ sound before holds are. failed_in e command (whole before) (subst IsFailure (sym is) failure);
}

-- ---- what keeps the whole

pub keeps_whole : {V : Type 0} (k : Holding V) (old new : V) → Keeps k old new → KeepsWhole k old new
keeps_whole k old new keeps = record { same = λ sound before holds are. (before, refl, are, keeps.same sound before holds); sound = keeps.sound }

pub keeps_then : {V : Type 0} (k : Holding V) (a b c : V) → Keeps k a b → Keeps k b c → Keeps k a c
keeps_then k a b c one two = record {
  same = λ sound vs holds. two.same sound vs (one.same (two.sound sound) vs holds);
  sound = λ sound. one.sound (two.sound sound);
}

pub whole_then : {V : Type 0} (k : Holding V) (a b c : V) → KeepsWhole k a b → KeepsWhole k b c → KeepsWhole k a c
whole_then k a b c one two = record {
  same = λ sound before holds are.
      let first = one.same (two.sound sound) before holds are in
      let next = two.same sound first.0 first.3 first.2 in
      (next.0, next.1 ∙ first.1, next.2, next.3);
  sound = λ sound. one.sound (two.sound sound);
}

-- what holds after a refusal, whatever it is
pub for_any_error : {A E P : Type 0} (result : Result A E) → P → IfErr result (λ _. P)
for_any_error (Ok x) holds = tt
for_any_error (Err e) holds = holds

pub keeps_self : {V : Type 0} (k : Holding V) (v : V) → Keeps k v v
keeps_self k v = record { same = λ sound vs holds. holds; sound = λ sound. sound }
