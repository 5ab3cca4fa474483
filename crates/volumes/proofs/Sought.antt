-- The volume that an entry's number is looked for in.
use Rattle.std.proofs.Common.{◌≡◌, ◌⊎◌, ℕ, zero, suc, ◌+◌, ◌<◌, ◌≤◌, inl, inr, IsTrue, List, [], ◌∷◌, ◌++◌, Result, flat_map, length, slice_index, refl, sym, ap, subst, ◌∙◌, arith}
use Rattle.std.specs.List.{AllByRecursion}
use Rattle.std.proofs.lemmas.Grind.{flat_map-append}
use Rattle.sqlite_rules.specs.Lists.{Has}
use Rattle.sqlite_rules.proofs.ListLemmas.{all_has, has_either}
use Rattle.sqlite_trees.specs.declared.store.Store.{Ghosts}
use Rattle.sqlite.specs.Held.{Held, state}
use Rattle.sqlite.specs.State.{HasCleanDisk}
use Rattle.part_store.specs.Entries.{Entries, Entry, no_entries}
use Rattle.part_store.specs.Standing.{HasNone, IsEntryAt, LeavesUnchanged}
use Rattle.refusals.specs.declared.refusal.Refusal.{Refusal}
use Rattle.depot_actions.specs.Applying.{Applies}
use Rattle.depot_actions.specs.Causes.{HasCause}
use Rattle.depot_actions.specs.DepotState.{Does, Export, Remove, Reply, Text}
use Rattle.encodings.specs.declared.encoding.Encoding.{Encoding}
use Rattle.volumes.specs.Applying.{AppliesOnVolumes, FromAll, HasCauseIn, HoldsStep, IsSoughtPlace, OpensFew, StepsAs}
use Rattle.volumes.specs.Holding.{HasClosed, HasOpened, Holding, IsLastAt, Keeps}
use Rattle.volumes.specs.Places.{AsksFew, IsFirstUpTo, IsPlaceAmong, lasts_of}
use Rattle.volumes.specs.Private.{HasOpenedFor}
use Rattle.volumes.specs.Volumes.{AreVolumes, whole}
use Rattle.volumes.proofs.Applied.{IsLawful, IsToldOn, applied, cause_in, clean_after, open_after, step_whole, was_at}
use Rattle.volumes.proofs.Stepping.{none_whole}
use Rattle.volumes.proofs.Whole.{not_earlier, split_after}

-- ---- a volume at a place

pub record HasAt (vs : List Entries) (place : ℕ) : Type 0 where
  pub earlier : List Entries
  pub v : Entries
  pub later : List Entries
  pub are : vs ≡ earlier ++ v ∷ later
  pub at : length earlier ≡ place

pub has_at : (vs : List Entries) (place : ℕ) → place < length vs → HasAt vs place
has_at [] place lt = absurd (omega (arith, lt))
has_at (v ∷ vs) zero lt = record { earlier = []; v = v; later = vs; are = refl; at = refl }
has_at (w ∷ vs) (suc place) lt =
    let rest = has_at vs place (omega (arith, lt)) in
    record { earlier = w ∷ rest.earlier; v = rest.v; later = rest.later; are = ap (λ others. w ∷ others) rest.are; at = ap suc rest.at }

last_there : (user : List ℕ) (earlier : List Entries) (v : Entries) (later : List Entries) → slice_index (lasts_of user (earlier ++ v ∷ later)) (length earlier) ≡ v.lasts user
last_there user [] v later = refl
last_there user (w ∷ ws) v later = last_there user ws v later

-- a user's last number at a place is that of the list
pub last_indexed : {V : Type 0} (k : Holding V) (old new : V) (user : List ℕ) (place last : ℕ) → IsLastAt k old new user place last → k.is_sound new → (vs : List Entries) → k.holds old vs → place < length vs
    → last ≡ slice_index (lasts_of user vs) place
last_indexed k old new user place last told sound vs holds lt =
    let there = has_at vs place lt in
    told sound there.earlier there.v there.later (subst (k.holds old) there.are holds) there.at
    ∙ sym (last_there user there.earlier there.v there.later)
    ∙ ap (slice_index (lasts_of user (there.earlier ++ there.v ∷ there.later))) there.at
    ∙ ap (λ ws. slice_index (lasts_of user ws) place) (sym there.are)

-- ---- the volume that was sought

pub record IsSought (user : List ℕ) (number : ℕ) (vs : List Entries) (place : ℕ) : Type 0 where
  pub earlier : List Entries
  pub v : Entries
  pub later : List Entries
  pub are : vs ≡ earlier ++ v ∷ later
  pub at : length earlier ≡ place
  pub smaller : AllByRecursion (λ w. w.lasts user < number) earlier
  pub enough : (later ≡ []) ⊎ (number ≤ v.lasts user)

later_among : (count number last place : ℕ) (lasts : List ℕ) → IsPlaceAmong (suc count) number (last ∷ lasts) (suc place) → IsPlaceAmong count number lasts place
later_among count number last place lasts is = record {
  within = omega (arith, is.within);
  smaller = λ i lt. is.smaller (suc i) (omega (arith, lt));
  enough = λ lt. is.enough (omega (arith, lt));
}

pub sought_at : (user : List ℕ) (number count place : ℕ) (vs : List Entries) → length vs ≡ count + 1 → IsPlaceAmong count number (lasts_of user vs) place → IsSought user number vs place
sought_at user number count place [] len is = absurd (omega (arith, len))
sought_at user number zero zero (v ∷ []) len is = record { earlier = []; v = v; later = []; are = refl; at = refl; smaller = tt; enough = inl refl }
sought_at user number zero zero (v ∷ w ∷ vs) len is = absurd (omega (arith, len))
sought_at user number (suc count) zero (v ∷ vs) len is = record { earlier = []; v = v; later = vs; are = refl; at = refl; smaller = tt; enough = inr (is.enough (omega arith)) }
sought_at user number zero (suc place) (v ∷ vs) len is = absurd (omega (arith, is.within))
sought_at user number (suc count) (suc place) (w ∷ vs) len is =
    let rest = sought_at user number count place vs (omega (arith, len)) (later_among count number (w.lasts user) place (lasts_of user vs) is) in
    record {
      earlier = w ∷ rest.earlier;
      v = rest.v;
      later = rest.later;
      are = ap (λ others. w ∷ others) rest.are;
      at = ap suc rest.at;
      smaller = (is.smaller 0 (omega arith), rest.smaller);
      enough = rest.enough;
    }

module _ (user : List ℕ) (number : ℕ) (earlier : List Entries) (v : Entries) (later : List Entries) (are : AreVolumes (earlier ++ v ∷ later)) (smaller : AllByRecursion (λ w. w.lasts user < number) earlier) where
  -- where the entry is there, the volume is the first that has a last number so large
  pub first_held : (x : Entry) → IsEntryAt v user number x → IsFirstUpTo user number earlier v
  first_held x at =
      let comes = (split_after no_entries earlier (v ∷ later) are).1.0 in
      (smaller, omega (arith, (all_has _ v.entries x comes.numbers at.0).1, ap v.lasts at.1, at.2))

  -- where it isn't there, it is nowhere
  pub nowhere : (later ≡ []) ⊎ (number ≤ v.lasts user) → HasNone v user number → HasNone (whole (earlier ++ v ∷ later)) user number
  nowhere (inr enough) none x at = none_whole earlier v later user number are (smaller, enough) none x at
  nowhere (inl newest) none x at =
      elim (has_either (flat_map (λ (w : Entries). w.entries) earlier) (flat_map (λ (w : Entries). w.entries) (v ∷ later)) x (subst (λ xs. Has xs x) (flat_map-append (λ (w : Entries). w.entries) earlier (v ∷ later)) at.0)) [
        | inl before ↦ not_earlier user number no_entries earlier (split_after no_entries earlier (v ∷ later) are).0 smaller x before at.1 at.2
        | inr other ↦ elim (has_either v.entries (flat_map (λ (w : Entries). w.entries) later) x other) [
          | inl here ↦ none x (here, at.1, at.2)
          | inr after ↦ absurd (subst (λ (ws : List Entries). Has (flat_map (λ (w : Entries). w.entries) ws) x) newest after)
        ]
      ]

-- ---- commands on it

module _ {S V : Type 0} (g : Ghosts S) (lawful : IsLawful g) (k : Holding V) (user : List ℕ) (number place : ℕ) (old mid new : V) (was is : Held S) (opened : HasOpenedFor k old mid g user number place was) (closed : HasClosed k g place mid new is) where
  module _ (sound : k.is_sound mid) (is_open : IsTrue (state g was).is_open) (before : List Entries) (holds : k.holds old before) (are : AreVolumes before) where
    there : IsSought user number before place
    there =
        let sought = opened.sought sound is_open before holds are in
        sought_at user number sought.0 place before sought.1 sought.2

    all : AreVolumes (there.earlier ++ there.v ∷ there.later)
    all = subst AreVolumes there.are are

    none : HasNone there.v user number → HasNone (whole before) user number
    none absent = subst (λ vs. HasNone (whole vs) user number) (sym there.are) (nowhere user number there.earlier there.v there.later all there.smaller there.enough absent)

    removal_told : IsToldOn (Remove user number) place before
    removal_told = record {
      earlier = there.earlier;
      v = there.v;
      later = there.later;
      are = there.are;
      at = there.at;
      on = λ reply w accepts. first_held user number there.earlier there.v there.later all there.smaller accepts.step.0 accepts.step.1;
      none = none;
      full = λ full. full;
    }

    export_told : (encoding : Encoding) → IsToldOn (Export user number encoding) place before
    export_told encoding = record {
      earlier = there.earlier;
      v = there.v;
      later = there.later;
      are = there.are;
      at = there.at;
      on = λ reply w accepts. first_held user number there.earlier there.v there.later all there.smaller accepts.step.0 accepts.step.1;
      none = none;
      full = λ full. full;
    }

  pub removed : {A : Type 0} (reply : A → Reply) (result : Result A Refusal) → Applies g was is result (Remove user number) reply → AppliesOnVolumes k old new result (Remove user number) reply
  removed reply result applies = applied g lawful k place old mid new was is opened.opened closed (Remove user number) reply removal_told result applies

  pub exported : (encoding : Encoding) (text : List ℕ) → (HasCleanDisk (state g is) → Does (Export user number encoding) (Text text) (state g was) (state g is)) → StepsAs k old new (Export user number encoding) (Text text)
  exported encoding text does sound before holds are =
      let done = does (clean_after g lawful k place old mid new was is opened.opened closed sound) in
      let told = export_told (closed.sound sound).1 done.0 before holds are encoding in
      subst (λ vs. HoldsStep k new vs (Export user number encoding) (Text text)) (sym told.are)
      (step_whole g lawful k place old mid new was is opened.opened closed sound told.earlier told.v told.later (subst (k.holds old) told.are holds) told.at (subst AreVolumes told.are are) (Export user number encoding) (Text text)
      (λ w accepts. told.on (Text text) w accepts) done)

  pub export_cause : (encoding : Encoding) (e : Refusal) → (HasCleanDisk (state g is) → LeavesUnchanged (state g was) (state g is)) → (HasCleanDisk (state g is) → HasCause e (Export user number encoding) (state g was))
      → FromAll k old new (λ before. HasCauseIn e (Export user number encoding) (whole before))
  export_cause encoding e spares cause sound before holds are =
      let clean = clean_after g lawful k place old mid new was is opened.opened closed sound in
      let is_open = (spares clean).stays_closed (open_after g lawful k place old mid new was is opened.opened closed sound) in
      let told = export_told (closed.sound sound).1 is_open before holds are encoding in
      let shown = was_at g lawful k place old mid new was is opened.opened closed sound told.earlier told.v told.later (subst (k.holds old) told.are holds) told.at is_open in
      cause_in (Export user number encoding) e told.v (whole before) told.none told.full (state g was) shown.0 (cause clean)

pub few_closed : {V : Type 0} (k : Holding V) (old mid new : V) → OpensFew k old mid → k.opened new ≤ k.opened mid → OpensFew k old new
few_closed k old mid new few le vs holds some = let asked = few vs holds some in (asked.0, omega (arith, asked.1, le), asked.2)

pub few_first : {V : Type 0} (k : Holding V) (old mid new : V) (count total : ℕ) → total ≡ count + 1 → ((vs : List Entries) → k.holds old vs → length vs ≡ total) → AsksFew count (k.opened old) (k.opened mid) → k.opened new ≤ k.opened mid + 1 → OpensFew k old new
few_first k old mid new count total is_total counted few le vs holds some =
    (few.0, omega (arith, few.1, le), omega (arith, few.2, counted vs holds, is_total))

pub opened_for : {S V : Type 0} (g : Ghosts S) (k : Holding V) (user : List ℕ) (number count total place : ℕ) (old mid new : V) (depot : Held S) → total ≡ count + 1 → ((vs : List Entries) → k.holds old vs → length vs ≡ total) → IsSoughtPlace k old mid user number count place → Keeps k old mid
    → HasOpened k g place mid new depot → HasOpenedFor k old new g user number place depot
opened_for g k user number count total place old mid new depot is_total counted sought keeps opened = record {
  opened = record {
    there = λ sound is_open vs holds. opened.there sound is_open vs (keeps.same (opened.sound sound is_open) vs holds);
    found = λ sound is_open earlier v later holds at. opened.found sound is_open earlier v later (keeps.same (opened.sound sound is_open) (earlier ++ v ∷ later) holds) at;
    same = λ sound is_open vs holds. opened.same sound is_open vs (keeps.same (opened.sound sound is_open) vs holds);
    sound = λ sound is_open. keeps.sound (opened.sound sound is_open);
  };
  sought = λ sound is_open vs holds are. (count, counted vs holds ∙ is_total, sought (opened.sound sound is_open) vs holds are (omega (arith, counted vs holds, is_total)));
}
