-- The rows of volumes, one after another.
use Rattle.std.proofs.Common.{◌≡◌, ℕ, suc, ◌+◌, ◌<◌, ◌≤◌, List, [], ◌∷◌, ◌++◌, ◌⊎◌, Err, IfErr, IfOk, Ok, Result, drop, flat_map, length, map, nat_lt, append-nil, append_assoc, refl, sym, ap, subst, ◌∙◌, inr, arith}
use Rattle.std.proofs.lemmas.Bool.{lt-ltb}
use Rattle.std.proofs.lemmas.List.{drop_all}
use Rattle.sqlite_rules.proofs.ListLemmas.{all_from, has_filtered}
use Rattle.sqlite_trees.proofs.ListLemmas.{filter_all}
use Rattle.part_store.specs.Entries.{Entries, Entry, Listing, entries_of, entries_since, listing_of, no_entries}
use Rattle.refusals.specs.declared.refusal.Refusal.{Refusal}
use Rattle.depot_actions.specs.Causes.{MayRefuse}
use Rattle.depot_actions.specs.DepotState.{Command, IsNamed, ListAll, ListSince, Listed, Reply}
use Rattle.volumes.specs.Applying.{AppliesOnVolumes, HasCauseIn, IsSoughtPlace}
use Rattle.volumes.specs.Holding.{Holding, IsFailure, Keeps}
use Rattle.volumes.specs.Private.{AreListedFrom, PutsListed}
use Rattle.volumes.specs.Volumes.{AreVolumes, whole}
use Rattle.volumes.proofs.Applied.{failed_in, keeps_then}
use Rattle.volumes.proofs.Sought.{has_at, sought_at}
use Rattle.volumes.proofs.Whole.{above_before, listed_each, since_later, since_listings, weaker_all}

abbrev pub rows_in : List ℕ → ℕ → List Entries → List Listing
rows_in user number vs = flat_map (λ (v : Entries). map listing_of (entries_since user number v)) vs

drop_here : (earlier : List Entries) (v : Entries) (later : List Entries) → drop (length earlier) (earlier ++ v ∷ later) ≡ v ∷ later
drop_here [] v later = refl
drop_here (w ∷ ws) v later = drop_here ws v later

drop_past : (earlier : List Entries) (v : Entries) (later : List Entries) → drop (suc (length earlier)) (earlier ++ v ∷ later) ≡ later
drop_past [] v later = refl
drop_past (w ∷ ws) v later = drop_past ws v later

-- the rows are those before a place, so that with those from it on they are all
abbrev pub AreListedUpTo : {V : Type 0} → Holding V → V → V → List ℕ → ℕ → ℕ → ℕ → ℕ → List Listing → Type 0
AreListedUpTo k old new user number first count place rows = k.is_sound new → (vs : List Entries) → k.holds old vs → length vs ≡ count
    → rows ++ rows_in user number (drop place vs) ≡ rows_in user number (drop first vs)

module _ {V : Type 0} (k : Holding V) (old mid new : V) (user : List ℕ) (number first count place : ℕ) (before after : List Listing) where
  pub listed_next : AreListedUpTo k old mid user number first count place before → Keeps k old mid → PutsListed k mid new user number place before after → Keeps k mid new → place < count
      → AreListedUpTo k old new user number first count (place + 1) after
  listed_next told first_keeps puts keeps lt sound vs holds len =
      let earlier_sound = keeps.sound sound in
      let there = has_at vs place (omega (arith, lt, len)) in
      let all = told earlier_sound vs holds len in
      let here : drop place vs ≡ there.v ∷ there.later = ap (drop place) there.are ∙ ap (λ n. drop n (there.earlier ++ there.v ∷ there.later)) (sym there.at) ∙ drop_here there.earlier there.v there.later in
      let next : place + 1 ≡ suc (length there.earlier) = omega (arith, there.at) in
      let past : drop (place + 1) vs ≡ there.later = ap (drop (place + 1)) there.are ∙ ap (λ n. drop n (there.earlier ++ there.v ∷ there.later)) next ∙ drop_past there.earlier there.v there.later in
      let put = puts sound there.earlier there.v there.later (subst (k.holds mid) there.are (first_keeps.same earlier_sound vs holds)) there.at in
      ap (λ rows. rows ++ rows_in user number (drop (place + 1) vs)) put
      ∙ ap (λ ws. (before ++ map listing_of (entries_since user number there.v)) ++ rows_in user number ws) past
      ∙ append_assoc before (map listing_of (entries_since user number there.v)) (rows_in user number there.later)
      ∙ ap (λ ws. before ++ rows_in user number ws) (sym here)
      ∙ all

pub listed_all : {V : Type 0} (k : Holding V) (old new : V) (user : List ℕ) (number first count place : ℕ) (rows : List Listing) → AreListedUpTo k old new user number first count place rows → count ≤ place → AreListedFrom k old new user number first count rows
listed_all k old new user number first count place rows told le sound vs holds len =
    sym (append-nil rows)
    ∙ ap (λ ws. rows ++ rows_in user number ws) (sym (drop_all place vs (omega (arith, le, len))))
    ∙ told sound vs holds len

-- ---- what they are a reply of

all_since : (user : List ℕ) (vs : List Entries) → AreVolumes vs → entries_since user 0 (whole vs) ≡ entries_of user (whole vs)
all_since user vs are =
    filter_all (λ (x : Entry). nat_lt 0 x.number) (entries_of user (whole vs))
    (all_from _ (entries_of user (whole vs)) (λ x there.
    lt-ltb 0 x.number (omega (arith, above_before no_entries vs are x (has_filtered _ (whole vs).entries x there).0))))

module _ {V : Type 0} (k : Holding V) (old new : V) (user : List ℕ) {A : Type 0} (rows_of : A → List Listing) (rows : A) where
  pub list_applies : (count : ℕ) → IsNamed (ListAll user) → ((vs : List Entries) → k.holds old vs → length vs ≡ count) → AreListedFrom k old new user 0 0 count (rows_of rows) → Keeps k old new
      → AppliesOnVolumes k old new (Ok rows) (ListAll user) (λ x. Listed (rows_of x))
  list_applies count named counted told keeps = record {
    done = λ sound before holds are. (
      before,
      record {
        named = named;
        step = (
          ap Listed (told sound before holds (counted before holds) ∙ sym (since_listings user 0 before) ∙ ap (map listing_of) (all_since user before are)),
          refl,
        );
      },
      are,
      keeps.same sound before holds,
    );
    unchanged = λ sound before holds are. tt;
    sound = keeps.sound;
    which = tt;
    cause = λ sound before holds are. tt;
  }

  pub since_applies : (mid : V) (number first count total : ℕ) → total ≡ count + 1 → IsNamed (ListSince user number) → ((vs : List Entries) → k.holds old vs → length vs ≡ total) → IsSoughtPlace k old mid user (number + 1) count first → Keeps k old mid
      → AreListedFrom k mid new user number first total (rows_of rows) → Keeps k mid new → AppliesOnVolumes k old new (Ok rows) (ListSince user number) (λ x. Listed (rows_of x))
  since_applies mid number first count total is_total named counted sought first_keeps told keeps = record {
    done = λ sound before holds are.
        let earlier_sound = keeps.sound sound in
        let held = first_keeps.same earlier_sound before holds in
        let len = counted before holds ∙ is_total in
        let there = sought_at user (number + 1) count first before len (sought earlier_sound before holds are (omega (arith, len))) in
        let rest : drop first before ≡ there.v ∷ there.later = ap (drop first) there.are ∙ ap (λ n. drop n (there.earlier ++ there.v ∷ there.later)) (sym there.at) ∙ drop_here there.earlier there.v there.later in
        let small = weaker_all _ (λ (w : Entries). w.lasts user ≤ number) (λ w h. omega (arith, h)) there.earlier there.smaller in
        let same : map listing_of (entries_since user number (whole before)) ≡ rows_in user number (there.v ∷ there.later) =
        ap (λ ws. map listing_of (entries_since user number (whole ws))) there.are
        ∙ ap (map listing_of) (since_later user number there.earlier (there.v ∷ there.later) (subst AreVolumes there.are are) small)
        ∙ listed_each (entries_since user number) (there.v ∷ there.later) in (
          before,
          record { named = named; step = (ap Listed (told sound before held (counted before holds) ∙ ap (rows_in user number) rest ∙ sym same), refl) },
          are,
          keeps.same sound before held,
        );
    unchanged = λ sound before holds are. tt;
    sound = λ sound. first_keeps.sound (keeps.sound sound);
    which = tt;
    cause = λ sound before holds are. tt;
  }

-- a list that is refused changes nothing
pub list_refused : {V : Type 0} (k : Holding V) (old new : V) → Keeps k old new → {A : Type 0} (command : Command) (reply : A → Reply) (e : Refusal) → MayRefuse command e ⊎ IsFailure e → ((b : Entries) → HasCauseIn e command b)
    → AppliesOnVolumes k old new (Err e) command reply
list_refused k old new keeps command reply e may cause = record {
  done = λ sound before holds are. tt;
  unchanged = λ sound before holds are. (before, refl, are, keeps.same sound before holds);
  sound = keeps.sound;
  which = may;
  cause = λ sound before holds are. cause (whole before);
}

module _ {V : Type 0} (k : Holding V) (old new : V) (user : List ℕ) {A : Type 0} (rows_of : A → List Listing) where
  pub list_answers : (count : ℕ) → IsNamed (ListAll user) → ((vs : List Entries) → k.holds old vs → length vs ≡ count) → Keeps k old new → (result : Result A Refusal) → IfOk result (λ rows. AreListedFrom k old new user 0 0 count (rows_of rows)) → IfErr result IsFailure
      → AppliesOnVolumes k old new result (ListAll user) (λ x. Listed (rows_of x))
  list_answers count named counted keeps (Ok rows) told failure = list_applies k old new user rows_of rows count named counted told keeps
  list_answers count named counted keeps (Err e) told failure = list_refused k old new keeps (ListAll user) (λ x. Listed (rows_of x)) e (inr failure) (λ b. failed_in e (ListAll user) b failure)

  pub since_answers : (mid : V) (number first count total : ℕ) → total ≡ count + 1 → IsNamed (ListSince user number) → ((vs : List Entries) → k.holds old vs → length vs ≡ total) → IsSoughtPlace k old mid user (number + 1) count first → Keeps k old mid → Keeps k mid new
      → (result : Result A Refusal) → IfOk result (λ rows. AreListedFrom k mid new user number first total (rows_of rows)) → IfErr result IsFailure → AppliesOnVolumes k old new result (ListSince user number) (λ x. Listed (rows_of x))
  since_answers mid number first count total is_total named counted sought first_keeps keeps (Ok rows) told failure =
      since_applies k old new user rows_of rows mid number first count total is_total named counted sought first_keeps told keeps
  since_answers mid number first count total is_total named counted sought first_keeps keeps (Err e) told failure =
      list_refused k old new (keeps_then k old mid new first_keeps keeps) (ListSince user number) (λ x. Listed (rows_of x)) e (inr failure) (λ b. failed_in e (ListSince user number) b failure)
