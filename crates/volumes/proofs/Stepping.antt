-- A command that is done on its volume is a step of all volumes as one depot.
use Rattle.std.proofs.Common.{◌≡◌, ℕ, ◌+◌, ◌<◌, ◌≤◌, Bool, true, false, not, cond, ◌&&◌, ◌==◌, List, [], ◌∷◌, ◌++◌, filter, flat_map, length, map, Option, Some, None, bytes_eq, append_assoc, refl, sym, ap, ap₂, subst, subst₂, ◌∙◌, inl, inr, arith, eqb-true}
use Rattle.std.specs.List.{AllByRecursion}
use Rattle.std.proofs.lemmas.Grind.{flat_map-append}
use Rattle.std.proofs.lemmas.List.Elements.{filter-append}
use Rattle.sqlite_rules.specs.Lists.{Has}
use Rattle.sqlite_rules.proofs.ListLemmas.{all_from, all_has, has_either, has_filtered, has_left, has_right}
use Rattle.sqlite_trees.specs.Tree.{Trees}
use Rattle.sqlite_trees.proofs.ListLemmas.{filter_all}
use Rattle.catalog.specs.Catalog.{catalog}
use Rattle.part_store.specs.Entries.{Draft, Entries, Entry, is_at, no_entries, numbered, without_entry}
use Rattle.part_store.specs.Standing.{HasNone, IsEntryAt}
use Rattle.depot_actions.specs.Causes.{IsColliding, IsFull, IsHindered, NamesNone}
use Rattle.depot_actions.specs.DepotState.{Accepts, Catalog, Command, Deliver, Export, ListAll, ListSince, Listed, Migrate, ProgramOf, Remove, Reply, SetCode, SetScript, Text, filed, filed_of}
use Rattle.depot_actions.specs.History.{AreSteps, IsStep}
use Rattle.volumes.specs.OnVolumes.{AcceptOnVolumes, AcceptsOnOne, Began, Called, Event, IsAnswered, IsDoneOn, MakeAll, calls_in}
use Rattle.volumes.specs.Places.{IsFirstUpTo}
use Rattle.volumes.specs.Volumes.{AreVolumes, ComeAfter, ComesAfter, current, newest_after, whole}
use Rattle.volumes.proofs.Whole.{begins_after, begins_whole, bytes_same, join_after, newest_join, not_earlier, not_later, older_and, same_bytes, since_listings, split_after, user_entries, user_listings, whole_at}

abbrev entries_in : List Entries → List Entry
entries_in vs = flat_map (λ (w : Entries). w.entries) vs

-- ---- one volume among the others

held_whole : (earlier : List Entries) (v : Entries) (later : List Entries) (x : Entry) → Has v.entries x → Has (entries_in (earlier ++ v ∷ later)) x
held_whole earlier v later x there =
    subst (λ xs. Has xs x) (sym (flat_map-append (λ (w : Entries). w.entries) earlier (v ∷ later)))
    (has_right (entries_in earlier) (entries_in (v ∷ later)) x (has_left v.entries (entries_in later) x there))

-- an entry of the whole of that number is in the first volume that has a last number so large
held_there : (earlier : List Entries) (v : Entries) (later : List Entries) (user : List ℕ) (number : ℕ) → AreVolumes (earlier ++ v ∷ later) → IsFirstUpTo user number earlier v
    → (x : Entry) → Has (entries_in (earlier ++ v ∷ later)) x → x.user ≡ user → x.number ≡ number → Has v.entries x
held_there earlier v later user number are is x there named numbered =
    let parts = split_after no_entries earlier (v ∷ later) are in
    elim (has_either (entries_in earlier) (entries_in (v ∷ later)) x (subst (λ xs. Has xs x) (flat_map-append (λ (w : Entries). w.entries) earlier (v ∷ later)) there)) [
      | inl before ↦ absurd (not_earlier user number no_entries earlier parts.0 is.0 x before named numbered)
      | inr other ↦ elim (has_either v.entries (entries_in later) x other) [
        | inl here ↦ here
        | inr after ↦ absurd (not_later user number v later parts.1.1 is.1 x after named numbered)
      ]
    ]

pub held_at : (earlier : List Entries) (v : Entries) (later : List Entries) (user : List ℕ) (number : ℕ) → AreVolumes (earlier ++ v ∷ later) → IsFirstUpTo user number earlier v
    → (x : Entry) → IsEntryAt (whole (earlier ++ v ∷ later)) user number x → IsEntryAt v user number x
held_at earlier v later user number are is x at = (held_there earlier v later user number are is x at.0 at.1 at.2, at.1, at.2)

pub none_whole : (earlier : List Entries) (v : Entries) (later : List Entries) (user : List ℕ) (number : ℕ) → AreVolumes (earlier ++ v ∷ later) → IsFirstUpTo user number earlier v → HasNone v user number
    → HasNone (whole (earlier ++ v ∷ later)) user number
none_whole earlier v later user number are is none x at = none x (held_there earlier v later user number are is x at.0 at.1 at.2, at.1, at.2)

-- ---- the current volume

filed_older : (earlier : List Entries) (user : List ℕ) (drafts : List Draft) (v : Entries) → older_and earlier (filed user drafts v) ≡ filed user drafts (older_and earlier v)
filed_older earlier user [] v = refl
filed_older earlier user (draft ∷ drafts) v = λ i. record {
  entries = sym (append_assoc (entries_in earlier) v.entries (numbered user (v.lasts user + 1) (draft ∷ drafts))) i;
  programs = v.programs;
  lasts = (filed user (draft ∷ drafts) v).lasts;
}

module _ (before after : List Entries) (command : Command) (reply : Reply) (done : AcceptsOnOne before command reply after) where
  newest_accepts : done.later ≡ [] → Accepts (older_and done.earlier done.old) command reply (older_and done.earlier done.new) → Accepts (whole before) command reply (whole after)
  newest_accepts none accepts =
      subst₂ (λ b a. Accepts b command reply a)
      (sym (ap whole (done.were ∙ ap (λ later. done.earlier ++ done.old ∷ later) none) ∙ whole_at done.earlier done.old))
      (sym (ap whole (done.are ∙ ap (λ later. done.earlier ++ done.new ∷ later) none) ∙ whole_at done.earlier done.new))
      accepts

  there_before : AreVolumes before → AreVolumes (done.earlier ++ done.old ∷ done.later)
  there_before are = subst AreVolumes done.were are

  -- the volume that has changed still comes after those before it, and those after it after it
  changed_after : AreVolumes before → ((n : Entries) → ComesAfter n done.old → ComesAfter n done.new) → (ComeAfter done.old done.later → ComeAfter done.new done.later) → AreVolumes after
  changed_after are turn rest =
      let parts = split_after no_entries done.earlier (done.old ∷ done.later) (there_before are) in
      subst AreVolumes (sym done.are) (join_after no_entries done.earlier (done.new ∷ done.later) parts.0 (turn (current done.earlier) parts.1.0, rest parts.1.1))

same_after : (n old new : Entries) → new.entries ≡ old.entries → new.lasts ≡ old.lasts → ComesAfter n old → ComesAfter n new
same_after n old new entries lasts comes = record {
  lasts = λ user. subst (λ (l : List ℕ → ℕ). n.lasts user ≤ l user) (sym lasts) (comes.lasts user);
  numbers = subst₂ (λ (l : List ℕ → ℕ) xs. AllByRecursion (λ (x : Entry). (n.lasts x.user < x.number) × (x.number ≤ l x.user)) xs) (sym lasts) (sym entries) comes.numbers;
}

same_before : (old new : Entries) (later : List Entries) → new.lasts ≡ old.lasts → ComeAfter old later → ComeAfter new later
same_before old new [] lasts come = tt
same_before old new (w ∷ ws) lasts come = (
  record {
    lasts = λ user. subst (λ (l : List ℕ → ℕ). l user ≤ w.lasts user) (sym lasts) (come.0.lasts user);
    numbers = subst (λ (l : List ℕ → ℕ). AllByRecursion (λ (x : Entry). (l x.user < x.number) × (x.number ≤ w.lasts x.user)) w.entries) (sym lasts) come.0.numbers;
  },
  come.1,
)

kept_after : (before after : List Entries) (command : Command) (reply : Reply) (done : AcceptsOnOne before command reply after) → AreVolumes before → done.new.entries ≡ done.old.entries → done.new.lasts ≡ done.old.lasts → AreVolumes after
kept_after before after command reply done are entries lasts =
    changed_after before after command reply done are (λ n. same_after n done.old done.new entries lasts) (same_before done.old done.new done.later lasts)

-- ---- a removal

module _ (earlier : List Entries) (v : Entries) (later : List Entries) (user : List ℕ) (number : ℕ) (are : AreVolumes (earlier ++ v ∷ later)) (is : IsFirstUpTo user number earlier v) where
  abbrev stays : Entry → Bool
  stays x = not (is_at user number x)

  abbrev without : Entries
  without = without_entry user number v

  other_stays : (x : Entry) → (x.user ≡ user → x.number ≡ number → ⊥) → stays x ≡ true
  other_stays x other = go (bytes_eq x.user user) (x.number == number) refl refl
    where
      go : (named same : Bool) → bytes_eq x.user user ≡ named → (x.number == number) ≡ same → not (named && same) ≡ true
      go false same e f = refl
      go true false e f = refl
      go true true e f = absurd (other (same_bytes x.user user e) (eqb-true x.number number f))

  earlier_stay : filter stays (entries_in earlier) ≡ entries_in earlier
  earlier_stay =
      filter_all stays (entries_in earlier) (all_from _ (entries_in earlier) (λ x there.
      other_stays x (not_earlier user number no_entries earlier (split_after no_entries earlier (v ∷ later) are).0 is.0 x there)))

  later_stay : filter stays (entries_in later) ≡ entries_in later
  later_stay =
      filter_all stays (entries_in later) (all_from _ (entries_in later) (λ x there.
      other_stays x (not_later user number v later (split_after no_entries earlier (v ∷ later) are).1.1 is.1 x there)))

  entries_without : entries_in (earlier ++ without ∷ later) ≡ filter stays (entries_in (earlier ++ v ∷ later))
  entries_without =
      flat_map-append (λ (w : Entries). w.entries) earlier (without ∷ later)
      ∙ ap₂ (λ xs ys. xs ++ (filter stays v.entries ++ ys)) (sym earlier_stay) (sym later_stay)
      ∙ ap (λ xs. filter stays (entries_in earlier) ++ xs) (sym (filter-append stays v.entries (entries_in later)))
      ∙ sym (filter-append stays (entries_in earlier) (entries_in (v ∷ later)))
      ∙ ap (filter stays) (sym (flat_map-append (λ (w : Entries). w.entries) earlier (v ∷ later)))

  same_newest : (w : Entries) (ws : List Entries) → ((newest_after (without_entry user number w) ws).programs ≡ (newest_after w ws).programs) × ((newest_after (without_entry user number w) ws).lasts ≡ (newest_after w ws).lasts)
  same_newest w [] = (refl, refl)
  same_newest w (x ∷ ws) = (refl, refl)

  removed_whole : whole (earlier ++ without ∷ later) ≡ without_entry user number (whole (earlier ++ v ∷ later))
  removed_whole =
      let programs = ap (λ (e : Entries). e.programs) (newest_join no_entries earlier (without ∷ later)) ∙ (same_newest v later).0 ∙ ap (λ (e : Entries). e.programs) (sym (newest_join no_entries earlier (v ∷ later))) in
      let lasts = ap (λ (e : Entries). e.lasts) (newest_join no_entries earlier (without ∷ later)) ∙ (same_newest v later).1 ∙ ap (λ (e : Entries). e.lasts) (sym (newest_join no_entries earlier (v ∷ later))) in
      λ i. record { entries = entries_without i; programs = programs i; lasts = lasts i }

removed_after : (n v : Entries) (user : List ℕ) (number : ℕ) → ComesAfter n v → ComesAfter n (without_entry user number v)
removed_after n v user number comes = record {
  lasts = comes.lasts;
  numbers = all_from _ (filter (λ x. not (is_at user number x)) v.entries) (λ x there. all_has _ v.entries x comes.numbers (has_filtered (λ x. not (is_at user number x)) v.entries x there).0);
}

-- ---- a delivery

numbers_between : (user : List ℕ) (low high number : ℕ) (drafts : List Draft) → low < number → number + length drafts ≤ high + 1
    → AllByRecursion (λ (x : Entry). (x.user ≡ user) × (low < x.number) × (x.number ≤ high)) (numbered user number drafts)
numbers_between user low high number [] above within = tt
numbers_between user low high number (draft ∷ drafts) above within =
    ((refl, above, omega (arith, within)), numbers_between user low high (number + 1) drafts (omega (arith, above)) (omega (arith, within)))

module _ (v : Entries) (user : List ℕ) (draft : Draft) (drafts : List Draft) where
  abbrev added : List Entry
  added = numbered user (v.lasts user + 1) (draft ∷ drafts)

  abbrev most : ℕ
  most = v.lasts user + length (draft ∷ drafts)

  own_last : (filed user (draft ∷ drafts) v).lasts user ≡ most
  own_last = ap (λ (b : Bool). cond b most (v.lasts user)) (bytes_same user)

  last_grows : (name : List ℕ) → v.lasts name ≤ (filed user (draft ∷ drafts) v).lasts name
  last_grows name = go (bytes_eq name user) refl
    where
      go : (b : Bool) → bytes_eq name user ≡ b → v.lasts name ≤ cond b most (v.lasts name)
      go true e = omega (arith, ap v.lasts (same_bytes name user e))
      go false e = omega arith

  added_after : (n : Entries) → ComesAfter n v → (x : Entry) → Has added x → (n.lasts x.user < x.number) × (x.number ≤ (filed user (draft ∷ drafts) v).lasts x.user)
  added_after n comes x there =
      let is = all_has _ added x (numbers_between user (v.lasts user) most (v.lasts user + 1) (draft ∷ drafts) (omega arith) (omega arith)) there in
      let last : (filed user (draft ∷ drafts) v).lasts x.user ≡ most = ap (filed user (draft ∷ drafts) v).lasts is.0 ∙ own_last in
      (omega (arith, comes.lasts user, is.1, ap n.lasts is.0), omega (arith, is.2, last))

filed_after : (n v : Entries) (user : List ℕ) (drafts : List Draft) → ComesAfter n v → ComesAfter n (filed user drafts v)
filed_after n v user [] comes = comes
filed_after n v user (draft ∷ drafts) comes = record {
  lasts = λ name. omega (arith, comes.lasts name, last_grows v user draft drafts name);
  numbers = all_from _ (v.entries ++ added v user draft drafts) (λ x there. elim (has_either v.entries (added v user draft drafts) x there) [
    | inl old ↦ let was = all_has _ v.entries x comes.numbers old in (was.0, omega (arith, was.1, last_grows v user draft drafts x.user))
    | inr new ↦ added_after v user draft drafts n comes x new
  ]);
}

-- ---- each command

pub accepts_whole : (before after : List Entries) (command : Command) (reply : Reply) → AreVolumes before → AcceptOnVolumes before command reply after → Accepts (whole before) command reply (whole after)
accepts_whole before after (SetScript user script) reply are done =
    let step = done.accepts.step in
    newest_accepts before after (SetScript user script) reply done done.on
    (record { named = done.accepts.named; step = (step.0, step.1, step.2, ap (older_and done.earlier) step.3) })
accepts_whole before after (SetCode user program) reply are done =
    let step = done.accepts.step in
    newest_accepts before after (SetCode user program) reply done done.on
    (record { named = done.accepts.named; step = (step.0, step.1, step.2, ap (older_and done.earlier) step.3) })
accepts_whole before after (Deliver user message) reply are done =
    let step = done.accepts.step in
    newest_accepts before after (Deliver user message) reply done done.on (record {
      named = done.accepts.named;
      step = record {
        readable = step.readable;
        actions = step.actions;
        are = step.are;
        room = step.room;
        listed = step.listed;
        filed = ap (older_and done.earlier) step.filed ∙ filed_older done.earlier user _ done.old;
      };
    })
accepts_whole before after (ListAll user) reply are done =
    record { named = done.0; step = (done.1 ∙ ap Listed (sym (user_listings user before)), ap whole done.2) }
accepts_whole before after (ListSince user number) reply are done =
    record { named = done.0; step = (done.1 ∙ ap Listed (sym (since_listings user number before)), ap whole done.2) }
accepts_whole before after (Catalog user number) reply are done =
    record {
      named = done.0;
      step = (done.1 ∙ ap (λ (xs : List Entry). Text (catalog number (map filed_of xs))) (sym (user_entries user before)), ap whole done.2);
    }
accepts_whole before after (ProgramOf user) reply are done =
    let step = done.accepts.step in
    newest_accepts before after (ProgramOf user) reply done done.on (record { named = done.accepts.named; step = (step.0, ap (older_and done.earlier) step.1) })
accepts_whole before after (Export user number encoding) reply are done =
    let step = done.accepts.step in
    let same = done.are ∙ ap (λ v. done.earlier ++ v ∷ done.later) step.3 ∙ sym done.were in
    let there = subst (λ vs. Has (entries_in vs) step.0) (sym done.were) (held_whole done.earlier done.old done.later step.0 step.1.0) in
    record { named = done.accepts.named; step = (step.0, (there, step.1.1, step.1.2), step.2, ap whole same) }
accepts_whole before after (Remove user number) reply are done =
    let step = done.accepts.step in
    let there = subst (λ vs. Has (entries_in vs) step.0) (sym done.were) (held_whole done.earlier done.old done.later step.0 step.1.0) in
    let left = ap whole (done.are ∙ ap (λ v. done.earlier ++ v ∷ done.later) step.3)
    ∙ removed_whole done.earlier done.old done.later user number (subst AreVolumes done.were are) done.on
    ∙ ap (λ vs. without_entry user number (whole vs)) (sym done.were) in
    record { named = done.accepts.named; step = (step.0, (there, step.1.1, step.1.2), step.2, left) }
accepts_whole before after Migrate reply are done =
    let step = done.accepts.step in
    newest_accepts before after Migrate reply done done.on (record {
      named = done.accepts.named;
      step = record {
        stored = step.stored;
        are = record { each = step.are.each; all = step.are.all; rising = step.are.rising };
        codes = step.codes;
        checked = step.checked;
        counted = step.counted;
        renewed = step.renewed;
        entries = ap (λ xs. entries_in done.earlier ++ xs) step.entries;
        lasts = step.lasts;
      };
    })

pub volumes_after : (before after : List Entries) (command : Command) (reply : Reply) → AreVolumes before → AcceptOnVolumes before command reply after → AreVolumes after
volumes_after before after (SetScript user script) reply are done =
    kept_after before after (SetScript user script) reply done are (ap (λ (e : Entries). e.entries) done.accepts.step.3) (ap (λ (e : Entries). e.lasts) done.accepts.step.3)
volumes_after before after (SetCode user program) reply are done =
    kept_after before after (SetCode user program) reply done are (ap (λ (e : Entries). e.entries) done.accepts.step.3) (ap (λ (e : Entries). e.lasts) done.accepts.step.3)
volumes_after before after (Deliver user message) reply are done =
    changed_after before after (Deliver user message) reply done are
    (λ n comes. subst (ComesAfter n) (sym done.accepts.step.filed) (filed_after n done.old user _ comes))
    (λ come. subst (ComeAfter done.new) (sym done.on) tt)
volumes_after before after (ListAll user) reply are done = subst AreVolumes (sym done.2) are
volumes_after before after (ListSince user number) reply are done = subst AreVolumes (sym done.2) are
volumes_after before after (Catalog user number) reply are done = subst AreVolumes (sym done.2) are
volumes_after before after (ProgramOf user) reply are done =
    kept_after before after (ProgramOf user) reply done are (ap (λ (e : Entries). e.entries) done.accepts.step.1) (ap (λ (e : Entries). e.lasts) done.accepts.step.1)
volumes_after before after (Export user number encoding) reply are done =
    kept_after before after (Export user number encoding) reply done are (ap (λ (e : Entries). e.entries) done.accepts.step.3) (ap (λ (e : Entries). e.lasts) done.accepts.step.3)
volumes_after before after (Remove user number) reply are done =
    changed_after before after (Remove user number) reply done are
    (λ n comes. subst (ComesAfter n) (sym done.accepts.step.3) (removed_after n done.old user number comes))
    (same_before done.old done.new done.later (ap (λ (e : Entries). e.lasts) done.accepts.step.3))
volumes_after before after Migrate reply are done = kept_after before after Migrate reply done are done.accepts.step.entries done.accepts.step.lasts

-- ---- a refused command

pub none_named : (earlier : List Entries) (v : Entries) (later : List Entries) (command : Command) → AreVolumes (earlier ++ v ∷ later) → IsDoneOn command earlier v later → NamesNone v command → NamesNone (whole (earlier ++ v ∷ later)) command
none_named earlier v later (Export user number encoding) are on none = none_whole earlier v later user number are on none
none_named earlier v later (Remove user number) are on none = none_whole earlier v later user number are on none
none_named earlier v later _ are on none = none

-- the current volume has the programs and last numbers of all
newest_whole : (earlier : List Entries) (v : Entries) (later : List Entries) → later ≡ [] → older_and earlier v ≡ whole (earlier ++ v ∷ later)
newest_whole earlier v later none = sym (ap (λ ws. whole (earlier ++ v ∷ ws)) none ∙ whole_at earlier v)

pub whole_full : (earlier : List Entries) (v : Entries) (later : List Entries) (command : Command) → IsDoneOn command earlier v later → IsFull v command → IsFull (whole (earlier ++ v ∷ later)) command
whole_full earlier v later (Deliver user message) on full = subst (λ e. IsFull e (Deliver user message)) (newest_whole earlier v later on) full
whole_full earlier v later _ on full = full

pub whole_collides : (trees : Trees) (earlier : List Entries) (v : Entries) (later : List Entries) (command : Command) → IsDoneOn command earlier v later → IsColliding trees v command → IsColliding trees (whole (earlier ++ v ∷ later)) command
whole_collides trees earlier v later (Deliver user message) on full = subst (λ e. IsColliding trees e (Deliver user message)) (newest_whole earlier v later on) full
whole_collides trees earlier v later _ on full = full

pub whole_hindered : (trees : Trees) (earlier : List Entries) (v : Entries) (later : List Entries) (command : Command) → IsDoneOn command earlier v later → IsHindered command v trees → IsHindered command (whole (earlier ++ v ∷ later)) trees
whole_hindered trees earlier v later (SetScript user script) on hindered = subst (λ e. IsHindered (SetScript user script) e trees) (newest_whole earlier v later on) hindered
whole_hindered trees earlier v later (SetCode user program) on hindered = subst (λ e. IsHindered (SetCode user program) e trees) (newest_whole earlier v later on) hindered
whole_hindered trees earlier v later (Deliver user message) on hindered = subst (λ e. IsHindered (Deliver user message) e trees) (newest_whole earlier v later on) hindered
whole_hindered trees earlier v later Migrate on hindered = subst (λ e. IsHindered Migrate e trees) (newest_whole earlier v later on) (older hindered)
  where
    older : IsHindered Migrate v trees → IsHindered Migrate (older_and earlier v) trees
    older (inl spoilt) = inl spoilt
    older (inr (stored, renewed, are, renewals, full)) = inr (stored, renewed, record { each = are.each; all = are.all; rising = are.rising }, renewals, full)
whole_hindered trees earlier v later (Catalog user number) on hindered = absurd on
whole_hindered trees earlier v later _ on hindered = hindered

-- ---- one after another

answered : (command : Command) (reply : Option Reply) (before after : List Entries) → AreVolumes before → IsAnswered command reply before after → IsStep command reply (whole before) (whole after) × AreVolumes after
answered command None before after are same = (ap whole same, subst AreVolumes (sym same) are)
answered command (Some reply) before after are done = (accepts_whole before after command reply are done, volumes_after before after command reply are done)

pub events_are_steps : (events : List Event) (before after : List Entries) → AreVolumes before → MakeAll events before after → AreSteps (calls_in events) (whole before) (whole after) × AreVolumes after
events_are_steps [] before after are same = (ap whole same, subst AreVolumes (sym same) are)
events_are_steps (Called call ∷ events) before after are (mid, makes, others) =
    let one = answered call.command call.reply before mid are makes in
    let more = events_are_steps events mid after one.1 others in
    ((whole mid, one.0, more.0), more.1)
events_are_steps (Began ∷ events) before after are (mid, makes, others) =
    let more = events_are_steps events mid after (subst AreVolumes (sym makes) (begins_after before are)) others in
    (subst (λ e. AreSteps (calls_in events) e (whole after)) (ap whole makes ∙ begins_whole before) more.0, more.1)
