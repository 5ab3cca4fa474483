-- What volumes hold together: a volume is begun, the oldest are removed, and where an entry's number is.
use Rattle.std.proofs.Common.{◌≡◌, ℕ, ◌<◌, ◌≤◌, Bool, true, List, [], ◌∷◌, ◌++◌, filter, flat_map, map, nat_lt, bytes_eq, append-nil, refl, sym, ap, ◌∙◌, inl, inr, arith}
use Rattle.std.specs.List.{AllByRecursion}
use Rattle.std.proofs.lemmas.Bool.{le-ltb, lt-ltb}
use Rattle.std.proofs.lemmas.Grind.{flat_map-append}
use Rattle.std.proofs.lemmas.List.{map-append}
use Rattle.std.proofs.lemmas.List.Elements.{filter-append}
use Rattle.std.proofs.lemmas.Slice.Eq.{bytes_eq-Decides}
use Rattle.octets.specs.Limits.{max_entry_number}
use Rattle.sqlite_rules.specs.Lists.{Has}
use Rattle.sqlite_rules.proofs.ListLemmas.{all_from, all_has, has_either, has_filtered}
use Rattle.sqlite_trees.specs.Tree.{IsAscending}
use Rattle.sqlite_trees.proofs.ListLemmas.{filter_all, filter_none}
use Rattle.part_store.specs.Entries.{Entries, Entry, entries_of, entries_since, listing_of, no_entries}
use Rattle.part_store.specs.Standing.{HasNone, IsNumbered}
use Rattle.volumes.specs.Volumes.{AreVolumes, ComeAfter, ComesAfter, begun, current, newest_after, whole, without_up_to}

pub same_bytes : (m n : List ℕ) → bytes_eq m n ≡ true → m ≡ n
same_bytes m n h = (bytes_eq-Decides m n).0 h

pub bytes_same : (m : List ℕ) → bytes_eq m m ≡ true
bytes_same m = (bytes_eq-Decides m m).1 refl

-- ---- the newest

pub newest_join : (v : Entries) (vs ws : List Entries) → newest_after v (vs ++ ws) ≡ newest_after (newest_after v vs) ws
newest_join v [] ws = refl
newest_join v (x ∷ vs) ws = newest_join x vs ws

-- the whole of volumes of which the last one is given
abbrev pub older_and : List Entries → Entries → Entries
older_and earlier v = record v { entries = flat_map (λ (w : Entries). w.entries) earlier ++ v.entries }

pub whole_at : (earlier : List Entries) (v : Entries) → whole (earlier ++ v ∷ []) ≡ older_and earlier v
whole_at earlier v = λ i. record {
  entries = (flat_map-append (λ (w : Entries). w.entries) earlier (v ∷ []) ∙ ap (λ xs. flat_map (λ (w : Entries). w.entries) earlier ++ xs) (append-nil v.entries)) i;
  programs = (newest_join no_entries earlier (v ∷ []) i).programs;
  lasts = (newest_join no_entries earlier (v ∷ []) i).lasts;
}

-- ---- volumes one after another

pub join_after : (v : Entries) (vs ws : List Entries) → ComeAfter v vs → ComeAfter (newest_after v vs) ws → ComeAfter v (vs ++ ws)
join_after v [] ws one other = other
join_after v (x ∷ vs) ws one other = (one.0, join_after x vs ws one.1 other)

pub split_after : (v : Entries) (vs ws : List Entries) → ComeAfter v (vs ++ ws) → ComeAfter v vs × ComeAfter (newest_after v vs) ws
split_after v [] ws come = (tt, come)
split_after v (x ∷ vs) ws come = let parts = split_after x vs ws come.1 in ((come.0, parts.0), parts.1)

pub lasts_grow : (v : Entries) (vs : List Entries) → ComeAfter v vs → (user : List ℕ) → v.lasts user ≤ (newest_after v vs).lasts user
lasts_grow v [] come user = omega arith
lasts_grow v (x ∷ vs) come user = omega (arith, come.0.lasts user, lasts_grow x vs come.1 user)

-- each entry has a number above the last one before them, and at most that in the newest
pub above_before : (v : Entries) (vs : List Entries) → ComeAfter v vs → (x : Entry) → Has (flat_map (λ (w : Entries). w.entries) vs) x → v.lasts x.user < x.number
above_before v [] come x there = absurd there
above_before v (w ∷ vs) come x there = elim (has_either w.entries (flat_map (λ (w : Entries). w.entries) vs) x there) [
  | inl here ↦ (all_has _ w.entries x come.0.numbers here).0
  | inr later ↦ omega (arith, come.0.lasts x.user, above_before w vs come.1 x later)
]

pub within_newest : (v : Entries) (vs : List Entries) → ComeAfter v vs → (x : Entry) → Has (flat_map (λ (w : Entries). w.entries) vs) x → x.number ≤ (newest_after v vs).lasts x.user
within_newest v [] come x there = absurd there
within_newest v (w ∷ vs) come x there = elim (has_either w.entries (flat_map (λ (w : Entries). w.entries) vs) x there) [
  | inl here ↦ omega (arith, (all_has _ w.entries x come.0.numbers here).1, lasts_grow w vs come.1 x.user)
  | inr later ↦ within_newest w vs come.1 x later
]

-- ---- a volume begins

pub begun_after : (v : Entries) → ComesAfter v (begun v)
begun_after v = record { lasts = λ user. omega arith; numbers = tt }

pub begins_whole : (vs : List Entries) → whole (vs ++ begun (current vs) ∷ []) ≡ whole vs
begins_whole vs = whole_at vs (begun (current vs)) ∙ λ i. record {
  entries = append-nil (flat_map (λ (w : Entries). w.entries) vs) i;
  programs = (current vs).programs;
  lasts = (current vs).lasts;
}

pub begins_after : (vs : List Entries) → AreVolumes vs → AreVolumes (vs ++ begun (current vs) ∷ [])
begins_after vs are = join_after no_entries vs (begun (current vs) ∷ []) are (begun_after (current vs), tt)

-- ---- the oldest are removed

pub weaker_all : {X : Type 0} (P Q : X → Type 0) → ((x : X) → P x → Q x) → (xs : List X) → AllByRecursion P xs → AllByRecursion Q xs
weaker_all P Q turn [] all = tt
weaker_all P Q turn (x ∷ xs) all = (turn x all.0, weaker_all P Q turn xs all.1)

after_none : (v : Entries) (vs : List Entries) → ComeAfter v vs → AreVolumes vs
after_none v [] come = tt
after_none v (w ∷ vs) come = (
  record {
    lasts = λ user. omega arith;
    numbers = weaker_all _ _ (λ (x : Entry) h. (omega (arith, h.0), h.1)) w.entries come.0.numbers;
  },
  come.1,
)

pub rest_after : (oldest vs : List Entries) → AreVolumes (oldest ++ vs) → AreVolumes vs
rest_after oldest vs are = after_none (current oldest) vs (split_after no_entries oldest vs are).1

module _ (oldest : List Entries) (v : Entries) (vs : List Entries) (are : AreVolumes (oldest ++ v ∷ vs)) where
  abbrev left : Entry → Bool
  left x = nat_lt ((current oldest).lasts x.user) x.number

  abbrev gone : List Entry
  gone = flat_map (λ (w : Entries). w.entries) oldest

  abbrev kept : List Entry
  kept = flat_map (λ (w : Entries). w.entries) (v ∷ vs)

  none_gone : filter left gone ≡ []
  none_gone =
      filter_none left gone (all_from _ gone (λ x there.
      le-ltb ((current oldest).lasts x.user) x.number (within_newest no_entries oldest (split_after no_entries oldest (v ∷ vs) are).0 x there)))

  all_kept : filter left kept ≡ kept
  all_kept =
      filter_all left kept (all_from _ kept (λ x there.
      lt-ltb ((current oldest).lasts x.user) x.number (above_before (current oldest) (v ∷ vs) (split_after no_entries oldest (v ∷ vs) are).1 x there)))

  entries_left : filter left (flat_map (λ (w : Entries). w.entries) (oldest ++ v ∷ vs)) ≡ kept
  entries_left =
      ap (filter left) (flat_map-append (λ (w : Entries). w.entries) oldest (v ∷ vs))
      ∙ filter-append left gone kept
      ∙ ap (λ xs. xs ++ filter left kept) none_gone
      ∙ all_kept

  pub rest_whole : whole (v ∷ vs) ≡ without_up_to (current oldest).lasts (whole (oldest ++ v ∷ vs))
  rest_whole = λ i. record {
    entries = sym entries_left i;
    programs = (sym (newest_join no_entries oldest (v ∷ vs)) i).programs;
    lasts = (sym (newest_join no_entries oldest (v ∷ vs)) i).lasts;
  }

-- ---- the numbers

grow_apart : (w : Entries) (vs : List Entries) → ComeAfter w vs → (x y : Entry) → x.number ≤ w.lasts x.user → Has (flat_map (λ (v : Entries). v.entries) vs) y → x.user ≡ y.user → x.number < y.number
grow_apart w vs come x y low there same = omega (arith, low, above_before w vs come y there, ap w.lasts same)

joined_rise : (R : Entry → Entry → Type 0) (xs ys : List Entry) → IsAscending R xs → IsAscending R ys → ((x y : Entry) → Has xs x → Has ys y → R x y) → IsAscending R (xs ++ ys)
joined_rise R [] ys one other across = other
joined_rise R (x ∷ xs) ys one other across = (
  all_from (R x) (xs ++ ys) (λ y there. elim (has_either xs ys y there) [
    | inl here ↦ all_has (R x) xs y one.0 here
    | inr later ↦ across x y (inl refl) later
  ]),
  joined_rise R xs ys one.1 other (λ z y here there. across z y (inr here) there),
)

entries_rise : (v : Entries) (vs : List Entries) → ComeAfter v vs → AllByRecursion IsNumbered vs → IsAscending (λ x y. x.user ≡ y.user → x.number < y.number) (flat_map (λ (w : Entries). w.entries) vs)
entries_rise v [] come all = tt
entries_rise v (w ∷ vs) come all =
    joined_rise _ w.entries (flat_map (λ (u : Entries). u.entries) vs) all.0.rising (entries_rise w vs come.1 all.1)
    (λ x y here there. grow_apart w vs come.1 x y (all_has _ w.entries x come.0.numbers here).1 there)

newest_limited : (v : Entries) (vs : List Entries) → ((user : List ℕ) → v.lasts user ≤ max_entry_number) → AllByRecursion IsNumbered vs → (user : List ℕ) → (newest_after v vs).lasts user ≤ max_entry_number
newest_limited v [] small all = small
newest_limited v (w ∷ vs) small all = newest_limited w vs all.0.limit all.1

pub whole_numbered : (vs : List Entries) → AreVolumes vs → AllByRecursion IsNumbered vs → IsNumbered (whole vs)
whole_numbered vs are all = record {
  limit = newest_limited no_entries vs (λ user. omega arith) all;
  given = all_from _ (flat_map (λ (w : Entries). w.entries) vs) (λ x there. (omega (arith, above_before no_entries vs are x there), within_newest no_entries vs are x there));
  rising = entries_rise no_entries vs are all;
}

-- ---- a user's entries

pub user_entries : (user : List ℕ) (vs : List Entries) → filter (λ (x : Entry). bytes_eq x.user user) (flat_map (λ (w : Entries). w.entries) vs) ≡ flat_map (entries_of user) vs
user_entries user [] = refl
user_entries user (v ∷ vs) =
    filter-append (λ (x : Entry). bytes_eq x.user user) v.entries (flat_map (λ (w : Entries). w.entries) vs)
    ∙ ap (λ xs. entries_of user v ++ xs) (user_entries user vs)

pub listed_each : (entries : Entries → List Entry) (vs : List Entries) → map listing_of (flat_map entries vs) ≡ flat_map (λ v. map listing_of (entries v)) vs
listed_each entries [] = refl
listed_each entries (v ∷ vs) = map-append listing_of (entries v) (flat_map entries vs) ∙ ap (λ xs. map listing_of (entries v) ++ xs) (listed_each entries vs)

pub user_listings : (user : List ℕ) (vs : List Entries) → map listing_of (entries_of user (whole vs)) ≡ flat_map (λ v. map listing_of (entries_of user v)) vs
user_listings user vs = ap (map listing_of) (user_entries user vs) ∙ listed_each (entries_of user) vs

-- ---- which volume has a number

-- an entry of this number isn't in earlier volumes, whose last numbers are smaller
pub not_earlier : (user : List ℕ) (number : ℕ) (v : Entries) (vs : List Entries) → ComeAfter v vs → AllByRecursion (λ w. w.lasts user < number) vs → (x : Entry) → Has (flat_map (λ (w : Entries). w.entries) vs) x → x.user ≡ user → x.number ≡ number → ⊥
not_earlier user number v [] come small x there named numbered = absurd there
not_earlier user number v (w ∷ vs) come small x there named numbered = elim (has_either w.entries (flat_map (λ (u : Entries). u.entries) vs) x there) [
  | inl here ↦ absurd (omega (arith, (all_has _ w.entries x come.0.numbers here).1, ap w.lasts named, small.0, numbered))
  | inr later ↦ not_earlier user number w vs come.1 small.1 x later named numbered
]

-- nor in later ones, if the last number before them is at least this
pub not_later : (user : List ℕ) (number : ℕ) (v : Entries) (vs : List Entries) → ComeAfter v vs → number ≤ v.lasts user → (x : Entry) → Has (flat_map (λ (w : Entries). w.entries) vs) x → x.user ≡ user → x.number ≡ number → ⊥
not_later user number v vs come enough x there named numbered = omega (arith, above_before v vs come x there, ap v.lasts named, enough, numbered)

-- no volume has a number above the last one
pub none_beyond : (user : List ℕ) (number : ℕ) (vs : List Entries) → AreVolumes vs → (whole vs).lasts user < number → HasNone (whole vs) user number
none_beyond user number vs are small x at =
    omega (arith, within_newest no_entries vs are x at.0, ap (current vs).lasts at.1, at.2, small)

-- ---- entries above a number

-- volumes whose last numbers aren't above it have none
none_since : (user : List ℕ) (number : ℕ) (v : Entries) (vs : List Entries) → ComeAfter v vs → AllByRecursion (λ w. w.lasts user ≤ number) vs → flat_map (entries_since user number) vs ≡ []
none_since user number v [] come small = refl
none_since user number v (w ∷ vs) come small =
    ap (λ xs. xs ++ flat_map (entries_since user number) vs)
    (filter_none (λ (x : Entry). nat_lt number x.number) (entries_of user w) (all_from _ (entries_of user w) (λ x there.
    let his = has_filtered (λ (x : Entry). bytes_eq x.user user) w.entries x there in
    le-ltb number x.number (omega (arith, (all_has _ w.entries x come.0.numbers his.0).1, ap w.lasts (same_bytes x.user user his.1), small.0)))))
    ∙ none_since user number w vs come.1 small.1

each_since : (user : List ℕ) (number : ℕ) (vs : List Entries) → filter (λ (x : Entry). nat_lt number x.number) (flat_map (entries_of user) vs) ≡ flat_map (entries_since user number) vs
each_since user number [] = refl
each_since user number (v ∷ vs) =
    filter-append (λ (x : Entry). nat_lt number x.number) (entries_of user v) (flat_map (entries_of user) vs)
    ∙ ap (λ xs. entries_since user number v ++ xs) (each_since user number vs)

pub since_later : (user : List ℕ) (number : ℕ) (earlier later : List Entries) → AreVolumes (earlier ++ later) → AllByRecursion (λ w. w.lasts user ≤ number) earlier
    → entries_since user number (whole (earlier ++ later)) ≡ flat_map (entries_since user number) later
since_later user number earlier later are small =
    ap (filter (λ (x : Entry). nat_lt number x.number)) (user_entries user (earlier ++ later))
    ∙ each_since user number (earlier ++ later)
    ∙ flat_map-append (entries_since user number) earlier later
    ∙ ap (λ xs. xs ++ flat_map (entries_since user number) later) (none_since user number no_entries earlier (split_after no_entries earlier later are).0 small)

pub since_listings : (user : List ℕ) (number : ℕ) (vs : List Entries) → map listing_of (entries_since user number (whole vs)) ≡ flat_map (λ v. map listing_of (entries_since user number v)) vs
since_listings user number vs =
    ap (λ xs. map listing_of (filter (λ (x : Entry). nat_lt number x.number) xs)) (user_entries user vs)
    ∙ ap (map listing_of) (each_since user number vs)
    ∙ listed_each (entries_since user number) vs
