-- Entries with a digest at their places, and the first part that has it.
use Rattle.std.proofs.Common.{◌≡◌, ◌<◌, ◌≤◌, ◌+◌, ◌==◌, ◌&&◌, ◌||◌, ℕ, zero, suc, List, [], ◌∷◌, ◌++◌, Bool, true, false, true≢false, if◌then◌else◌, Option, Some, None, bytes_eq, cond, fold, get_or, length, take, is_none, nat_cmp, nat_lt, not, option_map, refl, sym, ap, ◌∙◌, arith}
use Rattle.std.specs.BTreeMap.{is_at}
use Rattle.std.specs.List.{position, position_or_len, slice_get}
use Rattle.std.specs.Option.{option_and_then, option_map_or}
use Rattle.std.proofs.lemmas.Bool.Decides.{nat_tests}
use Rattle.std.proofs.lemmas.Cmp.{nat_list_eq_equiv}
use Rattle.std.proofs.lemmas.List.{append-nil, length-append, length-take-le, take_more}
use Rattle.std.proofs.lemmas.List.Folds.{position_or_len_push}
use Rattle.std.proofs.lemmas.List.Sums.{fold-append, prefix_len-le-length}
use Rattle.std.proofs.lemmas.Option.{none-some, same_Some}
use Rattle.std.proofs.lemmas.Slice.Eq.{bytes_eq-Decides}
use Rattle.catalog.specs.Adding.{at_slots, first_with, is_new, with_slots}
use Rattle.catalog.specs.Index.{is_stored, slots_from}
use Rattle.catalog.specs.Stored.{place_of, stored_place}
use Rattle.catalog.specs.declared.entry.PartEntry.{PartEntry}
use Rattle.catalog.specs.declared.entry.Place.{Place}
use Rattle.catalog.specs.declared.index.Slot.{Slot}

-- ---- the first place of a digest, with one more digest at the end

by_places : (b : Bool) (m n l k : ℕ) → m ≡ cond (n == l) (l + cond b 0 1) n → k ≡ l + 1 → n ≤ l
    → cond (nat_lt m k) (Some m) None ≡ (if b then (if is_none (cond (nat_lt n l) (Some n) None) then Some l else cond (nat_lt n l) (Some n) None) else cond (nat_lt n l) (Some n) None)
by_places b m n l k more long le = grind (arith, nat_tests)

first_place : (p : List ℕ → Bool) (ds : List (List ℕ)) (d : List ℕ)
    → position p (ds ++ d ∷ []) ≡ (if p d then (if is_none (position p ds) then Some (length ds) else position p ds) else position p ds)
first_place p ds d =
    by_places (p d) (position_or_len p (ds ++ d ∷ [])) (position_or_len p ds) (length ds) (length (ds ++ d ∷ [])) (position_or_len_push p ds d) (length-append ds (d ∷ []))
    (prefix_len-le-length (λ x. not (p x)) ds)

-- ---- entries at their places

abbrev one_slot : ℕ → ℕ → Option Place → Slot → Option Place
one_slot part at found slot = if slot.at == at then Some (record { number = slot.number; part = part }) else found

abbrev at_entry : ℕ → List ℕ → Option Place → Option PartEntry → Option Place
at_entry part digest found None = found
at_entry part digest found (Some entry) = if bytes_eq entry.digest digest then Some (record { number = entry.number; part = part }) else found

passed : (part q at : ℕ) (digest : List ℕ) (entries : List PartEntry) (known : Option Place) → q < at
    → fold (one_slot part q) known (slots_from at digest entries) ≡ known
passed part q at digest [] known lt = refl
passed part q at digest (entry ∷ entries) known lt =
    let later = passed part q (at + 1) digest entries known (omega (arith, lt)) in
    grind (arith, nat_tests, later, lt)

placed : (part q at j : ℕ) (digest : List ℕ) (entries : List PartEntry) (known : Option Place) → q ≡ at + j
    → fold (one_slot part q) known (slots_from at digest entries) ≡ at_entry part digest known (slice_get entries j)
placed part q at j digest [] known is = refl
placed part q at zero digest (entry ∷ entries) known is =
    let here = passed part q (at + 1) digest entries (Some (record { number = entry.number; part = part })) (omega (arith, is)) in
    let past = passed part q (at + 1) digest entries known (omega (arith, is)) in
    grind (arith, nat_tests, here, past, is)
placed part q at (suc j) digest (entry ∷ entries) known is =
    let later = placed part q (at + 1) j digest entries known (omega (arith, is)) in
    grind (arith, nat_tests, later, is)

placed_first : (part q : ℕ) (digest : List ℕ) (entries : List PartEntry) (known : ℕ → Option Place)
    → at_slots part (slots_from 0 digest entries) known q ≡ at_entry part digest (known q) (slice_get entries q)
placed_first part q digest entries known = placed part q 0 q digest entries (known q) (omega arith)

-- ---- one more entry

pub one_more_slot : (at : ℕ) (digest : List ℕ) (entries : List PartEntry) (entry : PartEntry)
    → slots_from at digest (entries ++ entry ∷ [])
    ≡ slots_from at digest entries ++ (if bytes_eq entry.digest digest then record { number = entry.number; at = at + length entries } ∷ [] else [])
one_more_slot at digest [] entry = grind arith
one_more_slot at digest (first ∷ entries) entry =
    let later = one_more_slot (at + 1) digest entries entry in
    let number : at + 1 + length entries ≡ at + length (first ∷ entries) = omega arith in
    grind (arith, later, number)

-- ---- whether a digest is new

or_true : (b c : Bool) → c ≡ true → (b || c) ≡ true
or_true true c is = refl
or_true false c is = is

stored_at : (entries : List PartEntry) (j : ℕ) (entry : PartEntry) → slice_get entries j ≡ Some entry → is_stored entries entry.digest ≡ true
stored_at [] j entry is = absurd (none-some entry is)
stored_at (first ∷ entries) zero entry is =
    rw (same_Some first entry is) (ap (λ b. b || is_stored entries entry.digest) ((bytes_eq-Decides entry.digest entry.digest).1 refl))
stored_at (first ∷ entries) (suc j) entry is =
    or_true (bytes_eq first.digest entry.digest) (is_stored entries entry.digest) (stored_at entries j entry is)

new_from : (known : ℕ → Option Place) (digest : List ℕ) (place : Option ℕ) (entries : List PartEntry) (at : ℕ)
    → ((j q : ℕ) (entry : PartEntry) → q ≡ at + j → slice_get entries j ≡ Some entry → bytes_eq entry.digest digest ≡ true → is_none (known q) ≡ is_none place)
    → is_new known (slots_from at digest entries) ≡ (is_stored entries digest && is_none place)
new_from known digest place [] at at_each = refl
new_from known digest place (entry ∷ entries) at at_each =
    let here = at_each 0 at entry (omega arith) refl in
    let later = new_from known digest place entries (at + 1) (λ j q e is found same. at_each (suc j) q e (omega (arith, is)) found same) in
    grind (arith, here, later)

missing_too : (G : ℕ → Place) (o : Option ℕ) → is_none (option_map G o) ≡ is_none o
missing_too G None = refl
missing_too G (Some k) = refl

same_missing : (ds : List (List ℕ)) (digest : List ℕ) (entry : PartEntry) → entry.digest ≡ digest
    → is_none (stored_place ds entry) ≡ is_none (place_of ds digest)
same_missing ds digest entry same = missing_too (λ part. record { number = entry.number; part = part }) (place_of ds entry.digest) ∙ ap (λ d. is_none (place_of ds d)) same

pub new_digest : (ds : List (List ℕ)) (digest : List ℕ) (entries : List PartEntry) (known : ℕ → Option Place)
    → ((q : ℕ) → known q ≡ option_and_then (stored_place ds) (slice_get entries q))
    → is_new known (slots_from 0 digest entries) ≡ (is_stored entries digest && is_none (place_of ds digest))
new_digest ds digest entries known so_far =
    new_from known digest (place_of ds digest) entries 0
    (λ j q entry is found same. ap is_none (so_far q ∙ ap (λ k. option_and_then (stored_place ds) (slice_get entries k)) (omega (arith, is)) ∙ ap (option_and_then (stored_place ds)) found)
    ∙ same_missing ds digest entry ((bytes_eq-Decides entry.digest digest).0 same))

-- ---- one more part

same_either : {X : Type 0} (b : Bool) (x : X) → (if b then x else x) ≡ x
same_either true x = refl
same_either false x = refl

-- what follows if a digest is that of the new part: it is stored, and has the same place before
abbrev IsSame : Bool → Bool → Option ℕ → Option ℕ → Type 0
IsSame b s p o = b ≡ true → (s ≡ true) × (p ≡ o)

joined : (G : ℕ → List Place) (n : ℕ) (old : List Place) (s b : Bool) (p o : Option ℕ) → IsSame b s p o
    → (old ++ option_map_or G o []) ++ (if s && is_none p then (if b then G n else []) else [])
    ≡ old ++ option_map_or G (if b then (if is_none o then Some n else o) else o) []
joined G n old s false p o same = ap (λ l. (old ++ option_map_or G o []) ++ l) (same_either (s && is_none p) []) ∙ append-nil _
joined G n old false true p o same = absurd (true≢false (sym (same refl).0))
joined G n old true true None None same = ap (λ l. l ++ G n) (append-nil old)
joined G n old true true None (Some k) same = absurd (none-some k (same refl).1)
joined G n old true true (Some k) None same = absurd (none-some k (sym (same refl).1))
joined G n old true true (Some j) (Some k) same = append-nil _

picked : (G : ℕ → Place) (n : ℕ) (s b : Bool) (p o : Option ℕ) → IsSame b s p o
    → (if s && is_none p then (if b then Some (G n) else option_map G o) else option_map G o)
    ≡ option_map G (if b then (if is_none o then Some n else o) else o)
picked G n s false p o same = same_either (s && is_none p) (option_map G o)
picked G n false true p o same = absurd (true≢false (sym (same refl).0))
picked G n true true None None same = refl
picked G n true true None (Some k) same = absurd (none-some k (same refl).1)
picked G n true true (Some k) None same = absurd (none-some k (sym (same refl).1))
picked G n true true (Some j) (Some k) same = refl

same_parts : (ds : List (List ℕ)) (digest other : List ℕ) (entries : List PartEntry) → is_stored entries other ≡ true
    → IsSame (bytes_eq digest other) (is_stored entries digest) (place_of ds digest) (place_of ds other)
same_parts ds digest other entries stored hit =
    let same : digest ≡ other = (bytes_eq-Decides digest other).0 hit in
    (ap (is_stored entries) same ∙ stored, ap (place_of ds) same)

pub next_messages : (number : ℕ) (ds : List (List ℕ)) (digest other : List ℕ) (entries : List PartEntry) (old : List Place) → is_stored entries other ≡ true
    → (old ++ first_with number ds other)
    ++ (if is_stored entries digest && is_none (place_of ds digest) then (if bytes_eq digest other then record { number = number; part = length ds } ∷ [] else []) else [])
    ≡ old ++ first_with number (ds ++ digest ∷ []) other
next_messages number ds digest other entries old stored =
    let G : ℕ → List Place = λ part. record { number = number; part = part } ∷ [] in
    joined G (length ds) old (is_stored entries digest) (bytes_eq digest other) (place_of ds digest) (place_of ds other) (same_parts ds digest other entries stored)
    ∙ sym (ap (λ o. old ++ option_map_or G o []) (first_place (λ d. bytes_eq d other) ds digest))

one_place : (ds : List (List ℕ)) (digest : List ℕ) (entries : List PartEntry) (q : ℕ) (found : Option PartEntry) → slice_get entries q ≡ found
    → (if is_stored entries digest && is_none (place_of ds digest) then at_entry (length ds) digest (option_and_then (stored_place ds) found) found else option_and_then (stored_place ds) found)
    ≡ option_and_then (stored_place (ds ++ digest ∷ [])) found
one_place ds digest entries q None is = same_either (is_stored entries digest && is_none (place_of ds digest)) None
one_place ds digest entries q (Some entry) is =
    let G : ℕ → Place = λ part. record { number = entry.number; part = part } in
    let stored = stored_at entries q entry is in
    rw (nat_list_eq_equiv.symm entry.digest digest)
    (picked G (length ds) (is_stored entries digest) (bytes_eq digest entry.digest) (place_of ds digest) (place_of ds entry.digest) (same_parts ds digest entry.digest entries stored)
    ∙ sym (ap (option_map G) (first_place (λ d. bytes_eq d entry.digest) ds digest)))

pub next_places : (ds : List (List ℕ)) (digest : List ℕ) (entries : List PartEntry) (known : ℕ → Option Place)
    → ((q : ℕ) → known q ≡ option_and_then (stored_place ds) (slice_get entries q))
    → (q : ℕ) → with_slots (length ds) (slots_from 0 digest entries) known q ≡ option_and_then (stored_place (ds ++ digest ∷ [])) (slice_get entries q)
next_places ds digest entries known so_far q =
    rw (new_digest ds digest entries known so_far, placed_first (length ds) q digest entries known, so_far q)
    (one_place ds digest entries q (slice_get entries q) refl)

-- ---- the steps of loops

at_is : {X : Type 0} (k q : ℕ) (x y : X) → cond (is_at (nat_cmp k) q) x y ≡ (if k == q then x else y)
at_is k q x y = grind (arith, nat_tests)

pub next_slot : (part : ℕ) (slots : List Slot) (i : ℕ) (d : Slot) (known : ℕ → Option Place) (at : ℕ) (old new : Option Place) → i < length slots
    → old ≡ at_slots part (take i slots) known at
    → new ≡ cond (is_at (nat_cmp (get_or slots i d).at) at) (Some (record { number = (get_or slots i d).number; part = part })) old
    → new ≡ at_slots part (take (i + 1) slots) known at
next_slot part slots i d known at old new lt so_far put =
    put
    ∙ at_is (get_or slots i d).at at _ old
    ∙ ap (λ found. one_slot part at found (get_or slots i d)) so_far
    ∙ sym (ap (fold (one_slot part at) (known at)) (take_more slots i d lt) ∙ fold-append (one_slot part at) (known at) (take i slots) (get_or slots i d ∷ []))

pub next_slots : (digest : List ℕ) (entries : List PartEntry) (i : ℕ) (d : PartEntry) (old new : List Slot) → i < length entries
    → old ≡ slots_from 0 digest (take i entries)
    → new ≡ old ++ (if bytes_eq (get_or entries i d).digest digest then record { number = (get_or entries i d).number; at = i } ∷ [] else [])
    → new ≡ slots_from 0 digest (take (i + 1) entries)
next_slots digest entries i d old new lt so_far put =
    let entry = get_or entries i d in
    let number : 0 + length (take i entries) ≡ i = omega (arith, length-take-le i entries (omega (arith, lt))) in
    put
    ∙ ap (λ l. l ++ (if bytes_eq entry.digest digest then record { number = entry.number; at = i } ∷ [] else [])) so_far
    ∙ sym (
    ap (slots_from 0 digest) (take_more entries i d lt)
    ∙ one_more_slot 0 digest (take i entries) entry
    ∙ ap (λ n. slots_from 0 digest (take i entries) ++ (if bytes_eq entry.digest digest then record { number = entry.number; at = n } ∷ [] else [])) number
    )

pub part_place : (part : ℕ) (digests : List (List ℕ)) (entries : List PartEntry) (known : ℕ → Option Place) (slots : List Slot) → part < length digests
    → slots ≡ slots_from 0 (get_or digests part []) entries
    → ((q : ℕ) → known q ≡ option_and_then (stored_place (take part digests)) (slice_get entries q))
    → (q : ℕ) → with_slots part slots known q ≡ option_and_then (stored_place (take (part + 1) digests)) (slice_get entries q)
part_place part digests entries known slots lt is so_far q =
    let number : part ≡ length (take part digests) = sym (length-take-le part digests (omega (arith, lt))) in
    ap (λ s. with_slots part s known q) is
    ∙ ap (λ n. with_slots n (slots_from 0 (get_or digests part []) entries) known q) number
    ∙ next_places (take part digests) (get_or digests part []) entries known so_far q
    ∙ ap (λ ds. option_and_then (stored_place ds) (slice_get entries q)) (sym (take_more digests part [] lt))

module _ (number part : ℕ) (digests : List (List ℕ)) (entries : List PartEntry) (known : ℕ → Option Place) (slots : List Slot) (lt : part < length digests)
    (is : slots ≡ slots_from 0 (get_or digests part []) entries)
    (so_far : (q : ℕ) → known q ≡ option_and_then (stored_place (take part digests)) (slice_get entries q))
    (other : List ℕ) (stored : is_stored entries other ≡ true) (old now : List Place)
    (done : now ≡ old ++ first_with number (take part digests) other) where
  abbrev one_with : ℕ → List Place
  one_with n = if bytes_eq (get_or digests part []) other then record { number = number; part = n } ∷ [] else []

  messages_step : (new : List Place) → new ≡ now ++ (if is_new known slots then one_with part else []) → new ≡ old ++ first_with number (take (part + 1) digests) other
  messages_step new put =
      let ds = take part digests in
      let digest = get_or digests part [] in
      let length_is : part ≡ length ds = sym (length-take-le part digests (omega (arith, lt))) in
      put
      ∙ ap (λ l. l ++ (if is_new known slots then one_with part else [])) done
      ∙ ap (λ b. (old ++ first_with number ds other) ++ (if b then one_with part else [])) (ap (is_new known) is ∙ new_digest ds digest entries known so_far)
      ∙ ap (λ n. (old ++ first_with number ds other) ++ (if is_stored entries digest && is_none (place_of ds digest) then one_with n else [])) length_is
      ∙ next_messages number ds digest other entries old stored
      ∙ ap (λ l. old ++ first_with number l other) (sym (take_more digests part [] lt))

  pub messages_put : (new : List Place) → is_new known slots ≡ true → new ≡ now ++ one_with part → new ≡ old ++ first_with number (take (part + 1) digests) other
  messages_put new fresh put = messages_step new (put ∙ sym (ap (λ b. now ++ (if b then one_with part else [])) fresh))

  pub messages_kept : (new : List Place) → is_new known slots ≡ false → new ≡ now → new ≡ old ++ first_with number (take (part + 1) digests) other
  messages_kept new seen kept = messages_step new (kept ∙ sym (append-nil now) ∙ sym (ap (λ b. now ++ (if b then one_with part else [])) seen))
