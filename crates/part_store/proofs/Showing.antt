-- A listing shows the user's entries with numbers above one.
use Rattle.std.proofs.Common.{◌≡◌, inl, inr, ℕ, suc, zero, ◌+◌, ◌<◌, ◌≤◌, pos, List, [], ◌∷◌, ◌++◌, length, map, filter, get_or, take, refl, sym, ap, subst, ◌∙◌, bytes_eq, nat_lt, lt-ltb, arith}
use Rattle.std.specs.List.{AllByRecursion, AllZip}
use Rattle.std.proofs.lemmas.Bool.{cases_Bool}
use Rattle.std.proofs.lemmas.List.{map_more, take_all}
use Rattle.sqlite_value.specs.declared.keys.Collation.TheVariants.{Binary}
use Rattle.sqlite_value.specs.declared.value.Value.TheVariants.{Int, Text}
use Rattle.sqlite_value.specs.Order.{Row, column}
use Rattle.sqlite_schema.specs.Rules.{equal}
use Rattle.sqlite_sql.specs.declared.ops.BinaryOp.TheVariants.{Compare}
use Rattle.sqlite_sql.specs.declared.ops.CompareOp.TheVariants.{Gt}
use Rattle.sqlite_sql.specs.Ops.{binary, is_true}
use Rattle.sqlite_trees.specs.Tree.{Trees, IsAscending}
use Rattle.sqlite_rules.proofs.ListLemmas.{all_has, has_filtered}
use Rattle.sqlite_catalog.proofs.ListFacts.{filter_all}
use Rattle.sqlite.specs.State.{State, HasCleanDisk, KeepsCommit, Survives}
use Rattle.sqlite.proofs.StateLemmas.{survives_then}
use Rattle.part_store.specs.Tables.{store_schema, contents_tree, entries_tree, equals}
use Rattle.part_store.specs.Changes.{columns, is_since, IsListed, Reads, Steps}
use Rattle.part_store.specs.Entries.{Entry, Entries, entries_of, entries_since, listing_of}
use Rattle.part_store.specs.Standing.{IsEntryRow, IsNumbered, Stands, StandsFor, listed}
use Rattle.part_store.specs.Readings.{Shows}
use Rattle.part_store.specs.Inside.{Stays}
use Rattle.part_store.specs.declared.entry.EntryRow.{EntryRow}
use Rattle.part_store.proofs.Entering.{kept_then, stands_still}
use Rattle.part_store.proofs.Equals.{above_numbers, equal_texts}
use Rattle.part_store.proofs.Gaining.{filter_rises}
use Rattle.part_store.proofs.Listed.{HasNumber, Rises, listed_so, number_in}
use Rattle.part_store.proofs.Programs.{same_bytes}

-- ---- the rows that pass are those of the user's entries

abbrev shown : Row → Row
shown = columns (2 ∷ 4 ∷ 3 ∷ 5 ∷ 6 ∷ 7 ∷ [])

-- the row of an entry passes where its number is above
pub is_late : (contents : List Row) (r : Row) (x : Entry) (number : ℕ) → IsEntryRow contents r x → is_true (binary (Compare Gt Binary) (column r 2) (Int (pos number))) ≡ nat_lt number x.number
is_late contents r x number h = ap (λ (row : Row). is_true (binary (Compare Gt Binary) (column row 2) (Int (pos number)))) h.2 ∙ above_numbers x.number number

zip_shown : (db : Trees) (user : List ℕ) (number : ℕ) (rows : List Row) (es : List Entry) → AllZip (IsEntryRow (db contents_tree)) rows es
    → AllZip (Shows db) (map shown (filter (is_since user number) rows)) (filter (λ x. nat_lt number x.number) (filter (λ x. bytes_eq x.user user) es))
zip_shown db user number [] [] all = tt
zip_shown db user number [] (x ∷ es) all = absurd all
zip_shown db user number (r ∷ rows) [] all = absurd all
zip_shown db user number (r ∷ rows) (x ∷ es) all =
    let h = all.0 in
    let test : equals 1 (Text user) r ≡ bytes_eq x.user user = ap (λ (row : Row). equal Binary (column row 1) (Text user)) h.2 ∙ equal_texts x.user user in
    let late = is_late (db contents_tree) r x number h in
    let more = zip_shown db user number rows es all.1 in
    elim (cases_Bool (bytes_eq x.user user)) [
      | inl mine ↦ elim (cases_Bool (nat_lt number x.number)) [
        | inl above ↦ rw (test, mine, late, above) ((h.1, ap shown h.2, h.3), more)
        | inr below ↦ rw (test, mine, late, below) more
      ]
      | inr other ↦ rw (test, other) more
    ]

number_shown : (db : Trees) (r : Row) (x : Entry) → Shows db r x → number_in r ≡ x.number
number_shown db r x h = ap number_in h.1

above_shown : (db : Trees) (low : ℕ) (rows : List Row) (es : List Entry) → AllZip (Shows db) rows es → AllByRecursion (λ (y : Entry). low < y.number) es → AllByRecursion (λ r. low < number_in r) rows
above_shown db low [] es all up = tt
above_shown db low (r ∷ rows) [] all up = absurd all
above_shown db low (r ∷ rows) (x ∷ es) all up = (omega (arith, up.0, number_shown db r x all.0), above_shown db low rows es all.1 up.1)

rises_shown : (db : Trees) (rows : List Row) (es : List Entry) → AllZip (Shows db) rows es → IsAscending (λ (x y : Entry). x.number < y.number) es → Rises rows
rises_shown db [] es all up = tt
rises_shown db (r ∷ rows) [] all up = absurd all
rises_shown db (r ∷ rows) (x ∷ es) all up =
    let same = number_shown db r x all.0 in
    (subst (λ n. AllByRecursion (λ y. n < number_in y) rows) (sym same) (above_shown db x.number rows es all.1 up.0), rises_shown db rows es all.1 up.1)

numbers_shown : (db : Trees) (rows : List Row) (es : List Entry) → AllZip (Shows db) rows es → AllByRecursion HasNumber rows
numbers_shown db [] es all = tt
numbers_shown db (r ∷ rows) [] all = absurd all
numbers_shown db (r ∷ rows) (x ∷ es) all =
    let h = all.0 in
    (ap (λ (row : Row). column row 0) h.1 ∙ sym (ap (λ n. Int (pos n)) (number_shown db r x h)), numbers_shown db rows es all.1)

above_mine : (user : List ℕ) (x : Entry) (es : List Entry) → x.user ≡ user → AllByRecursion (λ y. x.user ≡ y.user → x.number < y.number) es
    → AllByRecursion (λ (y : Entry). x.number < y.number) (filter (λ y. bytes_eq y.user user) es)
above_mine user x [] own up = tt
above_mine user x (y ∷ es) own up =
    let more = above_mine user x es own up.1 in
    elim (cases_Bool (bytes_eq y.user user)) [
      | inl mine ↦ rw mine (up.0 (own ∙ sym (same_bytes y.user user mine)), more)
      | inr other ↦ rw other more
    ]

pub rises_mine : (user : List ℕ) (es : List Entry) → IsAscending (λ x y. x.user ≡ y.user → x.number < y.number) es → IsAscending (λ (x y : Entry). x.number < y.number) (filter (λ y. bytes_eq y.user user) es)
rises_mine user [] up = tt
rises_mine user (x ∷ es) up =
    let more = rises_mine user es up.1 in
    elim (cases_Bool (bytes_eq x.user user)) [
      | inl mine ↦ rw mine (above_mine user x es (same_bytes x.user user mine) up.0, more)
      | inr other ↦ rw other more
    ]

-- the rows of the answer show the user's entries with numbers above this one
pub answer_shows : (old new : State) (user : List ℕ) (number : ℕ) (rows : List Row) → Steps (Reads (IsListed entries_tree (is_since user number) shown rows)) old new → (before : Entries) → Stands old.now before
    → AllZip (Shows old.now.trees) rows (entries_since user number before)
answer_shows old new user number rows reads before stands =
    let db = old.now.trees in
    let found = (reads stands.schema).change.1 in
    let all = zip_shown db user number (db entries_tree) before.entries stands.tables.entries in
    let up = rises_shown db (map shown (filter (is_since user number) (db entries_tree))) (entries_since user number before) all
    (filter_rises _ (λ (x : Entry). nat_lt number x.number) (entries_of user before) (rises_mine user before.entries stands.tables.numbers.rising)) in
    let same = listed_so (map shown (filter (is_since user number) (db entries_tree))) rows up (numbers_shown db _ (entries_since user number before) all) found.same found.sorted in
    subst (λ rs. AllZip (Shows db) rs (entries_since user number before)) (sym same) all

-- no number is 0
pub all_since : (user : List ℕ) (e : Entries) → IsNumbered e → entries_since user 0 e ≡ entries_of user e
all_since user e numbers = filter_all (λ (x : Entry). nat_lt 0 x.number) (entries_of user e) (λ x there.
    let kept = has_filtered (λ (y : Entry). bytes_eq y.user user) e.entries x there in
    let given = all_has (λ (y : Entry). (1 ≤ y.number) × (y.number ≤ e.lasts y.user)) e.entries x numbers.given kept.0 in
    lt-ltb 0 x.number (omega (arith, given.0)))

-- ---- row by row

-- so far these rows were read
pub record Reading (rows : List Row) (place : ℕ) (out : List EntryRow) (old now : State) : Type 0 where
  pub survives : Survives old now (λ _. ⊥)
  pub stays : HasCleanDisk now → Stays old now
  pub kept : HasCleanDisk now → old.now.schema ≡ store_schema → KeepsCommit old now
  pub read : HasCleanDisk now → (before : Entries) → Stands old.now before → (xs : List Entry) → AllZip (Shows old.now.trees) rows xs → map listed out ≡ map listing_of (take place xs)

zip_at : (db : Trees) (rows : List Row) (xs : List Entry) (place : ℕ) (r : Row) (x : Entry) → AllZip (Shows db) rows xs → place < length rows → Shows db (get_or rows place r) (get_or xs place x)
zip_at db [] xs place r x all lt = absurd (omega (arith, lt))
zip_at db (row ∷ rows) [] place r x all lt = absurd all
zip_at db (row ∷ rows) (y ∷ xs) zero r x all lt = all.0
zip_at db (row ∷ rows) (y ∷ xs) (suc place) r x all lt = zip_at db rows xs place r x all.1 (omega (arith, lt))

zip_length : (db : Trees) (rows : List Row) (xs : List Entry) → AllZip (Shows db) rows xs → length rows ≡ length xs
zip_length db [] [] all = refl
zip_length db [] (x ∷ xs) all = absurd all
zip_length db (r ∷ rows) [] all = absurd all
zip_length db (r ∷ rows) (x ∷ xs) all = omega (arith, zip_length db rows xs all.1)

-- one row more
read_more : (db : Trees) (rows : List Row) (place : ℕ) (row : Row) (out : List EntryRow) (one : EntryRow) (xs : List Entry) → place < length rows → row ≡ get_or rows place row → AllZip (Shows db) rows xs
    → map listed out ≡ map listing_of (take place xs) → ((x : Entry) → Shows db row x → listed one ≡ listing_of x) → map listed (out ++ one ∷ []) ≡ map listing_of (take (place + 1) xs)
read_more db rows place row out one [] lt is all so_far shows = absurd (omega (arith, lt, zip_length db rows [] all))
read_more db rows place row out one (first ∷ xs) lt is all so_far shows =
    let long = zip_length db rows (first ∷ xs) all in
    let here = subst (λ r. Shows db r (get_or (first ∷ xs) place first)) (sym is) (zip_at db rows (first ∷ xs) place row first all lt) in
    pushed out ∙ ap (λ ys. ys ++ listed one ∷ []) so_far ∙ ap (λ y. map listing_of (take place (first ∷ xs)) ++ y ∷ []) (shows (get_or (first ∷ xs) place first) here)
    ∙ sym (map_more listing_of (first ∷ xs) place first (omega (arith, lt, long)))
  where
    pushed : (ys : List EntryRow) → map listed (ys ++ one ∷ []) ≡ map listed ys ++ listed one ∷ []
    pushed [] = refl
    pushed (y ∷ ys) = ap (λ zs. listed y ∷ zs) (pushed ys)

pub one_read : (rows : List Row) (place : ℕ) (row : Row) (out more : List EntryRow) (one : EntryRow) (old mid new : State) → place < length rows → row ≡ get_or rows place row → more ≡ out ++ one ∷ [] → Reading rows place out old mid
    → Survives mid new (λ _. ⊥) → (HasCleanDisk new → Stays mid new) → (HasCleanDisk new → mid.now.schema ≡ store_schema → KeepsCommit mid new)
    → (HasCleanDisk new → (before : Entries) → Stands mid.now before → (x : Entry) → Shows mid.now.trees row x → listed one ≡ listing_of x) → Reading rows (place + 1) more old new
one_read rows place row out more one old mid new lt is all so_far survives stays kept told =
    let early = λ (clean : HasCleanDisk new). let e : HasCleanDisk mid = omega (arith, survives.clean) in e in
    subst (λ out. Reading rows (place + 1) out old new) (sym all) (record {
      survives = survives_then old mid new (λ _. ⊥) (λ _. ⊥) (λ _. ⊥) (λ _ _ h. h) (λ _ _ h. h) so_far.survives survives;
      stays = λ clean has.
          let first = so_far.stays (early clean) has in
          let second = stays clean first.0 in
          (second.0, second.1 ∙ first.1);
      kept = λ clean has. kept_then old mid new (so_far.kept (early clean) has) (kept clean (so_far.stays (early clean) has).0);
      read = λ clean before stands xs zipped.
          let still = so_far.stays (early clean) in
          let same = (still stands.schema).1 in
          read_more old.now.trees rows place row out one xs lt is zipped (so_far.read (early clean) before stands xs zipped)
          (λ x shows. told clean before (stands_still old mid before still stands) x (subst (λ t. Shows t row x) (sym same) shows));
    })

-- all rows were read
pub all_read : (old mid new : State) (user : List ℕ) (number : ℕ) (rows : List Row) (place : ℕ) (out : List EntryRow) → Steps (Reads (IsListed entries_tree (is_since user number) shown rows)) old mid → length rows ≤ place → HasCleanDisk new → Reading rows place out mid new
    → (before : Entries) → Stands old.now before → map listed out ≡ map listing_of (entries_since user number before)
all_read old mid new user number rows place out reads whole clean reading before stands =
    let step = reads stands.schema in
    let same = step.change.0 in
    let there : Stands mid.now before = record { schema = step.schema; listed = step.listed stands.listed; tables = subst (λ t. StandsFor t before) (sym same) stands.tables } in
    let shows = answer_shows old mid user number rows reads before stands in
    let zipped = subst (λ t. AllZip (Shows t) rows (entries_since user number before)) (sym same) shows in
    reading.read clean before there (entries_since user number before) zipped
    ∙ ap (map listing_of) (take_all place (entries_since user number before) (omega (arith, whole, zip_length old.now.trees rows (entries_since user number before) shows)))
