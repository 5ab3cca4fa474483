-- Which entries a scrub lists.
use Rattle.std.proofs.Common.{◌≡◌, inl, inr, ℕ, zero, suc, ◌<◌, ◌≤◌, ◌+◌, ◌^◌, pos, Bool, true, ◌&&◌, List, [], ◌∷◌, ◌++◌, length, map, filter, take, get_or, Vec, string_bytes, refl, sym, ap, ap₂, subst, ◌∙◌, bytes_eq, Less, IsPermutation, lt-ltb, arith}
use Rattle.std.specs.declared.alloc.Global.{Global}
use Rattle.std.specs.List.{AllByRecursion, AllZip, list_any}
use Rattle.std.specs.Ordering.{nat_cmp}
use Rattle.std.specs.Cmp.Lexicographic.{slice_cmp}
use Rattle.std.proofs.lemmas.Bool.{cases_Bool, true≢false, eq-eqb}
use Rattle.std.proofs.lemmas.List.{map-append, take_more}
use Rattle.std.proofs.lemmas.List.Elements.{filter-append}
use Rattle.sqlite_value.specs.declared.keys.Collation.TheVariants.{Binary}
use Rattle.sqlite_value.specs.declared.value.Value.TheVariants.{Int, Text, Blob}
use Rattle.sqlite_value.specs.Order.{Row, column}
use Rattle.sqlite_schema.specs.Rules.{equal}
use Rattle.sqlite_trees.specs.Tree.{Trees, IsAscending}
use Rattle.sqlite_rules.specs.Lists.{Has}
use Rattle.sqlite_rules.proofs.ListLemmas.{all_has, all_from, some_has, some_from, has_filtered, has_kept, has_left, has_right, has_either, has_at}
use Rattle.sqlite_rules.proofs.ProbeLemmas.{has_mapped, mapped_has}
use Rattle.part_store.specs.Changes.{columns, is_since, IsListed}
use Rattle.part_store.specs.Entries.{Entry, Entries, entries_of}
use Rattle.part_store.specs.Readings.{IsReadable, Shows, number_of}
use Rattle.part_store.specs.Scanning.{AreDamagedAmong, AreDamagedDigests, is_one_of, line_shown, lines_shown}
use Rattle.part_store.specs.Scrubbing.{AreDamagedOf, DamagedLine, IsBeforeDamaged, RefersToDamaged, blob_in, damaged_line, is_damaged_under, line_of_entry}
use Rattle.part_store.specs.Standing.{IsEntryRow, StandsFor, kind_number}
use Rattle.part_store.specs.declared.entry.Kind.{Kind}
use Rattle.part_store.specs.declared.entry.Kind.TheVariants.{Message, Part}
use Rattle.part_store.specs.Tables.{users_tree, contents_tree, entries_tree, equals}
use Rattle.part_store.specs.UserLines.{AreUsersOf, HasRow, IsBeforeLine, UserLine, line_of, user_line}
use Rattle.part_store.specs.declared.scrubbing.DamagedEntry.{DamagedEntry}
use Rattle.part_store.specs.declared.user_row.UserRow.{UserRow}
use Rattle.part_store.proofs.Apart.{bytes_same, same_bytes}
use Rattle.part_store.proofs.Equals.{equal_texts, equal_numbers}
use Rattle.part_store.proofs.Finding.{zip_found, zip_has}
use Rattle.part_store.proofs.Listed.{all_weaker}
use Rattle.part_store.proofs.Removing.{same_row}
use Rattle.part_store.proofs.Rows.{has_permuted}
use Rattle.part_store.proofs.Runs.{and_true}
use Rattle.part_store.proofs.Showing.{is_late, rises_mine}
use Rattle.part_store.proofs.Shown.{from_table}
use Rattle.part_store.proofs.Writes.{filter_same}

abbrev shown : Row → Row
shown = columns (2 ∷ 4 ∷ 3 ∷ 5 ∷ 6 ∷ 7 ∷ [])

-- the row of an entry is its user's, of its number
row_mine : (contents : List Row) (r : Row) (x : Entry) → IsEntryRow contents r x → (equals 1 (Text x.user) r ≡ true) × (equals 2 (Int (pos x.number)) r ≡ true)
row_mine contents r x h =
    let is = h.2 in (
      ap (λ (row : Row). equal Binary (column row 1) (Text x.user)) is ∙ equal_texts x.user x.user ∙ bytes_same x.user,
      ap (λ (row : Row). equal Binary (column row 2) (Int (pos x.number))) is ∙ equal_numbers x.number x.number ∙ eq-eqb x.number x.number refl,
    )

-- ---- row by row

pub lines_more : (user : List ℕ) (digests : List (Vec ℕ Global)) (rows : List Row) (place : ℕ) (row : Row) → place < length rows → row ≡ get_or rows place row
    → lines_shown user digests (take (place + 1) rows) ≡ lines_shown user digests (take place rows) ++ lines_shown user digests (row ∷ [])
lines_more user digests rows place row lt is =
    let P = λ (r : Row). is_one_of digests (blob_in (column r 5)) in
    ap (lines_shown user digests) (take_more rows place row lt ∙ ap (λ r. take place rows ++ r ∷ []) (sym is))
    ∙ ap (map (line_shown user)) (filter-append P (take place rows) (row ∷ [])) ∙ map-append (line_shown user) (filter P (take place rows)) (filter P (row ∷ []))

-- the rows of the answer to a listing can be read
kind_low : (k : Kind) → kind_number k < 2 ^ 32
kind_low Message = omega arith
kind_low Part = omega arith

readable_zip : (db : Trees) (rows : List Row) (es : List Entry) → AllZip (Shows db) rows es → AllByRecursion (λ (x : Entry). x.number < 2 ^ 32) es → AllByRecursion IsReadable rows
readable_zip db [] es all low = tt
readable_zip db (r ∷ rows) [] all low = absurd all
readable_zip db (r ∷ rows) (x ∷ es) all low =
    let first : IsReadable r = (x.number, kind_number x.kind, x.folder, x.name, x.media, all.0.0, low.0, kind_low x.kind, all.0.1) in
    (first, readable_zip db rows es all.1 low.1)

pub rows_readable : (db : Trees) (e : Entries) (user : List ℕ) (rows : List Row) → StandsFor db e → AllZip (Shows db) rows (entries_of user e) → AllByRecursion IsReadable rows
rows_readable db e user rows stands shows =
    readable_zip db rows (entries_of user e) shows (all_from _ (entries_of user e) (λ x there.
    let kept = has_filtered (λ (y : Entry). bytes_eq y.user user) e.entries x there in
    let given = all_has (λ (y : Entry). (1 ≤ y.number) × (y.number ≤ e.lasts y.user)) e.entries x stands.numbers.given kept.0 in
    let low : x.number < 2 ^ 32 = omega (arith, given.1, stands.numbers.limit x.user) in
    low))

-- no number is 0, so a listing of those above it is of all the user's entries
pub listed_all : (db : Trees) (e : Entries) (user : List ℕ) (rows : List Row) → StandsFor db e → IsListed entries_tree (is_since user 0) shown rows db → IsListed entries_tree (equals 1 (Text user)) shown rows db
listed_all db e user rows stands listed =
    let kept = filter_same (is_since user 0) (equals 1 (Text user)) (db entries_tree) (λ r there.
    let x = zip_found (IsEntryRow (db contents_tree)) (db entries_tree) e.entries r stands.entries there in
    let given = all_has (λ (y : Entry). (1 ≤ y.number) × (y.number ≤ e.lasts y.user)) e.entries x.0 stands.numbers.given x.1 in
    ap (λ b. equals 1 (Text user) r && b) (is_late (db contents_tree) r x.0 0 x.2 ∙ lt-ltb 0 x.0.number (omega (arith, given.0))) ∙ and_true _) in
    record { same = subst (λ rs. IsPermutation (map shown rs) rows) kept listed.same; sorted = listed.sorted }

-- ---- the entries of one user

module _ (db : Trees) (e : Entries) (stands : StandsFor db e) (user : List ℕ) (rows : List Row) (listed : IsListed entries_tree (equals 1 (Text user)) shown rows db)
    (digests : List (Vec ℕ Global)) (are : AreDamagedDigests db digests) where
  abbrev contents : List Row
  contents = db contents_tree

  abbrev names : Row → Bool
  names r = is_one_of digests (blob_in (column r 5))

  abbrev lines : List DamagedLine
  lines = lines_shown user digests rows

  line_is : (r : Row) (x : Entry) → IsEntryRow contents r x → x.user ≡ user → line_shown user (shown r) ≡ line_of_entry x
  line_is r x h own = ap (λ (row : Row). line_shown user (shown row)) h.2 ∙ (λ i. record { user = sym own i; number = x.number; folder = x.folder })

  -- a row of the answer is of an entry, which refers to what the row names
  entry_shown : (row : Row) → Has rows row
      → (x : Entry) × Has e.entries x × (x.user ≡ user) × (line_shown user row ≡ line_of_entry x) × (names row ≡ true → RefersToDamaged db x)
  entry_shown row there =
      let r = from_table entries_tree (equals 1 (Text user)) shown rows db row listed there in
      let x = zip_found (IsEntryRow contents) (db entries_tree) e.entries r.0 stands.entries r.1 in
      let is = x.2.2 in
      let own : x.0.user ≡ user = same_bytes x.0.user user (sym (ap (λ (w : Row). equal Binary (column w 1) (Text user)) is ∙ equal_texts x.0.user user) ∙ r.2) in
      let mine = row_mine contents r.0 x.0 x.2 in
      let named : column r.0 7 ≡ Blob x.2.1 = ap (λ (w : Row). column w 7) is in
      let digest : blob_in (column row 5) ≡ x.2.1 = ap (λ (w : Row). blob_in (column w 5)) r.3 ∙ ap blob_in named in
      let line = ap (line_shown user) r.3 ∙ line_is r.0 x.0 x.2 own in
      (x.0, x.1, own, line, λ one. (x.2.1, (r.0, r.1, mine.0, mine.1, named), sym (are x.2.1) ∙ sym (ap (is_one_of digests) digest) ∙ one))

  each_line : (l : DamagedLine) → Has lines l → Has (user ∷ []) l.user × ((x : Entry) × Has e.entries x × RefersToDamaged db x × (l ≡ line_of_entry x))
  each_line l there =
      let q = has_mapped (line_shown user) (filter names rows) l there in
      let k = has_filtered names rows q.0 q.1 in
      let x = entry_shown q.0 k.0 in
      (inl (ap (λ (it : DamagedLine). it.user) q.2), (x.0, x.1, x.4 k.1, q.2 ∙ x.3))

  all_lines : (x : Entry) → Has e.entries x → Has (user ∷ []) x.user → RefersToDamaged db x → Has lines (line_of_entry x)
  all_lines x there (inr none) refers = absurd none
  all_lines x there (inl own) (digest, (r, in_table, by_user, by_number, named), damaged) =
      let row = zip_has (IsEntryRow contents) (db entries_tree) e.entries x stands.entries there in
      let mine = row_mine contents row.0 x row.2 in
      let same : r ≡ row.0 = same_row contents (db entries_tree) e.entries x.user x.number stands.entries stands.numbers.rising r row.0 in_table row.1
      (ap₂ (λ a b. a && b) by_user by_number) (ap₂ (λ a b. a && b) mine.0 mine.1) in
      let passes : equals 1 (Text user) r ≡ true = subst (λ n. equals 1 (Text n) r ≡ true) own by_user in
      let answer : Has rows (shown r) = has_permuted (map shown (filter (equals 1 (Text user)) (db entries_tree))) rows (shown r) listed.same
      (mapped_has shown (filter (equals 1 (Text user)) (db entries_tree)) r (has_kept (equals 1 (Text user)) (db entries_tree) r in_table passes)) in
      let one : names (shown r) ≡ true = ap (λ v. is_one_of digests (blob_in v)) named ∙ are digest ∙ damaged in
      subst (Has lines) (ap (λ (w : Row). line_shown user (shown w)) same ∙ line_is row.0 x row.2 own)
      (mapped_has (line_shown user) (filter names rows) (shown r) (has_kept names rows (shown r) answer one))

  number_is : (r : Row) (x : Entry) → Shows db r x → (line_shown user r).number ≡ x.number
  number_is r x h = ap (λ (row : Row). number_of (column row 0)) h.1

  above : (low : ℕ) (rs : List Row) (es : List Entry) → AllZip (Shows db) rs es → AllByRecursion (λ (y : Entry). low < y.number) es
      → AllByRecursion (λ (l : DamagedLine). (l.user ≡ user) × (low < l.number)) (lines_shown user digests rs)
  above low [] es all up = tt
  above low (r ∷ rs) [] all up = absurd all
  above low (r ∷ rs) (x ∷ es) all up =
      let more = above low rs es all.1 up.1 in
      let here : low < (line_shown user r).number = omega (arith, up.0, number_is r x all.0) in
      elim (cases_Bool (names r)) [
        | inl on ↦ rw on ((refl, here), more)
        | inr off ↦ rw off more
      ]

  lines_rise : (rs : List Row) (es : List Entry) → AllZip (Shows db) rs es → IsAscending (λ (x y : Entry). x.number < y.number) es → IsAscending IsBeforeDamaged (lines_shown user digests rs)
  lines_rise [] es all up = tt
  lines_rise (r ∷ rs) [] all up = absurd all
  lines_rise (r ∷ rs) (x ∷ es) all up =
      let more = lines_rise rs es all.1 up.1 in
      let same = number_is r x all.0 in
      let first : AllByRecursion (IsBeforeDamaged (line_shown user r)) (lines_shown user digests rs) =
      all_weaker _ _ (lines_shown user digests rs) (λ l h. inr (sym h.0, omega (arith, h.1, same))) (above x.number rs es all.1 up.0) in
      elim (cases_Bool (names r)) [
        | inl on ↦ rw on (first, more)
        | inr off ↦ rw off more
      ]

  pub of_user : AllZip (Shows db) rows (entries_of user e) → AreDamagedAmong db e (user ∷ []) lines
  of_user shows = record {
    each = all_from _ lines each_line;
    all = all_lines;
    rising = lines_rise rows (entries_of user e) shows (rises_mine user e.entries stands.numbers.rising);
  }

-- ---- user by user

abbrev pub names_of : List UserRow → List (List ℕ)
names_of = map (λ (u : UserRow). string_bytes u.user)

all_joined : {X : Type 0} (P : X → Type 0) (xs ys : List X) → AllByRecursion P xs → AllByRecursion P ys → AllByRecursion P (xs ++ ys)
all_joined P [] ys one other = other
all_joined P (x ∷ xs) ys one other = (one.0, all_joined P xs ys one.1 other)

ascends : {X : Type 0} (R : X → X → Type 0) (xs ys : List X) → IsAscending R xs → IsAscending R ys → ((x y : X) → Has xs x → Has ys y → R x y) → IsAscending R (xs ++ ys)
ascends R [] ys one other below = other
ascends R (x ∷ xs) ys one other below =
    (all_joined (R x) xs ys one.0 (all_from (R x) ys (λ y there. below x y (inl refl) there)), ascends R xs ys one.1 other (λ z y h k. below z y (inr h) k))

pub none_among : (db : Trees) (e : Entries) → AreDamagedAmong db e [] []
none_among db e = record { each = tt; all = λ x there none. absurd none; rising = tt }

pub one_more : (db : Trees) (e : Entries) (names : List (List ℕ)) (user : List ℕ) (old new : List DamagedLine) → AllByRecursion (λ n. slice_cmp nat_cmp n user ≡ Less) names
    → AreDamagedAmong db e names old → AreDamagedAmong db e (user ∷ []) new → AreDamagedAmong db e (names ++ user ∷ []) (old ++ new)
one_more db e names user old new below first second = record {
  each = all_joined _ old new (all_weaker _ _ old (λ l h. (has_left names (user ∷ []) l.user h.0, h.1)) first.each) (all_weaker _ _ new (λ l h. (has_right names (user ∷ []) l.user h.0, h.1)) second.each);
  all = λ x there mine refers. elim (has_either names (user ∷ []) x.user mine) [
    | inl earlier ↦ has_left old new (line_of_entry x) (first.all x there earlier refers)
    | inr last ↦ has_right old new (line_of_entry x) (second.all x there last refers)
  ];
  rising = ascends IsBeforeDamaged old new first.rising second.rising (λ l m h k.
      let one = all_has _ old l first.each h in
      let other = all_has _ new m second.each k in
      elim other.0 [
        | inl is ↦ inl (subst (λ n. slice_cmp nat_cmp l.user n ≡ Less) (sym is) (all_has _ names l.user below one.0))
        | inr none ↦ absurd none
      ]);
}

-- the names before a place come before the name at that place
pub names_below : (users : List UserRow) (place : ℕ) (row : UserRow) → IsAscending IsBeforeLine (map line_of users) → place < length users → row ≡ get_or users place row
    → AllByRecursion (λ n. slice_cmp nat_cmp n (string_bytes row.user) ≡ Less) (names_of (take place users))
names_below [] place row up lt is = absurd (omega (arith, lt))
names_below (u ∷ users) zero row up lt is = tt
names_below (u ∷ users) (suc place) row up lt is =
    let less : place < length users = omega (arith, lt) in
    (all_has (IsBeforeLine (line_of u)) (map line_of users) (line_of row) up.0 (mapped_has line_of users row (has_at users place row less is)), names_below users place row up.1 less is)

-- no damaged digest, no entry
pub none_refer : (db : Trees) (e : Entries) → AreDamagedDigests db [] → AreDamagedOf db e []
none_refer db e are = record {
  each = tt;
  all = λ x there refers. absurd (true≢false (sym refers.2 ∙ sym (are refers.0)));
  rising = tt;
}

-- who has an entry has a row
has_row : (db : Trees) (e : Entries) (x : Entry) → StandsFor db e → (lines : List UserLine) → AreUsersOf (db users_tree) e lines → Has e.entries x → HasRow (db users_tree) x.user
has_row db e x stands lines users there = elim (cases_Bool (list_any (equals 1 (Text x.user)) (db users_tree))) [
  | inl on ↦ some_has (equals 1 (Text x.user)) (db users_tree) on
  | inr off ↦
      let none = users.strangers x.user (λ row. true≢false (sym (some_from (equals 1 (Text x.user)) (db users_tree) row.0 row.1 row.2) ∙ off)) in
      let given = all_has (λ (y : Entry). (1 ≤ y.number) × (y.number ≤ e.lasts y.user)) e.entries x stands.numbers.given there in
      absurd (omega (arith, given.0, given.1, none.0))
]

pub all_among : (db : Trees) (e : Entries) (users : List UserRow) (lines : List DamagedLine) → StandsFor db e → AreUsersOf (db users_tree) e (map line_of users) → AreDamagedAmong db e (names_of users) lines
    → AreDamagedOf db e lines
all_among db e users lines stands are among = record {
  each = all_weaker _ _ lines (λ l h. h.1) among.each;
  all = λ x there refers.
      let row = are.all x.user (has_row db e x stands (map line_of users) are there) in
      let u = has_mapped line_of users (user_line e x.user) row in
      let named : x.user ≡ string_bytes u.0.user = ap (λ (l : UserLine). l.user) u.2 in
      among.all x there (subst (Has (names_of users)) (sym named) (mapped_has (λ (w : UserRow). string_bytes w.user) users u.0 u.1)) refers;
  rising = among.rising;
}

-- no damaged content, no entry
pub none_listed : (db : Trees) (e : Entries) (found : List DamagedEntry) → ((digest : List ℕ) → is_damaged_under (db contents_tree) digest ≡ true → ⊥) → AreDamagedOf db e (map damaged_line found) → found ≡ []
none_listed db e [] never are = refl
none_listed db e (it ∷ found) never are = absurd (never are.each.0.2.0 are.each.0.2.2)
