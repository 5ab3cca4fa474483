-- An entry that is filed: its octets under their digest, and then its row.
use Rattle.std.proofs.Common.{Some, None, ◌≢◌, ◌≡◌, ◌⊎◌, inl, inr, ℕ, ℤ, pos, ◌+ℤ◌, ◌<ℤ◌, fold, true, false, List, [], ◌∷◌, ◌++◌, None, refl, sym, ap, subst, subst₂, ◌∙◌, bytes_eq, IsTrue, Less, int_cmp, arith}
use Rattle.std.specs.List.{AllByRecursion, AllZip}
use Rattle.std.proofs.lemmas.Bool.{true≢false}
use Rattle.std.proofs.lemmas.Bool.Decides.{nat_tests}
use Rattle.std.proofs.lemmas.Int.{ints}
use Rattle.sqlite_value.specs.declared.value.Value.TheVariants.{Int, Text, Blob}
use Rattle.sqlite_value.specs.Order.{Row, column, value_cmp}
use Rattle.sqlite_value.proofs.OrderLemmas.{value_cmp-Int}
use Rattle.sqlite_trees.specs.Tree.{Trees, rowid, IsAscending, IsTable, put_row}
use Rattle.sqlite_trees.specs.View.{is_int}
use Rattle.sqlite_rules.specs.Lists.{Has}
use Rattle.sqlite_rules.specs.Edit.{id_in, next_rowid}
use Rattle.sqlite_rules.proofs.ListLemmas.{all_has, all_from}
use Rattle.sqlite_rules.proofs.TableLemmas.{int_is, next_after}
use Rattle.part_store.specs.Tables.{users_tree, contents_tree, entries_tree, equals, store_schema}
use Rattle.part_store.specs.Changes.{columns, IsFound, Steps, Reads, IsAdded, new_row}
use Rattle.part_store.specs.Entries.{Entry, Entries}
use Rattle.part_store.specs.Additions.{IsStocked, IsNext, with_entry, Stocks, Files, RisesBy, RisesWithin}
use Rattle.part_store.specs.Filing.{entry_values, IsOther}
use Rattle.part_store.specs.Standing.{Stands, IsUserRow, IsEntryRow, IsContentRow, HasContent, content_row, StandsFor, HaveOneRow}
use Rattle.part_store.proofs.Gaining.{added_rises, added_has, has_added, added_keeps, keyed_all}
use Rattle.sqlite.specs.State.{State, KeepsCommit}
use Rattle.part_store.proofs.Finding.{content_there, content_test, same_blob}
use Rattle.part_store.proofs.Programs.{bytes_same}

no_more : (z : ℤ) → z ≡ z +ℤ pos 0
no_more z = omega (arith, ints)

-- ---- the next rowid comes last

put_last : (new : Row) (rows : List Row) → ((r : Row) → Has rows r → value_cmp (rowid r) (rowid new) ≡ Less) → put_row new rows ≡ rows ++ new ∷ []
put_last new [] below = refl
put_last new (r ∷ rows) below = rw (below r (inl refl)) (ap (λ rs. r ∷ rs) (put_last new rows (λ x h. below x (inr h))))

abbrev step_rowid : ℤ → Row → ℤ
step_rowid n r = id_in (rowid r) +ℤ pos 1

lower_than : (a b c : ℤ) → int_cmp a b ≡ Less → b <ℤ c → a <ℤ c
lower_than a b c p q = grind (arith, ints, nat_tests)

below_next : (x : Row) (rows : List Row) → IsTable (x ∷ rows) → AllByRecursion (λ r. IsTrue (is_int (rowid r))) (x ∷ rows)
    → AllByRecursion (λ r. id_in (rowid r) <ℤ fold step_rowid (step_rowid (pos 1) x) rows) (x ∷ rows)
below_next x [] up keyed = (omega (arith, ints), tt)
below_next x (y ∷ rows) up keyed =
    let later = below_next y rows up.1 keyed.1 in
    let lower = rw (int_is (rowid x) keyed.0, int_is (rowid y) keyed.1.0, value_cmp-Int (id_in (rowid x)) (id_in (rowid y))) at up.0.0 in
    let first = later.0 in
    (lower_than (id_in (rowid x)) (id_in (rowid y)) _ lower first, later)

less_is : (a b : ℤ) → a <ℤ b → int_cmp a b ≡ Less
less_is a b h = grind (arith, ints, nat_tests)

all_below_next : (rows : List Row) → IsTable rows → AllByRecursion (λ r. IsTrue (is_int (rowid r))) rows → (r : Row) → Has rows r → value_cmp (rowid r) (Int (next_rowid rows)) ≡ Less
all_below_next [] up keyed r h = absurd h
all_below_next (x ∷ rows) up keyed r h =
    let below = all_has (λ r. id_in (rowid r) <ℤ fold step_rowid (step_rowid (pos 1) x) rows) (x ∷ rows) r (below_next x rows up keyed) h in
    let key = int_is (rowid r) (all_has (λ r. IsTrue (is_int (rowid r))) (x ∷ rows) r keyed h) in
    ap (λ v. value_cmp v (Int (next_rowid (x ∷ rows)))) key ∙ value_cmp-Int (id_in (rowid r)) (next_rowid (x ∷ rows)) ∙ less_is _ _ below

pub comes_last : (tree : ℕ) (values : Row) (old new : Trees) → IsAdded tree values old new → IsTable (old tree) → AllByRecursion (λ r. IsTrue (is_int (rowid r))) (old tree)
    → new tree ≡ old tree ++ new_row (old tree) values ∷ []
comes_last tree values old new h up keyed = h.rows ∙ put_last (new_row (old tree) values) (old tree) (all_below_next (old tree) up keyed)

zip_push : {X Y : Type 0} (R : X → Y → Type 0) (xs : List X) (ys : List Y) (x : X) (y : Y) → AllZip R xs ys → R x y → AllZip R (xs ++ x ∷ []) (ys ++ y ∷ [])
zip_push R [] [] x y all h = (h, tt)
zip_push R [] (b ∷ ys) x y all h = absurd all
zip_push R (a ∷ xs) [] x y all h = absurd all
zip_push R (a ∷ xs) (b ∷ ys) x y all h = (all.0, zip_push R xs ys x y all.1 h)

pub zip_weaker : {X Y : Type 0} (R Q : X → Y → Type 0) (xs : List X) (ys : List Y) → ((x : X) (y : Y) → Has xs x → R x y → Q x y) → AllZip R xs ys → AllZip Q xs ys
zip_weaker R Q [] [] f all = tt
zip_weaker R Q [] (b ∷ ys) f all = absurd all
zip_weaker R Q (a ∷ xs) [] f all = absurd all
zip_weaker R Q (a ∷ xs) (b ∷ ys) f all = (f a b (inl refl) all.0, zip_weaker R Q xs ys (λ x y h. f x y (inr h)) all.1)

all_push : {X : Type 0} (P : X → Type 0) (xs : List X) (x : X) → AllByRecursion P xs → P x → AllByRecursion P (xs ++ x ∷ [])
all_push P [] x all h = (h, tt)
all_push P (y ∷ xs) x all h = (all.0, all_push P xs x all.1 h)

rises_push : {X : Type 0} (R : X → X → Type 0) (xs : List X) (x : X) → IsAscending R xs → ((y : X) → Has xs y → R y x) → IsAscending R (xs ++ x ∷ [])
rises_push R [] x up below = (tt, tt)
rises_push R (y ∷ xs) x up below = (all_push (R y) xs x up.0 (below y (inl refl)), rises_push R xs x up.1 (λ z h. below z (inr h)))

entry_key : (contents : List Row) (r : Row) (x : Entry) → IsEntryRow contents r x → is_int (rowid r) ≡ true
entry_key contents r x h = rw h.2

zip_keys : (contents : List Row) (rows : List Row) (es : List Entry) → AllZip (IsEntryRow contents) rows es → AllByRecursion (λ r. IsTrue (is_int (rowid r))) rows
zip_keys contents [] es all = tt
zip_keys contents (r ∷ rows) [] all = absurd all
zip_keys contents (r ∷ rows) (x ∷ es) all = (entry_key contents r x all.0, zip_keys contents rows es all.1)

pub entry_keys : (db : Trees) (e : Entries) → StandsFor db e → AllByRecursion (λ r. IsTrue (is_int (rowid r))) (db entries_tree)
entry_keys db e stands = zip_keys (db contents_tree) (db entries_tree) e.entries stands.entries

-- ---- the octets are under their digest

pub same_rowids : (rows : List Row) → RisesBy 0 rows rows
same_rowids rows = no_more (next_rowid rows)

pub stocked_already : (db : Trees) (e : Entries) (digest octets : List ℕ) → StandsFor db e → HasContent (db contents_tree) digest octets → IsStocked db db digest octets
stocked_already db e digest octets stands h = record {
  users = refl;
  entries = refl;
  rise = stands.contents_rise;
  contents = stands.contents;
  single = stands.single;
  has = h;
  kept = λ d o there. there;
  from = λ d o there. inl there;
  rowids = (0, omega arith, same_rowids (db contents_tree));
}

row_parts : (id other : ℤ) (d o x y : List ℕ) → content_row id d o ≡ Int other ∷ Blob x ∷ Blob y ∷ [] → (d ≡ x) × (o ≡ y)
row_parts id other d o x y h = (same_blob d x (ap (λ (r : Row). column r 1) h), same_blob o y (ap (λ (r : Row). column r 2) h))

module _ (db new : Trees) (e : Entries) (digest octets : List ℕ) (stands : StandsFor db e) (none : (r : Row) → Has (db contents_tree) r → equals 1 (Blob digest) r ≡ false)
    (added : IsAdded contents_tree (Blob digest ∷ Blob octets ∷ []) db new) where
  comes_from : (d o : List ℕ) → HasContent (new contents_tree) d o → HasContent (db contents_tree) d o ⊎ ((d ≡ digest) × (o ≡ octets))
  comes_from d o h = elim (added_has contents_tree _ db new (content_row h.0 d o) added h.1) [
    | inl is ↦ inr (row_parts h.0 _ d o digest octets is)
    | inr was ↦ inl (h.0, was)
  ]

  not_there : (d o : List ℕ) → HasContent (db contents_tree) d o → d ≡ digest → ⊥
  not_there d o h same = true≢false (sym (ap (bytes_eq d) (sym same) ∙ bytes_same d) ∙ sym (content_test (content_row h.0 d o) h.0 d o digest refl) ∙ none (content_row h.0 d o) h.1)

  one_each : (d one other : List ℕ) → HasContent (new contents_tree) d one → HasContent (new contents_tree) d other → one ≡ other
  one_each d one other h k = elim (comes_from d one h) [
    | inl was ↦ elim (comes_from d other k) [ inl also ↦ stands.single d one other was also | inr is ↦ absurd (not_there d one was is.0) ]
    | inr is ↦ elim (comes_from d other k) [ inl was ↦ absurd (not_there d other was is.0) | inr also ↦ is.1 ∙ sym also.1 ]
  ]

  each_content : (r : Row) → Has (new contents_tree) r → IsContentRow r
  each_content r h = elim (added_has contents_tree _ db new r added h) [
    | inl is ↦ (next_rowid (db contents_tree), digest, octets, is)
    | inr was ↦ all_has IsContentRow (db contents_tree) r stands.contents was
  ]

  pub stocked_anew : IsStocked db new digest octets
  stocked_anew = record {
    users = added.others.0 (λ h. absurd (omega (arith, h)));
    entries = added.others.1.1.0 (λ h. absurd (omega (arith, h)));
    rise = added_rises contents_tree _ db new added stands.contents_rise;
    contents = all_from IsContentRow (new contents_tree) each_content;
    single = one_each;
    has = (next_rowid (db contents_tree), has_added contents_tree _ db new added);
    kept = λ d o h. (h.0, added_keeps contents_tree _ db new (content_row h.0 d o) added h.1);
    from = comes_from;
    rowids = (1, omega arith, ap next_rowid (comes_last contents_tree _ db new added stands.contents_rise (keyed_all IsContentRow (db contents_tree) (λ r h. rw h.3) stands.contents)) ∙ next_after (db contents_tree) _);
  }

-- ---- and then the row

module _ (db mid new : Trees) (e : Entries) (x : Entry) (digest : List ℕ) (stands : StandsFor db e) (next : IsNext e x) (stocked : IsStocked db mid digest x.octets)
    (added : IsAdded entries_tree (entry_values x digest) mid new) where
  users_same : new users_tree ≡ db users_tree
  users_same = added.others.0 (λ h. absurd (omega (arith, h))) ∙ stocked.users

  contents_same : new contents_tree ≡ mid contents_tree
  contents_same = added.others.1.0 (λ h. absurd (omega (arith, h)))

  mid_rises : IsTable (mid entries_tree)
  mid_rises = subst IsTable (sym stocked.entries) stands.entries_rise

  grown : new entries_tree ≡ mid entries_tree ++ new_row (mid entries_tree) (entry_values x digest) ∷ []
  grown = comes_last entries_tree _ mid new added mid_rises (subst (AllByRecursion (λ r. IsTrue (is_int (rowid r)))) (sym stocked.entries) (entry_keys db e stands))

  olds : AllZip (IsEntryRow (mid contents_tree)) (mid entries_tree) e.entries
  olds = subst (λ rows. AllZip (IsEntryRow (mid contents_tree)) rows e.entries) (sym stocked.entries)
      (zip_weaker (IsEntryRow (db contents_tree)) (IsEntryRow (mid contents_tree)) (db entries_tree) e.entries (λ r y _ h. (h.0, h.1, h.2, stocked.kept h.1 y.octets h.3)) stands.entries)

  all : AllZip (IsEntryRow (new contents_tree)) (new entries_tree) (e.entries ++ x ∷ [])
  all = subst₂ (λ c rows. AllZip (IsEntryRow c) rows (e.entries ++ x ∷ [])) (sym contents_same) (sym grown)
      (zip_push (IsEntryRow (mid contents_tree)) (mid entries_tree) e.entries (new_row (mid entries_tree) (entry_values x digest)) x olds (next_rowid (mid entries_tree), digest, refl, stocked.has))

  name_each : (d o : List ℕ) → HasContent (mid contents_tree) d o → (r : Row) × Has (new entries_tree) r × (column r 7 ≡ Blob d)
  name_each d o h = elim (stocked.from d o h) [
    | inl was ↦ let r = stands.named d o was in (r.0, added_keeps entries_tree _ mid new r.0 added (subst (λ rows. Has rows r.0) (sym stocked.entries) r.1), r.2)
    | inr is ↦ (new_row (mid entries_tree) (entry_values x digest), has_added entries_tree _ mid new added, ap Blob (sym is.0))
  ]

  pub filed : StandsFor new (with_entry x e)
  filed = record {
    users_rise = subst IsTable (sym users_same) stands.users_rise;
    contents_rise = subst IsTable (sym contents_same) stocked.rise;
    entries_rise = added_rises entries_tree _ mid new added mid_rises;
    users = subst (AllByRecursion (IsUserRow e)) (sym users_same) stands.users;
    apart = subst HaveOneRow (sym users_same) stands.apart;
    strangers = subst (λ rows. (name : List ℕ) → ((r : Row) → Has rows r → equals 1 (Text name) r ≡ false) → (e.lasts name ≡ 0) × (e.programs name ≡ None)) (sym users_same) stands.strangers;
    contents = subst (AllByRecursion IsContentRow) (sym contents_same) stocked.contents;
    single = subst (λ rows. (d one other : List ℕ) → HasContent rows d one → HasContent rows d other → one ≡ other) (sym contents_same) stocked.single;
    entries = all;
    named = subst (λ rows. (d o : List ℕ) → HasContent rows d o → (r : Row) × Has (new entries_tree) r × (column r 7 ≡ Blob d)) (sym contents_same) name_each;
    numbers = record {
      limit = stands.numbers.limit;
      given = all_push _ e.entries x stands.numbers.given (next.first, next.within);
      rising = rises_push _ e.entries x stands.numbers.rising next.above;
    };
  }

-- ---- in a transaction

pub stocked_found : (old new : State) (digest octets : List ℕ) (row : Row) (there : List ℕ) → Steps (Reads (λ db. IsFound contents_tree (equals 1 (Blob digest)) (columns (2 ∷ [])) db (Some row))) old new
    → column row 0 ≡ Blob there → there ≡ octets → (before : Entries) → Stands old.now before → Stocks digest octets old new
stocked_found old new digest octets row there reads shown same before stands =
    let step = reads stands.schema in
    let held = subst (HasContent (old.now.trees contents_tree) digest) same (content_there old new digest row there reads shown before stands) in
    record {
      schema = step.schema;
      listed = step.listed stands.listed;
      committed = step.committed;
      tables = subst (λ t. IsStocked old.now.trees t digest octets) (sym step.change.0) (stocked_already old.now.trees before digest octets stands.tables held);
    }

-- where they are known to be there, nothing was looked up
pub stocked_there : (now : State) (digest octets : List ℕ) (before : Entries) → Stands now.now before → HasContent (now.now.trees contents_tree) digest octets → Stocks digest octets now now
stocked_there now digest octets before stands held = record {
  schema = stands.schema;
  listed = stands.listed;
  committed = refl;
  tables = stocked_already now.now.trees before digest octets stands.tables held;
}

pub other_found : (old new : State) (digest octets : List ℕ) (row : Row) (there : List ℕ) → Steps (Reads (λ db. IsFound contents_tree (equals 1 (Blob digest)) (columns (2 ∷ [])) db (Some row))) old new
    → column row 0 ≡ Blob there → there ≢ octets → (before : Entries) → Stands old.now before → IsOther old.now.trees digest octets
other_found old new digest octets row there reads shown apart before stands = (there, content_there old new digest row there reads shown before stands, apart)

pub stocked_none : (old mid new : State) (digest octets : List ℕ) → Steps (Reads (λ db. IsFound contents_tree (equals 1 (Blob digest)) (columns (2 ∷ [])) db None)) old mid
    → Steps (IsAdded contents_tree (Blob digest ∷ Blob octets ∷ [])) mid new → (before : Entries) → Stands old.now before → Stocks digest octets old new
stocked_none old mid new digest octets reads adds before stands =
    let one = reads stands.schema in
    let two = adds one.schema in
    let added = subst (λ t. IsAdded contents_tree (Blob digest ∷ Blob octets ∷ []) t new.now.trees) one.change.0 two.change in
    record {
      schema = two.schema;
      listed = two.listed (one.listed stands.listed);
      committed = two.committed ∙ one.committed;
      tables = stocked_anew old.now.trees new.now.trees before digest octets stands.tables one.change.1 added;
    }

pub files : (old mid new : State) (x : Entry) (digest : List ℕ) (before : Entries) → Stands old.now before → IsNext before x → Stocks digest x.octets old mid
    → Steps (IsAdded entries_tree (entry_values x digest)) mid new → Files x digest before old new
files old mid new x digest before stands next stocks adds =
    let step = adds stocks.schema in
    let same : new.now.trees contents_tree ≡ mid.now.trees contents_tree = step.change.others.1.0 (λ h. absurd (omega (arith, h))) in
    let held = stocks.tables in
    record {
      stands = record { schema = step.schema; listed = step.listed stocks.listed; tables = filed old.now.trees mid.now.trees new.now.trees before x digest stands.tables next held step.change };
      committed = step.committed ∙ stocks.committed;
      has = subst (λ rows. HasContent rows digest x.octets) (sym same) held.has;
      kept = λ d o h. subst (λ rows. HasContent rows d o) (sym same) (held.kept d o h);
      from = λ d o h. held.from d o (subst (λ rows. HasContent rows d o) same h);
      content_rowids = subst (RisesWithin 1 (old.now.trees contents_tree)) (sym same) held.rowids;
      entry_rowids = ap next_rowid (grown old.now.trees mid.now.trees new.now.trees before x digest stands.tables next held step.change) ∙ next_after (mid.now.trees entries_tree) _
          ∙ ap (λ rows. next_rowid rows +ℤ pos 1) held.entries;
    }

pub files_kept : (old mid new : State) (values : Row) → (old.now.schema ≡ store_schema → KeepsCommit old mid) → (old.now.schema ≡ store_schema → mid.now.schema ≡ store_schema)
    → Steps (IsAdded entries_tree values) mid new → old.now.schema ≡ store_schema → KeepsCommit old new
files_kept old mid new values one schema adds has =
    let first = one has in
    let step = adds (schema has) in
    record { was_open = λ h. first.was_open step.was_open; committed = λ h. step.committed ∙ first.committed step.was_open }
