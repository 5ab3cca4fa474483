-- The tables without an entry.
use Rattle.std.proofs.Common.{◌≡◌, ◌⊎◌, inl, inr, ℕ, ◌<◌, ℤ, Bool, true, false, not, IsTrue, List, [], ◌∷◌, filter, None, refl, sym, ap, subst, ◌∙◌, bytes_eq, arith}
use Rattle.std.specs.List.{AllByRecursion, AllZip}
use Rattle.std.proofs.lemmas.Bool.{cases_Bool, true≢false, and_parts, not-true, eqb-true}
use Rattle.sqlite_value.specs.declared.keys.Collation.TheVariants.{Binary}
use Rattle.sqlite_schema.specs.Rules.{equal}
use Rattle.sqlite_value.specs.declared.value.Value.TheVariants.{Text, Blob}
use Rattle.sqlite_value.specs.Order.{Row, column}
use Rattle.sqlite_trees.specs.Tree.{Trees, rowid, IsAscending, IsTable}
use Rattle.sqlite_trees.specs.View.{is_int}
use Rattle.sqlite_rules.specs.Lists.{Has}
use Rattle.sqlite_rules.proofs.ListLemmas.{all_has, all_from, has_filtered, has_kept}
use Rattle.sqlite.specs.Effect.{IsDatabase}
use Rattle.sqlite.specs.State.{State, KeepsCommit}
use Rattle.part_store.specs.Tables.{store_schema, users_tree, contents_tree, entries_tree, equals}
use Rattle.part_store.specs.Changes.{is_entry, IsTaken, Steps, IsTidied, IsTableIn}
use Rattle.part_store.specs.Entries.{Entry, Entries, is_at, without_entry}
use Rattle.part_store.specs.Standing.{AddsVerified, IsUserRow, IsEntryRow, IsContentRow, HasContent, content_row, StandsFor, Stands, HaveOneRow}
use Rattle.part_store.specs.Inside.{Brings, Stays}
use Rattle.part_store.specs.Readings.{NamesDigest}
use Rattle.part_store.proofs.Gaining.{filter_rises, keyed_all}
use Rattle.part_store.proofs.Equals.{equal_blobs}
use Rattle.part_store.proofs.Finding.{zip_found, row_test, content_test, same_blob}
use Rattle.part_store.proofs.Filed.{zip_weaker, entry_keys}
use Rattle.part_store.proofs.Programs.{same_bytes, bytes_same}
use Rattle.part_store.proofs.Stored.{still_listed}
use Rattle.part_store.proofs.Causes.{contents_table_in}

zip_filtered : {X Y : Type 0} (R : X → Y → Type 0) (p : X → Bool) (q : Y → Bool) (xs : List X) (ys : List Y) → ((x : X) (y : Y) → R x y → p x ≡ q y) → AllZip R xs ys → AllZip R (filter p xs) (filter q ys)
zip_filtered R p q [] [] same all = tt
zip_filtered R p q [] (y ∷ ys) same all = absurd all
zip_filtered R p q (x ∷ xs) [] same all = absurd all
zip_filtered R p q (x ∷ xs) (y ∷ ys) same all = elim (cases_Bool (q y)) [
  | inl e ↦ rw (same x y all.0 ∙ e, e) (all.0, zip_filtered R p q xs ys same all.1)
  | inr e ↦ rw (same x y all.0 ∙ e, e) (zip_filtered R p q xs ys same all.1)
]

abbrev Rises : Entry → Entry → Type 0
Rises x y = x.user ≡ y.user → x.number < y.number

never_later : (user : List ℕ) (number : ℕ) (x y : Entry) (es : List Entry) → AllByRecursion (Rises x) es → Has es y → is_at user number x ≡ true → is_at user number y ≡ true → ⊥
never_later user number x y es up h one other =
    let a = and_parts _ _ one in
    let b = and_parts _ _ other in
    let low = all_has (Rises x) es y up h (same_bytes x.user user a.0 ∙ sym (same_bytes y.user user b.0)) in
    omega (arith, low, eqb-true x.number number a.1, eqb-true y.number number b.1)

-- a user has one row of a number
pub same_row : (contents rows : List Row) (es : List Entry) (user : List ℕ) (number : ℕ) → AllZip (IsEntryRow contents) rows es → IsAscending Rises es → (r s : Row) → Has rows r → Has rows s
    → is_entry user number r ≡ true → is_entry user number s ≡ true → r ≡ s
same_row contents [] es user number all up r s h k one other = absurd h
same_row contents (a ∷ rows) [] user number all up r s h k one other = absurd all
same_row contents (a ∷ rows) (x ∷ es) user number all up r s (inl h) (inl k) one other = h ∙ sym k
same_row contents (a ∷ rows) (x ∷ es) user number all up r s (inl h) (inr k) one other =
    let y = zip_found (IsEntryRow contents) rows es s all.1 k in
    absurd (never_later user number x y.0 es up.0 y.1 (sym (row_test contents a x user number all.0) ∙ ap (is_entry user number) (sym h) ∙ one) (sym (row_test contents s y.0 user number y.2) ∙ other))
same_row contents (a ∷ rows) (x ∷ es) user number all up r s (inr h) (inl k) one other =
    let y = zip_found (IsEntryRow contents) rows es r all.1 h in
    absurd (never_later user number x y.0 es up.0 y.1 (sym (row_test contents a x user number all.0) ∙ ap (is_entry user number) (sym k) ∙ other) (sym (row_test contents r y.0 user number y.2) ∙ one))
same_row contents (a ∷ rows) (x ∷ es) user number all up r s (inr h) (inr k) one other = same_row contents rows es user number all.1 up.1 r s h k one other

module _ (db new : Trees) (e : Entries) (user : List ℕ) (number : ℕ) (stands : StandsFor db e) (keep : Row → Bool)
    (users : new users_tree ≡ db users_tree) (entries : new entries_tree ≡ filter (λ r. not (is_entry user number r)) (db entries_tree)) (contents : new contents_tree ≡ filter keep (db contents_tree))
    (needed : (r : Row) → Has (new entries_tree) r → (id : ℤ) (d o : List ℕ) → column r 7 ≡ Blob d → keep (content_row id d o) ≡ true)
    (naming : (d o : List ℕ) → HasContent (new contents_tree) d o → (r : Row) × Has (new entries_tree) r × (column r 7 ≡ Blob d)) where
  abbrev after : Entries
  after = without_entry user number e

  was : (d o : List ℕ) → HasContent (new contents_tree) d o → HasContent (db contents_tree) d o
  was d o h = (h.0, (has_filtered keep (db contents_tree) (content_row h.0 d o) (subst (λ rows. Has rows (content_row h.0 d o)) contents h.1)).0)

  left : AllZip (IsEntryRow (db contents_tree)) (new entries_tree) after.entries
  left = subst (λ rows. AllZip (IsEntryRow (db contents_tree)) rows after.entries) (sym entries)
      (zip_filtered (IsEntryRow (db contents_tree)) (λ r. not (is_entry user number r)) (λ x. not (is_at user number x)) (db entries_tree) e.entries (λ r x h. ap not (row_test (db contents_tree) r x user number h)) stands.entries)

  still : (d o : List ℕ) (r : Row) → Has (new entries_tree) r → column r 7 ≡ Blob d → HasContent (db contents_tree) d o → HasContent (new contents_tree) d o
  still d o r there names h = (h.0, subst (λ rows. Has rows (content_row h.0 d o)) (sym contents) (has_kept keep (db contents_tree) (content_row h.0 d o) h.1 (needed r there h.0 d o names)))

  pub left_over : StandsFor new after
  left_over = record {
    users_rise = subst IsTable (sym users) stands.users_rise;
    contents_rise = subst IsTable (sym contents) (filter_rises _ keep (db contents_tree) stands.contents_rise);
    entries_rise = subst IsTable (sym entries) (filter_rises _ _ (db entries_tree) stands.entries_rise);
    users = subst (AllByRecursion (IsUserRow e)) (sym users) stands.users;
    apart = subst HaveOneRow (sym users) stands.apart;
    strangers = subst (λ rows. (name : List ℕ) → ((r : Row) → Has rows r → equals 1 (Text name) r ≡ false) → (e.lasts name ≡ 0) × (e.programs name ≡ None)) (sym users) stands.strangers;
    contents = all_from IsContentRow (new contents_tree) (λ r h. all_has IsContentRow (db contents_tree) r stands.contents (has_filtered keep (db contents_tree) r (subst (λ rows. Has rows r) contents h)).0);
    single = λ d one other h k. stands.single d one other (was d one h) (was d other k);
    entries = zip_weaker (IsEntryRow (db contents_tree)) (IsEntryRow (new contents_tree)) (new entries_tree) after.entries
        (λ r x there h. (h.0, h.1, h.2, still h.1 x.octets r there (ap (λ (r : Row). column r 7) h.2) h.3)) left;
    named = naming;
    numbers = record {
      limit = stands.numbers.limit;
      given = all_from _ after.entries (λ x h. all_has _ e.entries x stands.numbers.given (has_filtered _ e.entries x h).0);
      rising = filter_rises Rises _ e.entries stands.numbers.rising;
    };
  }

keep_all : {X : Type 0} (xs : List X) → xs ≡ filter (λ _. true) xs
keep_all [] = refl
keep_all (x ∷ xs) = ap (λ ys. x ∷ ys) (keep_all xs)

module _ (db one : Trees) (e : Entries) (user : List ℕ) (number : ℕ) (digest : List ℕ) (stands : StandsFor db e) (names : NamesDigest db user number digest)
    (gone : IsTaken entries_tree (is_entry user number) db one) where
  rows_left : one entries_tree ≡ filter (λ r. not (is_entry user number r)) (db entries_tree)
  rows_left = gone.rows stands.entries_rise (entry_keys db e stands)

  users_left : one users_tree ≡ db users_tree
  users_left = gone.others.0 (λ h. absurd (omega (arith, h)))

  contents_left : one contents_tree ≡ db contents_tree
  contents_left = gone.others.1.0 (λ h. absurd (omega (arith, h)))

  -- a content that no entry names any more is that of the digest
  name_left : (d o : List ℕ) → HasContent (db contents_tree) d o → ((r : Row) × Has (one entries_tree) r × (column r 7 ≡ Blob d)) ⊎ (d ≡ digest)
  name_left d o h =
      let r = stands.named d o h in
      elim (cases_Bool (is_entry user number r.0)) [
        | inl mine ↦
            let same = same_row (db contents_tree) (db entries_tree) e.entries user number stands.entries stands.numbers.rising r.0 names.0 r.1 names.1 mine names.2 in
            inr (same_blob d digest (sym r.2 ∙ ap (λ (r : Row). column r 7) same ∙ names.3))
        | inr other ↦ inl (r.0, subst (λ rows. Has rows r.0) (sym rows_left) (has_kept _ (db entries_tree) r.0 r.1 (ap not other)), r.2)
      ]

  -- another entry names the digest, so its octets stay
  pub shared_left : (r : Row) → Has (one entries_tree) r → column r 7 ≡ Blob digest → StandsFor one (without_entry user number e)
  shared_left r there is = left_over db one e user number stands (λ _. true) users_left rows_left (contents_left ∙ keep_all (db contents_tree)) (λ s h id d o n. refl)
      (λ d o h. elim (name_left d o (subst (λ rows. HasContent rows d o) contents_left h)) [ inl named ↦ named | inr same ↦ (r, there, is ∙ ap Blob (sym same)) ])

  -- no entry names it, and its octets go
  pub alone_left : (two : Trees) → ((r : Row) → Has (one entries_tree) r → equals 7 (Blob digest) r ≡ false) → IsTaken contents_tree (equals 1 (Blob digest)) one two → StandsFor two (without_entry user number e)
  alone_left two none taken =
      let rise = subst IsTable (sym contents_left) stands.contents_rise in
      let keys = keyed_all IsContentRow (one contents_tree) (λ r h. rw h.3) (subst (AllByRecursion IsContentRow) (sym contents_left) stands.contents) in
      let contents : two contents_tree ≡ filter (λ r. not (equals 1 (Blob digest) r)) (db contents_tree) = taken.rows rise keys ∙ ap (filter (λ r. not (equals 1 (Blob digest) r))) contents_left in
      let entries : two entries_tree ≡ one entries_tree = taken.others.1.1.0 (λ h. absurd (omega (arith, h))) in
      left_over db two e user number stands (λ r. not (equals 1 (Blob digest) r)) (taken.others.0 (λ h. absurd (omega (arith, h))) ∙ users_left) (entries ∙ rows_left) contents
      (λ r h id d o n. ap not (content_test (content_row id d o) id d o digest refl ∙ sym (equal_blobs d digest) ∙ ap (λ v. equal Binary v (Blob digest)) (sym n) ∙ none r (subst (λ rows. Has rows r) entries h)))
      (λ d o h.
      let kept = has_filtered (λ r. not (equals 1 (Blob digest) r)) (db contents_tree) (content_row h.0 d o) (subst (λ rows. Has rows (content_row h.0 d o)) contents h.1) in
      elim (name_left d o (h.0, kept.0)) [
        | inl named ↦ (named.0, subst (λ rows. Has rows named.0) (sym entries) named.1, named.2)
        | inr same ↦ absurd (true≢false (sym (ap (bytes_eq d) (sym same) ∙ bytes_same d) ∙ sym (content_test (content_row h.0 d o) h.0 d o digest refl) ∙ not-true _ kept.1))
      ])

-- ---- in a transaction

named_blob : (db : Trees) (e : Entries) (digest : List ℕ) (r : Row) → StandsFor db e → Has (db entries_tree) r → equals 7 (Blob digest) r ≡ true → column r 7 ≡ Blob digest
named_blob db e digest r stands h is =
    let x = zip_found (IsEntryRow (db contents_tree)) (db entries_tree) e.entries r stands.entries h in
    let column_is : column r 7 ≡ Blob x.2.1 = ap (λ (r : Row). column r 7) x.2.2 in
    column_is ∙ ap Blob (same_bytes x.2.1 digest (sym (equal_blobs x.2.1 digest) ∙ ap (λ v. equal Binary v (Blob digest)) (sym column_is) ∙ is))

pub entry_taken_out : (old one two new : State) (user : List ℕ) (number : ℕ) (digest : List ℕ) → ((before : Entries) → Stands old.now before → NamesDigest old.now.trees user number digest) → Stays old one
    → (old.now.schema ≡ store_schema → KeepsCommit old one) → Steps (IsTaken entries_tree (is_entry user number)) one two → (two.now.schema ≡ store_schema → IsDatabase two.now → IsTableIn contents_tree two.now.trees → IsTidied digest two new) → Brings (without_entry user number) old new
entry_taken_out old one two new user number digest told stays commits takes tidies before stands =
    let same = stays stands.schema in
    let step = takes same.0 in
    let gone = subst (λ t. IsTaken entries_tree (is_entry user number) t two.now.trees) same.1 step.change in
    let names = told before stands in
    let contents = contents_left old.now.trees two.now.trees before user number digest stands.tables names gone in
    let listed = step.listed (still_listed old.now one.now same.0 same.1 stands) in
    let keyed = subst (λ rows. IsTable rows × AllByRecursion (λ r. IsTrue (is_int (rowid r))) rows) (sym contents) (contents_table_in old before stands) in
    let tidied = tidies step.schema listed keyed in
    let tables : StandsFor new.now.trees (without_entry user number before) = elim tidied.change [
      | inl shared ↦ subst (λ t. StandsFor t (without_entry user number before)) (sym shared.3) (shared_left old.now.trees two.now.trees before user number digest stands.tables names gone shared.0 shared.1
          (let was = has_filtered (λ r. not (is_entry user number r)) (old.now.trees entries_tree) shared.0 (subst (λ rows. Has rows shared.0) (rows_left old.now.trees two.now.trees before user number digest stands.tables names gone) shared.1) in
          named_blob old.now.trees before digest shared.0 stands.tables was.0 shared.2))
      | inr alone ↦ alone_left old.now.trees two.now.trees before user number digest stands.tables names gone new.now.trees alone.0 alone.1
    ] in
    let verified : AddsVerified old.now.trees new.now.trees = λ d o h. inl (subst (λ rows. HasContent rows d o) contents (elim tidied.change [
      | inl shared ↦ subst (λ (t : Trees). HasContent (t contents_tree) d o) shared.3 h
      | inr alone ↦ (
        h.0,
        (has_filtered (λ r. not (equals 1 (Blob digest) r)) (two.now.trees contents_tree) (content_row h.0 d o)
            (subst (λ rows. Has rows (content_row h.0 d o)) (alone.1.rows keyed.0 keyed.1) h.1)).0,
      )
    ])) in
    (record { schema = tidied.schema; listed = tidied.listed listed; tables = tables }, tidied.committed ∙ step.committed ∙ (commits stands.schema).committed step.was_open, verified)
