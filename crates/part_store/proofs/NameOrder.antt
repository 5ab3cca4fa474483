-- What is listed by users' names has each name once, and the names rise.
use Rattle.std.proofs.Common.{◌≡◌, inl, inr, ℕ, ◌≤◌, Bool, true, false, cond, List, [], ◌∷◌, map, filter, sum_by, Ordering, Less, Equal, Greater, is_lt, is_eq, refl, sym, ap, subst, ◌∙◌, arith}
use Rattle.std.specs.List.{AllByRecursion}
use Rattle.std.specs.Ordering.{nat_cmp}
use Rattle.std.specs.Cmp.Lexicographic.{slice_cmp}
use Rattle.std.proofs.lemmas.Bool.{cases_Bool, true≢false, false_from_ne_true}
use Rattle.std.proofs.lemmas.Cmp.{tied_itself, nat_list_cmp_total}
use Rattle.std.proofs.lemmas.List.Sums.{sum_by-cons}
use Rattle.std.proofs.lemmas.List.Sorted.{ranks_by, sorted_far, sum_by-IsPermutation}
use Rattle.std.proofs.lemmas.Map.Text.{is_eq-slice_cmp}
use Rattle.sqlite_value.specs.declared.value.Value.TheVariants.{Text}
use Rattle.sqlite_value.specs.Order.{Row, column, value_cmp}
use Rattle.sqlite_value.proofs.OrderLemmas.{value_cmp_total, value_cmp-Text}
use Rattle.sqlite_trees.specs.Tree.{Trees, rowid, IsAscending, IsTable}
use Rattle.sqlite_rules.specs.Lists.{Has}
use Rattle.sqlite_rules.proofs.ListLemmas.{all_has, has_filtered}
use Rattle.part_store.specs.Tables.{users_tree, equals}
use Rattle.part_store.specs.Changes.{columns, IsListed}
use Rattle.part_store.specs.Entries.{Entries}
use Rattle.part_store.specs.Standing.{HaveOneRow, StandsFor}
use Rattle.part_store.proofs.Apart.{bytes_same}
use Rattle.part_store.proofs.Equals.{equal_texts}
use Rattle.part_store.proofs.Gaining.{filter_rises}
use Rattle.part_store.proofs.Listed.{ascending_of_places}

-- what is shown of a row, the name first
abbrev shown : List ℕ → Row → Row
shown more = columns (1 ∷ more)

-- ---- how often a name is shown

abbrev one_if : List ℕ → Row → ℕ
one_if name row = cond (equals 0 (Text name) row) 1 0

none_counted : (more name : List ℕ) (rows : List Row) → ((r : Row) → Has rows r → equals 1 (Text name) r ≡ false) → sum_by (one_if name) (map (shown more) rows) ≡ 0
none_counted more name [] none = refl
none_counted more name (r ∷ rows) none =
    let here : one_if name (shown more r) ≡ 0 = rw (none r (inl refl)) refl in
    omega (arith, sum_by-cons (one_if name) (shown more r) (map (shown more) rows), here, none_counted more name rows (λ s there. none s (inr there)))

-- a row isn't below itself
not_itself : (r s : Row) → value_cmp (rowid r) (rowid s) ≡ Less → r ≡ s → ⊥
not_itself r s less same =
    let tie : value_cmp (rowid r) (rowid s) ≡ Equal = ap (λ (x : Row). value_cmp (rowid r) (rowid x)) (sym same) ∙ tied_itself value_cmp_total (rowid r) in
    absurd (let e = sym less ∙ tie in cc)

once_shown : (more name : List ℕ) (rows : List Row) → IsTable rows → HaveOneRow rows → sum_by (one_if name) (map (shown more) rows) ≤ 1
once_shown more name [] up apart = omega arith
once_shown more name (r ∷ rows) up apart = elim (cases_Bool (equals 1 (Text name) r)) [
  | inl mine ↦
      let others = none_counted more name rows (λ s there. false_from_ne_true _ (λ also.
      not_itself r s (all_has _ rows s up.0 there) (apart name r s (inl refl) (inr there) mine also))) in
      let here : one_if name (shown more r) ≡ 1 = rw mine refl in
      omega (arith, sum_by-cons (one_if name) (shown more r) (map (shown more) rows), here, others)
  | inr other ↦
      let here : one_if name (shown more r) ≡ 0 = rw other refl in
      omega (arith, sum_by-cons (one_if name) (shown more r) (map (shown more) rows), here, once_shown more name rows up.1 (λ n one two h k. apart n one two (inr h) (inr k)))
]

-- ---- names that rise

abbrev NeverFalls : List Row → Type 0
NeverFalls = IsAscending (λ a b. is_lt (value_cmp (column b 0) (column a 0)) ≡ false)

only_greater : (o : Ordering) → is_lt o ≡ false → is_eq o ≡ false → o ≡ Greater
only_greater Less h k = absurd (true≢false h)
only_greater Equal h k = absurd (true≢false k)
only_greater Greater h k = refl

turned : (m n : List ℕ) → slice_cmp nat_cmp n m ≡ Greater → slice_cmp nat_cmp m n ≡ Less
turned m n h = nat_list_cmp_total.antisymm m n ∙ rw h refl

-- a name that isn't less, and isn't the same, is greater
rises_to : (m n : List ℕ) (y : Row) → column y 0 ≡ Text n → is_lt (value_cmp (column y 0) (Text m)) ≡ false → equals 0 (Text m) y ≡ false → slice_cmp nat_cmp m n ≡ Less
rises_to m n y is not_less other =
    let apart : is_eq (slice_cmp nat_cmp n m) ≡ false = is_eq-slice_cmp n m ∙ sym (equal_texts n m) ∙ sym (ap (λ v. equals 0 (Text m) (v ∷ [])) is) ∙ other in
    turned m n (only_greater _ (sym (ap is_lt (value_cmp-Text n m)) ∙ ap (λ v. is_lt (value_cmp v (Text m))) (sym is) ∙ not_less) apart)

module _ {X : Type 0} (name_of : X → List ℕ) where
  above : (name : List ℕ) (rows : List Row) (xs : List X) → map (λ x. Text (name_of x)) xs ≡ map (λ (r : Row). column r 0) rows → AllByRecursion (λ y. is_lt (value_cmp (column y 0) (Text name)) ≡ false) rows
      → sum_by (one_if name) rows ≡ 0 → AllByRecursion (λ (x : X). slice_cmp nat_cmp name (name_of x) ≡ Less) xs
  above name rows [] same up none = tt
  above name [] (x ∷ xs) same up none = absurd (cc)
  above name (y ∷ rows) (x ∷ xs) same up none =
      let cons = sum_by-cons (one_if name) y rows in
      let is : column y 0 ≡ Text (name_of x) = cc in
      let later : map (λ x. Text (name_of x)) xs ≡ map (λ (r : Row). column r 0) rows = cc in
      let other : equals 0 (Text name) y ≡ false = false_from_ne_true _ (λ found. let one : one_if name y ≡ 1 = rw found refl in absurd (omega (arith, cons, none, one))) in
      (rises_to name (name_of x) y is up.0 other, above name rows xs later up.1 (omega (arith, cons, none)))

  rises : (rows : List Row) (xs : List X) → map (λ x. Text (name_of x)) xs ≡ map (λ (r : Row). column r 0) rows → NeverFalls rows → ((name : List ℕ) → sum_by (one_if name) rows ≤ 1)
      → IsAscending (λ x y. slice_cmp nat_cmp (name_of x) (name_of y) ≡ Less) xs
  rises rows [] same up once = tt
  rises [] (x ∷ xs) same up once = absurd (cc)
  rises (y ∷ rows) (x ∷ xs) same up once =
      let is : column y 0 ≡ Text (name_of x) = cc in
      let later : map (λ x. Text (name_of x)) xs ≡ map (λ (r : Row). column r 0) rows = cc in
      let mine : equals 0 (Text (name_of x)) y ≡ true = ap (λ v. equals 0 (Text (name_of x)) (v ∷ [])) is ∙ equal_texts (name_of x) (name_of x) ∙ bytes_same (name_of x) in
      let one : one_if (name_of x) y ≡ 1 = rw mine refl in
      let none : sum_by (one_if (name_of x)) rows ≡ 0 = omega (arith, sum_by-cons (one_if (name_of x)) y rows, once (name_of x), one) in (
        above (name_of x) rows xs later (subst (λ v. AllByRecursion (λ r. is_lt (value_cmp (column r 0) v) ≡ false) rows) is up.0) none,
        rises rows xs later up.1 (λ name. omega (arith, sum_by-cons (one_if name) y rows, once name)),
      )

-- ---- the answer

module _ (db : Trees) (e : Entries) (stands : StandsFor db e) (test : Row → Bool) (more : List ℕ) (rows : List Row) (listed : IsListed users_tree test (shown more) rows db) where
  never_falls : NeverFalls rows
  never_falls = ascending_of_places _ rows (λ i j d less lt.
      sorted_far (λ x y. is_lt (value_cmp (column x 0) (column y 0))) (ranks_by value_cmp_total (λ (r : Row). column r 0)) rows listed.sorted i j d (omega (arith, less)) lt)

  once : (name : List ℕ) → sum_by (one_if name) rows ≤ 1
  once name =
      let having = filter test (db users_tree) in
      let rest : HaveOneRow having = λ n one other h k. stands.apart n one other (has_filtered _ (db users_tree) one h).0 (has_filtered _ (db users_tree) other k).0 in
      omega (arith, sum_by-IsPermutation (one_if name) (map (shown more) having) rows listed.same, once_shown more name having (filter_rises _ _ (db users_tree) stands.users_rise) rest)

  pub names_rise : {X : Type 0} (name_of : X → List ℕ) (xs : List X) → map (λ x. Text (name_of x)) xs ≡ map (λ (r : Row). column r 0) rows → IsAscending (λ x y. slice_cmp nat_cmp (name_of x) (name_of y) ≡ Less) xs
  names_rise name_of xs same = rises name_of rows xs same never_falls once
