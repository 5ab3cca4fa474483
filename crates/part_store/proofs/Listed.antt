-- The rows of a listing are those of the user's entries, in the order of their numbers.
use Rattle.std.proofs.Common.{◌≡◌, inl, inr, ℕ, suc, zero, ◌<◌, ◌≤◌, pos, false, cond, List, [], ◌∷◌, length, get_or, sum_by, nat_abs, refl, sym, ap, ◌∙◌, eqb, arith, IsPermutation, IsSorted, is_lt, int_cmp, eqb-true, eq-eqb}
use Rattle.std.specs.Ordering.{on}
use Rattle.std.specs.List.{AllByRecursion}
use Rattle.std.proofs.lemmas.Bool.{cases_Bool}
use Rattle.std.proofs.lemmas.Bool.Decides.{nat_tests}
use Rattle.std.proofs.lemmas.Int.{ints}
use Rattle.std.proofs.lemmas.List.Sums.{sum_by-cons}
use Rattle.std.proofs.lemmas.List.Sorted.{All-permutation, ranks_by, sorted_far, sum_by-IsPermutation}
use Rattle.sqlite_value.specs.declared.value.Value.TheVariants.{Int}
use Rattle.sqlite_value.specs.Order.{Row, column, value_cmp}
use Rattle.sqlite_value.proofs.OrderLemmas.{value_cmp_total, value_cmp-Int}
use Rattle.sqlite_trees.specs.Tree.{IsAscending}
use Rattle.sqlite_rules.specs.Lists.{Has}
use Rattle.sqlite_rules.specs.Edit.{id_in}
use Rattle.sqlite_rules.proofs.ListLemmas.{all_has}

-- ---- lists with one order

-- the number that a row shows first
abbrev pub number_in : Row → ℕ
number_in r = nat_abs (id_in (column r 0))

abbrev pub Rises : List Row → Type 0
Rises = IsAscending (λ a b. number_in a < number_in b)

abbrev NeverFalls : List Row → Type 0
NeverFalls = IsAscending (λ a b. number_in a ≤ number_in b)

abbrev one_if : ℕ → Row → ℕ
one_if n r = cond (eqb (number_in r) n) 1 0

-- some row has the number, so the least number is at most that
some_low : (n low : ℕ) (rows : List Row) → 0 < sum_by (one_if n) rows → AllByRecursion (λ r. low ≤ number_in r) rows → low ≤ n
some_low n low [] some all = absurd (omega arith)
some_low n low (r ∷ rows) some all = elim (cases_Bool (eqb (number_in r) n)) [
  | inl is ↦ omega (arith, all.0, eqb-true (number_in r) n is)
  | inr other ↦
      let cons = sum_by-cons (one_if n) r rows in
      let none : one_if n r ≡ 0 = rw other refl in
      some_low n low rows (omega (arith, cons, none, some)) all.1
]

counts_itself : (r : Row) (rows : List Row) → 0 < sum_by (one_if (number_in r)) (r ∷ rows)
counts_itself r rows =
    let one : one_if (number_in r) r ≡ 1 = rw (eq-eqb (number_in r) (number_in r) refl) refl in
    omega (arith, sum_by-cons (one_if (number_in r)) r rows, one)

pub all_weaker : {X : Type 0} (P Q : X → Type 0) (xs : List X) → ((x : X) → P x → Q x) → AllByRecursion P xs → AllByRecursion Q xs
all_weaker P Q [] f all = tt
all_weaker P Q (x ∷ xs) f all = (f x all.0, all_weaker P Q xs f all.1)

-- rows whose numbers rise, and the same rows in some order in which they never fall
one_order : (whole : List Row) → ((a b : Row) → Has whole a → Has whole b → number_in a ≡ number_in b → a ≡ b) → (xs ys : List Row) → AllByRecursion (Has whole) xs → AllByRecursion (Has whole) ys
    → ((f : Row → ℕ) → sum_by f ys ≡ sum_by f xs) → Rises xs → NeverFalls ys → ys ≡ xs
one_order whole single [] [] in_xs in_ys same up steady = refl
one_order whole single [] (y ∷ ys) in_xs in_ys same up steady = absurd (omega (arith, same (λ _. 1), sum_by-cons (λ _. 1) y ys))
one_order whole single (x ∷ xs) [] in_xs in_ys same up steady = absurd (omega (arith, same (λ _. 1), sum_by-cons (λ _. 1) x xs))
one_order whole single (x ∷ xs) (y ∷ ys) in_xs in_ys same up steady =
    let low_y = some_low (number_in x) (number_in y) (y ∷ ys) (omega (arith, same (one_if (number_in x)), counts_itself x xs)) (omega arith, steady.0) in
    let low_x = some_low (number_in y) (number_in x) (x ∷ xs) (omega (arith, same (one_if (number_in y)), counts_itself y ys)) (omega arith, all_weaker _ _ xs (λ r h. omega (arith, h)) up.0) in
    let first : y ≡ x = single y x in_ys.0 in_xs.0 (omega (arith, low_x, low_y)) in
    let rest = one_order whole single xs ys in_xs.1 in_ys.1 (λ f. let value = ap f first in omega (arith, same f, sum_by-cons f x xs, sum_by-cons f y ys, value)) up.1 steady.1 in
    rw (first, rest) refl

rising_single : (rows : List Row) → Rises rows → (a b : Row) → Has rows a → Has rows b → number_in a ≡ number_in b → a ≡ b
rising_single [] up a b there other same = absurd there
rising_single (r ∷ rows) up a b (inl is) (inl also) same = is ∙ sym also
rising_single (r ∷ rows) up a b (inl is) (inr later) same =
    let less = all_has (λ x. number_in r < number_in x) rows b up.0 later in
    absurd (omega (arith, less, same, ap number_in is))
rising_single (r ∷ rows) up a b (inr later) (inl is) same =
    let less = all_has (λ x. number_in r < number_in x) rows a up.0 later in
    absurd (omega (arith, less, same, ap number_in is))
rising_single (r ∷ rows) up a b (inr there) (inr other) same = rising_single rows up.1 a b there other same

-- ---- by places

pub all_of_places : {X : Type 0} (P : X → Type 0) (xs : List X) → ((k : ℕ) (d : X) → k < length xs → P (get_or xs k d)) → AllByRecursion P xs
all_of_places P [] all = tt
all_of_places P (x ∷ xs) all = (all zero x (omega arith), all_of_places P xs (λ k d lt. all (suc k) d (omega (arith, lt))))

pub ascending_of_places : {X : Type 0} (R : X → X → Type 0) (xs : List X) → ((i j : ℕ) (d : X) → i < j → j < length xs → R (get_or xs i d) (get_or xs j d)) → IsAscending R xs
ascending_of_places R [] all = tt
ascending_of_places R (x ∷ xs) all = (
  all_of_places (R x) xs (λ k d lt. all zero (suc k) d (omega arith) (omega (arith, lt))),
  ascending_of_places R xs (λ i j d le lt. all (suc i) (suc j) d (omega (arith, le)) (omega (arith, lt))),
)

has_itself : (rows : List Row) → AllByRecursion (Has rows) rows
has_itself [] = tt
has_itself (r ∷ rows) = (inl refl, all_weaker _ _ rows (λ x h. inr h) (has_itself rows))

has_place : (rows : List Row) (k : ℕ) (d : Row) → k < length rows → Has rows (get_or rows k d)
has_place [] k d lt = absurd (omega (arith, lt))
has_place (r ∷ rows) zero d lt = inl refl
has_place (r ∷ rows) (suc k) d lt = inr (has_place rows k d (omega (arith, lt)))

-- a row that shows a number first
abbrev pub HasNumber : Row → Type 0
HasNumber r = column r 0 ≡ Int (pos (number_in r))

not_after : (m n : ℕ) → is_lt (int_cmp (pos n) (pos m)) ≡ false → m ≤ n
not_after m n h = grind (arith, ints, nat_tests)

module _ (rows listed : List Row) (up : Rises rows) (numbers : AllByRecursion HasNumber rows) (same : IsPermutation rows listed) (sorted : IsSorted (on (λ r. column r 0) value_cmp) listed) where
  each_in : (k : ℕ) (d : Row) → k < length listed → Has rows (get_or listed k d)
  each_in = All-permutation (Has rows) rows listed same (has_place rows)

  number_at : (k : ℕ) (d : Row) → k < length listed → HasNumber (get_or listed k d)
  number_at k d lt = all_has HasNumber rows (get_or listed k d) numbers (each_in k d lt)

  never_falls : NeverFalls listed
  never_falls = ascending_of_places _ listed (λ i j d less lt.
      let le : i ≤ j = omega (arith, less) in
      let far = sorted_far (λ x y. is_lt (value_cmp (column x 0) (column y 0))) (ranks_by value_cmp_total (λ (r : Row). column r 0)) listed sorted i j d le lt in
      let low = number_at i d (omega (arith, le, lt)) in
      let high = number_at j d lt in
      not_after (number_in (get_or listed i d)) (number_in (get_or listed j d))
      (sym (ap is_lt (value_cmp-Int (pos (number_in (get_or listed j d))) (pos (number_in (get_or listed i d))))) ∙ sym (ap (λ v. is_lt (value_cmp (Int (pos (number_in (get_or listed j d)))) v)) low) ∙ sym (ap (λ v. is_lt (value_cmp v (column (get_or listed i d) 0))) high) ∙ far))

  pub listed_so : listed ≡ rows
  listed_so = one_order rows (rising_single rows up) rows listed (has_itself rows) (all_of_places (Has rows) listed each_in) (λ f. sum_by-IsPermutation f rows listed same) up never_falls
