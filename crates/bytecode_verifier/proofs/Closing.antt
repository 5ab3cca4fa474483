-- The Next of an Each: the nearest one after it whose Each doesn't stand after it too.
use Rattle.std.proofs.Common.{◌≡◌, ℕ, zero, suc, ◌+◌, ◌-◌, ◌<◌, ◌≤◌, Bool, true, false, cond, ◌&&◌, ◌==◌, nat_lt, List, [], ◌∷◌, Option, Some, None, length, take, drop, count_by, slice_get, slice_range, refl, sym, ap, ap₂, ◌∙◌, inl, inr, arith, length-drop, drop-cons}
use Rattle.std.proofs.lemmas.Bool.{cases_lt, cases_eq, lt-ltb, le-ltb, eq-eqb, ne_eqb}
use Rattle.std.proofs.lemmas.Option.{slice_get_within, get_or_from_slice_get}
use Rattle.std.proofs.lemmas.List.Sums.{sum_by-cons}
use Rattle.bytecode_format.specs.declared.instruction.Instruction.{Instruction}
use Rattle.bytecode_format.specs.declared.operation.Operation.{Operation}
use Rattle.bytecode_format.specs.declared.operation.Operation.TheVariants.{Each, Next}
use Rattle.bytecode_format.specs.Operations.{operation_of}
use Rattle.bytecode_verifier.specs.Places.{least_below}
use Rattle.bytecode_verifier.specs.Loops.{opens, closes, is_balanced, next_of}
use Rattle.bytecode_verifier.specs.Nests.{without_first, waiting_over, waiting_from, next_over}
use Rattle.bytecode_verifier.proofs.Least.{least_of_none}

-- what an operation is among brackets
pub data Kind (o : Option Operation) : Type 0 where
  is_each : o ≡ Some Each → Kind o
  is_next : o ≡ Some Next → Kind o
  is_neither : opens o ≡ false → closes o ≡ false → ((place : ℕ) (later : List ℕ) → waiting_over o place later ≡ later) → ((later : List ℕ) → next_over o later ≡ 0) → Kind o

pub kind : (o : Option Operation) → Kind o
kind (Some Each) = is_each refl
kind (Some Next) = is_next refl
kind _ = is_neither refl refl (λ place later. refl) (λ later. refl)

-- the number at a place of a list, if there is one
abbrev pub nth : List ℕ → ℕ → Option ℕ
nth [] n = None
nth (x ∷ xs) zero = Some x
nth (x ∷ xs) (suc n) = nth xs n

-- the least number from one on, and below another, that passes a test
abbrev pub Least : (ℕ → Bool) → ℕ → ℕ → Option ℕ → Type 0
Least test from to None = (j : ℕ) → from ≤ j → j < to → test j ≡ false
Least test from to (Some q) = (from ≤ q) × (q < to) × (test q ≡ true) × ((j : ℕ) → from ≤ j → j < q → test j ≡ false)

least_earlier : (test : ℕ → Bool) (from to : ℕ) (o : Option ℕ) → test from ≡ false → Least test (suc from) to o → Least test from to o
least_earlier test from to None none least = λ j le lt. elim (cases_eq j from) [
  | inl same ↦ rw same none
  | inr ne ↦ least j (omega arith) lt
]
least_earlier test from to (Some q) none least = (
  omega (arith, least.0),
  least.1,
  least.2,
  λ j le lt. elim (cases_eq j from) [
    | inl same ↦ rw same none
    | inr ne ↦ least.3 j (omega arith) lt
  ],
)

least_here : (test : ℕ → Bool) (from to : ℕ) → from < to → test from ≡ true → Least test from to (Some from)
least_here test from to lt passes = (omega arith, lt, passes, λ j le less. absurd (omega arith))

least_is : (test : ℕ → Bool) (q n : ℕ) → q < n → test q ≡ true → ((j : ℕ) → j < q → test j ≡ false) → least_below test n ≡ Some q
least_is test q zero lt passes before = absurd (omega arith)
least_is test q (suc n) lt passes before =
    elim (cases_eq q n) [
      | inl same ↦ rw (← same, least_of_none test q before, passes) refl
      | inr ne ↦ rw (least_is test q n (omega arith) passes before) refl
    ]

-- the least number of all, where none below the first passes
pub least_below_is : (test : ℕ → Bool) (from to : ℕ) (o : Option ℕ) → ((j : ℕ) → j < from → test j ≡ false) → Least test from to o → least_below test to ≡ o
least_below_is test from to None below least =
    least_of_none test to (λ j lt. elim (cases_lt j from) [
      | inl less ↦ below j less
      | inr more ↦ least j more lt
    ])
least_below_is test from to (Some q) below least =
    least_is test q to least.1 least.2 (λ j lt. elim (cases_lt j from) [
      | inl less ↦ below j less
      | inr more ↦ least.3 j more lt
    ])

-- two tests of equality that agree
pub same_test : (a b c d : ℕ) → (a ≡ b → c ≡ d) → (c ≡ d → a ≡ b) → (a == b) ≡ (c == d)
same_test a b c d f g = elim (cases_eq a b) [
  | inl same ↦ eq-eqb a b same ∙ sym (eq-eqb c d (f same))
  | inr differ ↦ ne_eqb a b differ ∙ sym (ne_eqb c d (λ e. differ (g e)))
]

abbrev ups : Option Operation → ℕ
ups o = cond (opens o) 1 0

abbrev downs : Option Operation → ℕ
downs o = cond (closes o) 1 0

abbrev opened : List Instruction → ℕ
opened xs = count_by (λ i. opens (operation_of i.op)) xs

abbrev closed : List Instruction → ℕ
closed xs = count_by (λ i. closes (operation_of i.op)) xs

opened_more : (i : Instruction) (xs : List Instruction) → opened (i ∷ xs) ≡ ups (operation_of i.op) + opened xs
opened_more i xs = sum_by-cons _ i xs

closed_more : (i : Instruction) (xs : List Instruction) → closed (i ∷ xs) ≡ downs (operation_of i.op) + closed xs
closed_more i xs = sum_by-cons _ i xs

opened_one : (i : Instruction) (xs : List Instruction) (n : ℕ) → ups (operation_of i.op) ≡ n → opened (i ∷ xs) ≡ n + opened xs
opened_one i xs n e = opened_more i xs ∙ ap (λ m. m + opened xs) e

closed_one : (i : Instruction) (xs : List Instruction) (n : ℕ) → downs (operation_of i.op) ≡ n → closed (i ∷ xs) ≡ n + closed xs
closed_one i xs n e = closed_more i xs ∙ ap (λ m. m + closed xs) e

none_opened : opened [] ≡ 0
none_opened = refl

none_closed : closed [] ≡ 0
none_closed = refl

second : (xs : List ℕ) (d : ℕ) → nth xs (suc d) ≡ nth (without_first xs) d
second [] d = refl
second (x ∷ xs) d = refl

-- up to the d-th of those that wait all that is open is closed, with d that are open before, and no earlier
abbrev Tests : (ℕ → Bool) → List Instruction → ℕ → ℕ → Type 0
Tests test ys from d = (m : ℕ) → m < length ys → test (from + m) ≡ (opened (take (suc m) ys) + suc d == closed (take (suc m) ys))

-- the counts after one instruction more
tests_after : (test : ℕ → Bool) (i : Instruction) (ys : List Instruction) (from d more a b : ℕ) → ups (operation_of i.op) ≡ a → downs (operation_of i.op) ≡ b
    → a + d ≡ b + more → Tests test (i ∷ ys) from d → Tests test ys (suc from) more
tests_after test i ys from d more a b opening closing balance tests = λ m lt.
    let place : suc from + m ≡ from + suc m = omega arith in
    let more_ups = opened_one i (take (suc m) ys) a opening in
    let more_downs = closed_one i (take (suc m) ys) b closing in
    ap test place ∙ tests (suc m) (omega arith)
    ∙ same_test _ _ _ _ (λ e. omega (arith, more_ups, more_downs, balance, e)) (λ e. omega (arith, more_ups, more_downs, balance, e))

test_first : (test : ℕ → Bool) (i : Instruction) (ys : List Instruction) (from d a b : ℕ) → ups (operation_of i.op) ≡ a → downs (operation_of i.op) ≡ b
    → Tests test (i ∷ ys) from d → test from ≡ (a + suc d == b)
test_first test i ys from d a b opening closing tests =
    let place : from ≡ from + 0 = omega arith in
    let more_ups = opened_one i [] a opening in
    let more_downs = closed_one i [] b closing in
    ap test place ∙ tests 0 (omega arith)
    ∙ same_test _ _ _ _ (λ e. omega (arith, more_ups, more_downs, none_opened, none_closed, e)) (λ e. omega (arith, more_ups, more_downs, none_opened, none_closed, e))

pub waiting_least : (test : ℕ → Bool) (ys : List Instruction) (from d to : ℕ) → to ≡ from + length ys → Tests test ys from d → Least test from to (nth (waiting_from from ys) d)
waiting_least test [] from d to ends tests = λ j le lt. absurd (let none : to ≡ from + 0 = ends in omega arith)
waiting_least test (i ∷ ys) from d to ends tests =
    go (kind (operation_of i.op)) d tests (λ more t. waiting_least test ys (suc from) more to (let e : to ≡ from + suc (length ys) = ends in omega arith) t)
  where
    later : List ℕ
    later = waiting_from (suc from) ys

    go : Kind (operation_of i.op) → (d : ℕ) → Tests test (i ∷ ys) from d → ((more : ℕ) → Tests test ys (suc from) more → Least test (suc from) to (nth (waiting_from (suc from) ys) more)) → Least test from to (nth (waiting_over (operation_of i.op) from (waiting_from (suc from) ys)) d)
    go (is_each o) d tests rest =
        let up : ups (operation_of i.op) ≡ 1 = rw o refl in
        let down : downs (operation_of i.op) ≡ 0 = rw o refl in
        let first : test from ≡ false = test_first test i ys from d 1 0 up down tests ∙ ne_eqb (1 + suc d) 0 (λ e. omega arith) in
        rw (o, ← second (waiting_from (suc from) ys) d)
        (least_earlier test from to _ first (rest (suc d) (tests_after test i ys from d (suc d) 1 0 up down (omega arith) tests)))
    go (is_next o) zero tests rest =
        let up : ups (operation_of i.op) ≡ 0 = rw o refl in
        let down : downs (operation_of i.op) ≡ 1 = rw o refl in
        rw o (least_here test from to (let e : to ≡ from + suc (length ys) = ends in omega arith) (test_first test i ys from 0 0 1 up down tests))
    go (is_next o) (suc d) tests rest =
        let up : ups (operation_of i.op) ≡ 0 = rw o refl in
        let down : downs (operation_of i.op) ≡ 1 = rw o refl in
        let first : test from ≡ false = test_first test i ys from (suc d) 0 1 up down tests ∙ ne_eqb (0 + suc (suc d)) 1 (λ e. omega arith) in
        rw o (least_earlier test from to _ first (rest d (tests_after test i ys from (suc d) d 0 1 up down (omega arith) tests)))
    go (is_neither no_open no_close same none) d tests rest =
        let up : ups (operation_of i.op) ≡ 0 = rw no_open refl in
        let down : downs (operation_of i.op) ≡ 0 = rw no_close refl in
        let first : test from ≡ false = test_first test i ys from d 0 0 up down tests ∙ ne_eqb (0 + suc d) 0 (λ e. omega arith) in
        rw (same from (waiting_from (suc from) ys))
        (least_earlier test from to _ first (rest d (tests_after test i ys from d d 0 0 up down (omega arith) tests)))

-- the instructions from a place on
pub drop_here : (xs : List Instruction) (place : ℕ) (i : Instruction) → slice_get xs place ≡ Some i → drop place xs ≡ i ∷ drop (suc place) xs
drop_here xs place i here =
    drop-cons xs place i (slice_get_within xs place i here) ∙ ap (λ x. x ∷ drop (suc place) xs) (get_or_from_slice_get xs place i i here)

-- the Next of an Each is the first that waits after it
pub next_of_each : (xs : List Instruction) (place : ℕ) (i : Instruction) → slice_get xs place ≡ Some i → operation_of i.op ≡ Some Each
    → next_of xs place ≡ nth (waiting_from (suc place) (drop (suc place) xs)) 0
next_of_each xs place i here each =
    least_below_is test (suc place) (length xs) _ (λ j lt. rw (le-ltb place j (omega arith)) refl)
    (waiting_least test ys (suc place) 0 (length xs) ends tests)
  where
    ys : List Instruction
    ys = drop (suc place) xs

    test : ℕ → Bool
    test j = nat_lt place j && is_balanced xs place j

    ends : length xs ≡ suc place + length ys
    ends = omega (arith, slice_get_within xs place i here, length-drop (suc place) xs)

    tests : Tests test ys (suc place) 0
    tests m lt =
        let more : place < suc place + m = omega arith in
        let width : suc (suc place + m) - place ≡ suc (suc m) = omega arith in
        let stretch : slice_range xs place (suc (suc place + m)) ≡ i ∷ take (suc m) ys = ap₂ take width (drop_here xs place i here) in
        let up : ups (operation_of i.op) ≡ 1 = rw each refl in
        let down : downs (operation_of i.op) ≡ 0 = rw each refl in
        rw (lt-ltb place (suc place + m) more, stretch)
        (same_test _ _ _ _ (λ e. omega (arith, opened_one i (take (suc m) ys) 1 up, closed_one i (take (suc m) ys) 0 down, e))
        (λ e. omega (arith, opened_one i (take (suc m) ys) 1 up, closed_one i (take (suc m) ys) 0 down, e)))
