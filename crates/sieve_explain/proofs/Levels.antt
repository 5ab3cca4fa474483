-- Looking at each place of a list in turn, and counting what comes before it.
use Rattle.std.proofs.Common.{◌≡◌, ◌∙◌, ◌<◌, ◌≤◌, ◌+◌, ◌-◌, ℕ, suc, Bool, true, false, List, length, take, get_or, ap, sym, arith, inl, inr}
use Rattle.std.proofs.lemmas.Bool.{cases_Bool}
use Rattle.std.proofs.lemmas.List.Sums.{count_by_more_no, count_by_more_yes}
use Rattle.std.specs.Prelude.{◌==◌, if◌then◌else◌, Some}
use Rattle.std.specs.List.{count_by, find, range_with_len}

-- the place that comes first, and the others
range_step : (a n : ℕ) → a < n → range_with_len a (n - a) ≡ range_with_len a (suc (n - (a + 1)))
range_step a n within = let e : n - a ≡ suc (n - (a + 1)) = omega (arith, within) in ap (range_with_len a) e

find_step : (p : ℕ → Bool) (a n : ℕ) → a < n
    → find p (range_with_len a (n - a)) ≡ (if p a then Some a else find p (range_with_len (a + 1) (n - (a + 1))))
find_step p a n within = ap (find p) (range_step a n within)

-- what is looked for is at this place; or it isn't, and is looked for at the others
pub first_here : (p : ℕ → Bool) (a n : ℕ) → a < n → p a ≡ true → Some a ≡ find p (range_with_len a (n - a))
first_here p a n within is = sym (find_step p a n within ∙ ap (λ (b : Bool). if b then Some a else find p (range_with_len (a + 1) (n - (a + 1)))) is)

pub not_first : (p : ℕ → Bool) (a n : ℕ) → a < n → p a ≡ false → find p (range_with_len (a + 1) (n - (a + 1))) ≡ find p (range_with_len a (n - a))
not_first p a n within is_not = sym (find_step p a n within ∙ ap (λ (b : Bool). if b then Some a else find p (range_with_len (a + 1) (n - (a + 1)))) is_not)

-- one more element counts or doesn't
pub count_step : {X : Type 0} (p : X → Bool) (xs : List X) (i : ℕ) (d : X) → i < length xs
    → count_by p (take (i + 1) xs) ≡ count_by p (take i xs) + (if p (get_or xs i d) then 1 else 0)
count_step p xs i d within = elim (cases_Bool (p (get_or xs i d))) [
  | inl is ↦ count_by_more_yes p xs i d within is ∙ sym (ap (λ (b : Bool). count_by p (take i xs) + (if b then 1 else 0)) is)
  | inr not ↦
      let same : count_by p (take i xs) ≡ count_by p (take i xs) + 0 = omega arith in
      count_by_more_no p xs i d within not ∙ same ∙ sym (ap (λ (b : Bool). count_by p (take i xs) + (if b then 1 else 0)) not)
]

-- as many are counted as before the next place
pub counts : {X : Type 0} (p : X → Bool) (xs : List X) (i number more : ℕ) (d : X) (is : Bool) → i < length xs → number ≡ count_by p (take i xs)
    → is ≡ p (get_or xs i d) → more ≡ number + (if is then 1 else 0) → more ≡ count_by p (take (i + 1) xs)
counts p xs i number more d is within counted same e =
    e ∙ (λ j. counted j + (if same j then 1 else 0)) ∙ sym (count_step p xs i d within)

-- the place is at the level by these counts, and by the tokens before it
pub level : {X : Type 0} (opens closes : X → Bool) (xs : List X) (i opened closed : ℕ) → opened ≡ count_by opens (take i xs) → closed ≡ count_by closes (take i xs)
    → (opened == closed + 1) ≡ (count_by opens (take i xs) == count_by closes (take i xs) + 1)
level opens closes xs i opened closed open_is close_is = λ j. open_is j == close_is j + 1

-- it grows by one at most
pub one_more : (number place more : ℕ) (is : Bool) → number ≤ place → more ≡ number + (if is then 1 else 0) → more ≤ place + 1
one_more number place more true few e = omega (arith, few, e)
one_more number place more false few e = omega (arith, few, e)
