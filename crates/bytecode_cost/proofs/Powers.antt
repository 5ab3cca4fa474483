-- The powers of the parts, and the bound of the budget.
use Rattle.std.proofs.Common.{◌≡◌, ℕ, ◌+◌, ◌*◌, ◌^◌, ◌<◌, ◌≤◌, ◌==◌, Bool, true, false, if◌then◌else◌, List, length, get_or, All, refl, ◌∙◌, arith}
use Rattle.std.proofs.Math.Nat.{pow-zero, pow-suc, mul-le-mul}
use Rattle.std.proofs.lemmas.List.Elements.{All-get_or}
use Rattle.bytecode_cost.specs.Sums.{Sums, IsBudget, chains, powers_left, turns, term_at, budget_at}
use Rattle.bytecode_cost.proofs.Chains.{chains_below, one_chain, powers_are_left}

pub power_one : (p : ℕ) → p ^ 1 ≡ p
power_one p = rw (pow-suc p 0, pow-zero p) (omega arith)

pub power_two : (p : ℕ) → p ^ 2 ≡ p * p
power_two p = rw (pow-suc p 1, power_one p) refl

pub power_three : (p : ℕ) → p ^ 3 ≡ p * p * p
power_three p = rw (pow-suc p 2, power_two p) refl

-- a product of numbers below two bounds
pub product_bound : (a b x y : ℕ) → a ≤ x → b ≤ y → a * b ≤ x * y
product_bound a b x y h k = mul-le-mul h k

pub squares : (p : ℕ) → p ≤ 4096 → p * p ≤ 16777216
squares p h = mul-le-mul h h

pub cubes : (p : ℕ) → p ≤ 4096 → p * p * p ≤ 68719476736
cubes p h = mul-le-mul (squares p h) h

-- a sum of a budget is below 2^63
pub sum_bound : (xs : List ℕ) (k : ℕ) → All (λ sum. sum < 2 ^ 63) xs → length xs ≡ 4 → k < 4 → get_or xs k 0 < 2 ^ 63
sum_bound xs k each four h = let within : k < length xs = omega arith in All-get_or (λ sum. sum < 2 ^ 63) xs k 0 within each

pub term_bound : (a b n turns : ℕ) → a < 2 ^ 63 → b < 2 ^ 63 → n ≤ 2 ^ 26 → turns ≤ 68719476736 → (a + b * (n + 1)) * turns < 2 ^ 126
term_bound a b n turns ha hb hn ht =
    let scaled : b * (n + 1) ≤ 2 ^ 63 * (2 ^ 26 + 1) = product_bound b (n + 1) (2 ^ 63) (2 ^ 26 + 1) (omega arith) (omega arith) in
    let all : (a + b * (n + 1)) * turns ≤ (2 ^ 63 + 2 ^ 63 * (2 ^ 26 + 1)) * 68719476736 = product_bound (a + b * (n + 1)) turns (2 ^ 63 + 2 ^ 63 * (2 ^ 26 + 1)) 68719476736 (omega arith) ht in
    omega arith

-- once for one part, whatever the version
pub turns_none : (version p : ℕ) → turns version p 0 ≡ 1
turns_none version p = pick (version == 2)
  where
    pick : (by_chains : Bool) → (if by_chains then chains p 0 else powers_left p p 0) ≡ 1
    pick true = refl
    pick false = refl

pub turns_one : (version p : ℕ) → turns version p 1 ≡ p
turns_one version p = pick (version == 2)
  where
    pick : (by_chains : Bool) → (if by_chains then chains p 1 else powers_left p p 1) ≡ p
    pick true = one_chain p
    pick false = powers_are_left p 1 ∙ power_one p

-- the turns are at most the powers
turns_bound : (version p k most : ℕ) → p ^ k ≤ most → turns version p k ≤ most
turns_bound version p k most h = pick (version == 2)
  where
    pick : (by_chains : Bool) → (if by_chains then chains p k else powers_left p p k) ≤ most
    pick true = let below = chains_below p k in omega arith
    pick false = omega (arith, powers_are_left p k, h)

pub turns_one_few : (version p : ℕ) → p ≤ 4096 → turns version p 1 ≤ 68719476736
turns_one_few version p h = turns_bound version p 1 68719476736 (rw (power_one p) (omega arith))

pub turns_two_few : (version p : ℕ) → p ≤ 4096 → turns version p 2 ≤ 68719476736
turns_two_few version p h = let most = squares p h in turns_bound version p 2 68719476736 (rw (power_two p) (omega arith))

pub turns_three_few : (version p : ℕ) → p ≤ 4096 → turns version p 3 ≤ 68719476736
turns_three_few version p h = turns_bound version p 3 68719476736 (rw (power_three p) (cubes p h))

pub budget_bound : (sums : Sums) → IsBudget sums → (n p : ℕ) → n ≤ 2 ^ 26 → p ≤ 4096 → budget_at sums n p < 2 ^ 128
budget_bound sums is n p hn hp =
    let fixed = λ (k : ℕ) (h : k < 4). sum_bound sums.fixed k is.each_fixed is.fixed_levels h in
    let scaled = λ (k : ℕ) (h : k < 4). sum_bound sums.scaled k is.each_scaled is.scaled_levels h in
    let term : (k : ℕ) → k < 4 → turns sums.version p k ≤ 68719476736 → term_at sums n p k < 2 ^ 126 = λ k h few. term_bound _ _ n (turns sums.version p k) (fixed k h) (scaled k h) hn few in
    let none : term_at sums n p 0 < 2 ^ 126 = let once = turns_none sums.version p in term 0 (omega arith) (omega arith) in
    let one : term_at sums n p 1 < 2 ^ 126 = term 1 (omega arith) (turns_one_few sums.version p hp) in
    let two : term_at sums n p 2 < 2 ^ 126 = term 2 (omega arith) (turns_two_few sums.version p hp) in
    let three : term_at sums n p 3 < 2 ^ 126 = term 3 (omega arith) (turns_three_few sums.version p hp) in
    omega arith
