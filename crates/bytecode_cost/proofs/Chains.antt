-- Chains of parts are counted by products, and are no more than powers.
use Rattle.std.proofs.Common.{◌≡◌, ◌==◌, ℕ, zero, suc, ◌+◌, ◌*◌, ◌^◌, ◌-◌, ◌/◌, ◌≤◌, Bool, true, false, if◌then◌else◌, slice_index, refl, sym, arith}
use Rattle.std.proofs.Math.Nat.{pow-zero, pow-suc, mul-le-mul, mul-le-mul_left}
use Rattle.bytecode_cost.specs.Sums.{Sums, chains, turns, powers_left, term_at, budget_at}

pub one_chain : (n : ℕ) → chains n 1 ≡ n
one_chain zero = refl
one_chain (suc n) = let h = one_chain n in omega arith

-- for n of 1 and more
twice_pairs : (n : ℕ) → 2 * chains (suc n) 2 ≡ suc n * n
twice_pairs zero = refl
twice_pairs (suc n) = let pairs = twice_pairs n in let one = one_chain (suc n) in omega arith

-- for n of 2 and more
six_triples : (n : ℕ) → 6 * chains (suc (suc n)) 3 ≡ suc (suc n) * suc n * n
six_triples zero = refl
six_triples (suc n) = let triples = six_triples n in let pairs = twice_pairs (suc n) in omega arith

pub two_chains : (n : ℕ) → 2 * chains n 2 ≡ n * (n - 1)
two_chains zero = refl
two_chains (suc n) = let before : suc n - 1 ≡ n = omega arith in rw before (twice_pairs n)

pub three_chains : (n : ℕ) → 6 * chains n 3 ≡ n * (n - 1) * (n - 2)
three_chains zero = refl
three_chains (suc zero) = refl
three_chains (suc (suc n)) =
    let one : suc (suc n) - 1 ≡ suc n = omega arith in
    let two : suc (suc n) - 2 ≡ n = omega arith in
    rw (one, two) (six_triples n)

pub pairs_halved : (n : ℕ) → n * (n - 1) / 2 ≡ chains n 2
pairs_halved n = let h = two_chains n in omega arith

pub triples_divided : (n : ℕ) → n * (n - 1) * (n - 2) / 6 ≡ chains n 3
triples_divided n = let h = three_chains n in omega arith

power_grows : (n k : ℕ) → n ^ k ≤ suc n ^ k
power_grows n zero = rw (pow-zero n, pow-zero (suc n)) (omega arith)
power_grows n (suc k) =
    let rest = power_grows n k in
    rw (pow-suc n k, pow-suc (suc n) k) (mul-le-mul rest (omega arith))

pub chains_below : (n k : ℕ) → chains n k ≤ n ^ k
chains_below n zero = rw (pow-zero n) (omega arith)
chains_below zero (suc k) = omega arith
chains_below (suc n) (suc k) =
    let inside = chains_below n k in
    let beside = chains_below n (suc k) in
    let grows = power_grows n k in
    let more : suc n * n ^ k ≤ suc n * suc n ^ k = mul-le-mul_left (suc n) grows in
    let power = pow-suc n k in
    let next = pow-suc (suc n) k in
    omega arith

-- where the outermost loop visits all parts, too, the turns are powers
pub powers_are_left : (parts k : ℕ) → powers_left parts parts k ≡ parts ^ k
powers_are_left parts zero = sym (pow-zero parts)
powers_are_left parts (suc k) = let power = pow-suc parts k in omega arith

pub turns_are : (version parts k : ℕ) → turns version parts k ≡ (if version == 2 then chains parts k else parts ^ k)
turns_are version parts k = pick (version == 2)
  where
    pick : (by_chains : Bool) → (if by_chains then chains parts k else powers_left parts parts k) ≡ (if by_chains then chains parts k else parts ^ k)
    pick true = refl
    pick false = powers_are_left parts k

-- the turns of version 2 are no more than those of any version
pub turns_below : (version n k : ℕ) → turns 2 n k ≤ turns version n k
turns_below version n k = pick (version == 2)
  where
    pick : (by_chains : Bool) → chains n k ≤ (if by_chains then chains n k else powers_left n n k)
    pick true = omega arith
    pick false = omega (arith, chains_below n k, powers_are_left n k)

-- so is what they allow
pub term_below : (sums : Sums) (n p k : ℕ) → term_at (record sums { version = 2 }) n p k ≤ term_at sums n p k
term_below sums n p k = mul-le-mul_left (slice_index sums.fixed k + slice_index sums.scaled k * (n + 1)) (turns_below sums.version p k)

pub budget_below : (sums : Sums) (n p : ℕ) → budget_at (record sums { version = 2 }) n p ≤ budget_at sums n p
budget_below sums n p =
    let none = term_below sums n p 0 in
    let one = term_below sums n p 1 in
    let two = term_below sums n p 2 in
    let three = term_below sums n p 3 in
    omega arith

-- ---- more parts

pub chains_more : (a b k : ℕ) → a ≤ b → chains a k ≤ chains b k
chains_more a b zero le = omega arith
chains_more zero b (suc k) le = omega arith
chains_more (suc a) zero (suc k) le = absurd (omega (arith, le))
chains_more (suc a) (suc b) (suc k) le = omega (arith, chains_more a b k (omega (arith, le)), chains_more a b (suc k) (omega (arith, le)))

powers_more : (a b k : ℕ) → a ≤ b → a ^ k ≤ b ^ k
powers_more a b zero le = rw (pow-zero a, pow-zero b) (omega arith)
powers_more a b (suc k) le = rw (pow-suc a k, pow-suc b k) (mul-le-mul (powers_more a b k le) le)

-- so are the turns over them
pub turns_more : (version a b k : ℕ) → a ≤ b → turns version a k ≤ turns version b k
turns_more version a b k le = pick (version == 2)
  where
    pick : (by_chains : Bool) → (if by_chains then chains a k else powers_left a a k) ≤ (if by_chains then chains b k else powers_left b b k)
    pick true = chains_more a b k le
    pick false = omega (arith, powers_more a b k le, powers_are_left a k, powers_are_left b k)

term_more : (sums : Sums) (n m p q k : ℕ) → n ≤ m → p ≤ q → term_at sums n p k ≤ term_at sums m q k
term_more sums n m p q k octets parts =
    let scaled : ℕ = slice_index sums.scaled k in
    let each : scaled * (n + 1) ≤ scaled * (m + 1) = mul-le-mul_left scaled (omega (arith, octets)) in
    let caps : slice_index sums.fixed k + scaled * (n + 1) ≤ slice_index sums.fixed k + scaled * (m + 1) = omega (arith, each) in
    mul-le-mul caps (turns_more sums.version p q k parts)

-- and what the sums allow
pub budget_more : (sums : Sums) (n m p q : ℕ) → n ≤ m → p ≤ q → budget_at sums n p ≤ budget_at sums m q
budget_more sums n m p q octets parts =
    let none = term_more sums n m p q 0 octets parts in
    let one = term_more sums n m p q 1 octets parts in
    let two = term_more sums n m p q 2 octets parts in
    let three = term_more sums n m p q 3 octets parts in
    omega arith
