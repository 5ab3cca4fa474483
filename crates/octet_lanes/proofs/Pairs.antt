-- Numbers of two groups of bits, in halves of a lane and as one.
use Rattle.std.proofs.Common.{◌≡◌, ℕ, zero, suc, ◌+◌, ◌-◌, ◌*◌, ◌/◌, ◌%◌, ◌^◌, ◌<◌, ◌≤◌, List, [], ◌∷◌, ◌++◌, length, map, replicate, bit_and, refl, sym, ap, ◌∙◌, subst, arith}
use Rattle.std.specs.Simd.Lanes.{Each1, zip2}
use Rattle.std.specs.List.{flat_map}
use Rattle.std.proofs.lemmas.List.{append_assoc}
use Rattle.std.proofs.lemmas.Nat.{and_mask, pow-add, shr_below, shr_split}
use Rattle.std.proofs.Math.Nat.{mod-lt, mod-eq_of_lt, div-eq_of_lt, mul-le-mul_right, pow-le-pow_right, one-le-pow, add-mul-mod_self_right, add-mul-div_right}
use Rattle.octet_lanes.specs.Encoding.{bits_of, all_bits}
use Rattle.octet_lanes.specs.Private.{halves_of, whole_of, parts_of}
use Rattle.octet_lanes.proofs.Bits.{bits_pair}

-- ---- two groups in two halves

pos : (k : ℕ) → 0 < 2 ^ k
pos k = one-le-pow k 2 (omega arith)

-- two numbers below p make one below p * p
pub pair_below : (p a b : ℕ) → a < p → b < p → a * p + b < p * p
pair_below p a b A B = let m : (a + 1) * p ≤ p * p = mul-le-mul_right p (omega arith) in let e : (a + 1) * p ≡ a * p + p = omega arith in omega arith

pub halved : (k h mask x : ℕ) → k ≤ h → mask + 1 ≡ 2 ^ k → x < 2 ^ (k + k)
    → (x / 2 ^ k + bit_and x mask * 2 ^ h % 2 ^ (h + h)) % 2 ^ (h + h) ≡ halves_of k h x
halved k h mask x le e small =
    let K : 2 ^ k ≤ 2 ^ h = pow-le-pow_right (omega arith) le in
    let first : x / 2 ^ k < 2 ^ k = shr_below x k k small in
    let second : x % 2 ^ k < 2 ^ k = mod-lt x (pos k) in
    let low : bit_and x mask ≡ x % 2 ^ k = let m : mask ≡ 2 ^ k - 1 = omega arith in ap (bit_and x) m ∙ and_mask x k in
    let square : 2 ^ (h + h) ≡ 2 ^ h * 2 ^ h = pow-add 2 h h in
    let both : x % 2 ^ k * 2 ^ h + x / 2 ^ k < 2 ^ h * 2 ^ h = pair_below (2 ^ h) (x % 2 ^ k) (x / 2 ^ k) (omega arith) (omega arith) in
    let one : x % 2 ^ k * 2 ^ h < 2 ^ (h + h) = omega arith in
    let all : x / 2 ^ k + x % 2 ^ k * 2 ^ h < 2 ^ (h + h) = omega arith in
    ap (λ y. (x / 2 ^ k + y * 2 ^ h % 2 ^ (h + h)) % 2 ^ (h + h)) low
    ∙ ap (λ y. (x / 2 ^ k + y) % 2 ^ (h + h)) (mod-eq_of_lt one) ∙ mod-eq_of_lt all

pub all_halved : (k h mask n : ℕ) (xs : List ℕ) → length xs ≡ n → k ≤ h → mask + 1 ≡ 2 ^ k → Each1 (λ x. x < 2 ^ (k + k)) xs
    → zip2 (λ a b. (a + b) % 2 ^ (h + h)) (zip2 (λ a b. a / 2 ^ b) xs (replicate n k)) (zip2 (λ a b. a * 2 ^ b % 2 ^ (h + h)) (zip2 bit_and xs (replicate n mask)) (replicate n h))
    ≡ map (halves_of k h) xs
all_halved k h mask zero [] p le e small = refl
all_halved k h mask zero (x ∷ xs) p le e small = absurd (omega arith)
all_halved k h mask (suc n) [] p le e small = absurd (omega arith)
all_halved k h mask (suc n) (x ∷ xs) p le e small = λ i. halved k h mask x le e small.0 i ∷ all_halved k h mask n xs (omega arith) le e small.1 i

-- the halves are the groups
pub parts_of-halves : (k h x : ℕ) → k ≤ h → x < 2 ^ (k + k) → parts_of h (halves_of k h x) ≡ (x / 2 ^ k) ∷ (x % 2 ^ k) ∷ []
parts_of-halves k h x le small =
    let K : 2 ^ k ≤ 2 ^ h = pow-le-pow_right (omega arith) le in
    let first : x / 2 ^ k < 2 ^ k = shr_below x k k small in
    let below : x / 2 ^ k < 2 ^ h = omega arith in
    let low : halves_of k h x % 2 ^ h ≡ x / 2 ^ k = add-mul-mod_self_right (x / 2 ^ k) (x % 2 ^ k) (2 ^ h) ∙ mod-eq_of_lt below in
    let none : x / 2 ^ k / 2 ^ h ≡ 0 = div-eq_of_lt below in
    let high : halves_of k h x / 2 ^ h ≡ x % 2 ^ k = add-mul-div_right (x / 2 ^ k) (x % 2 ^ k) (pos h) ∙ (omega arith) in
    λ i. low i ∷ high i ∷ []

two_groups : (k x : ℕ) → bits_of (k + k) x ≡ bits_of k (x / 2 ^ k) ++ bits_of k (x % 2 ^ k)
two_groups k x = ap (bits_of (k + k)) (sym (shr_split x k)) ∙ bits_pair k k (x / 2 ^ k) (x % 2 ^ k) (k + k) refl (mod-lt x (pos k))

pub bits-halves : (k h : ℕ) (xs : List ℕ) → k ≤ h → Each1 (λ x. x < 2 ^ (k + k)) xs → all_bits k (flat_map (parts_of h) (map (halves_of k h) xs)) ≡ all_bits (k + k) xs
bits-halves k h [] le small = refl
bits-halves k h (x ∷ xs) le small =
    ap (λ l. all_bits k (l ++ flat_map (parts_of h) (map (halves_of k h) xs))) (parts_of-halves k h x le small.0)
    ∙ sym (append_assoc (bits_of k (x / 2 ^ k)) (bits_of k (x % 2 ^ k)) (all_bits k (flat_map (parts_of h) (map (halves_of k h) xs))))
    ∙ (λ i. sym (two_groups k x) i ++ bits-halves k h xs le small.1 i)

pub small-halves : (k h : ℕ) (xs : List ℕ) → k ≤ h → Each1 (λ x. x < 2 ^ (k + k)) xs → Each1 (λ x. x < 2 ^ k) (flat_map (parts_of h) (map (halves_of k h) xs))
small-halves k h [] le small = tt
small-halves k h (x ∷ xs) le small =
    subst (λ l. Each1 (λ y. y < 2 ^ k) (l ++ flat_map (parts_of h) (map (halves_of k h) xs))) (sym (parts_of-halves k h x le small.0))
    (shr_below x k k small.0, (mod-lt x (pos k), small-halves k h xs le small.1))

-- ---- and as one number

pub joined : (k h y : ℕ) → k ≤ h → y % 2 ^ h < 2 ^ k → y / 2 ^ h < 2 ^ k
    → (bit_and y (2 ^ h - 1) * 2 ^ k % 2 ^ (h + h) + y / 2 ^ h) % 2 ^ (h + h) ≡ whole_of k h y
joined k h y le first second =
    let low : bit_and y (2 ^ h - 1) ≡ y % 2 ^ h = and_mask y h in
    let both : y % 2 ^ h * 2 ^ k + y / 2 ^ h < 2 ^ k * 2 ^ k = pair_below (2 ^ k) (y % 2 ^ h) (y / 2 ^ h) first second in
    let square : 2 ^ (k + k) ≡ 2 ^ k * 2 ^ k = pow-add 2 k k in
    let K : 2 ^ (k + k) ≤ 2 ^ (h + h) = pow-le-pow_right (omega arith) (omega arith) in
    let one : y % 2 ^ h * 2 ^ k < 2 ^ (h + h) = omega arith in
    let all : y % 2 ^ h * 2 ^ k + y / 2 ^ h < 2 ^ (h + h) = omega arith in
    ap (λ a. (a * 2 ^ k % 2 ^ (h + h) + y / 2 ^ h) % 2 ^ (h + h)) low
    ∙ ap (λ a. (a + y / 2 ^ h) % 2 ^ (h + h)) (mod-eq_of_lt one) ∙ mod-eq_of_lt all

pub all_joined : (k h n : ℕ) (ys : List ℕ) → length ys ≡ n → k ≤ h → Each1 (λ y. y < 2 ^ k) (flat_map (parts_of h) ys)
    → zip2 (λ a b. (a + b) % 2 ^ (h + h)) (zip2 (λ a b. a * 2 ^ b % 2 ^ (h + h)) (zip2 bit_and ys (replicate n (2 ^ h - 1))) (replicate n k)) (zip2 (λ a b. a / 2 ^ b) ys (replicate n h))
    ≡ map (whole_of k h) ys
all_joined k h zero [] p le small = refl
all_joined k h zero (y ∷ ys) p le small = absurd (omega arith)
all_joined k h (suc n) [] p le small = absurd (omega arith)
all_joined k h (suc n) (y ∷ ys) p le small = λ i. joined k h y le small.0 small.1.0 i ∷ all_joined k h n ys (omega arith) le small.1.1 i

pub bits-whole : (k h : ℕ) (ys : List ℕ) → Each1 (λ y. y < 2 ^ k) (flat_map (parts_of h) ys) → all_bits (k + k) (map (whole_of k h) ys) ≡ all_bits k (flat_map (parts_of h) ys)
bits-whole k h [] small = refl
bits-whole k h (y ∷ ys) small =
    (λ i. bits_pair k k (y % 2 ^ h) (y / 2 ^ h) (k + k) refl small.1.0 i ++ bits-whole k h ys small.1.1 i)
    ∙ append_assoc (bits_of k (y % 2 ^ h)) (bits_of k (y / 2 ^ h)) (all_bits k (flat_map (parts_of h) ys))

pub small-whole : (k h : ℕ) (ys : List ℕ) → Each1 (λ y. y < 2 ^ k) (flat_map (parts_of h) ys) → Each1 (λ y. y < 2 ^ (k + k)) (map (whole_of k h) ys)
small-whole k h [] small = tt
small-whole k h (y ∷ ys) small =
    let square : 2 ^ (k + k) ≡ 2 ^ k * 2 ^ k = pow-add 2 k k in
    (subst (λ p. y % 2 ^ h * 2 ^ k + y / 2 ^ h < p) (sym square) (pair_below (2 ^ k) (y % 2 ^ h) (y / 2 ^ h) small.0 small.1.0), small-whole k h ys small.1.1)
