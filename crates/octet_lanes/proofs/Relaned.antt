-- Vectors of narrower and of wider lanes, by the number that all lanes make.
use Rattle.std.proofs.Common.{◌≡◌, ℕ, zero, suc, ◌+◌, ◌*◌, ◌/◌, ◌%◌, ◌^◌, ◌<◌, ◌≤◌, List, [], ◌∷◌, ◌++◌, length, refl, ap, ◌∙◌, subst, arith}
use Rattle.std.specs.Simd.Lanes.{Each1, number_l, digits_l}
use Rattle.std.specs.List.{flat_map}
use Rattle.std.proofs.lemmas.Nat.{div_below, div-add-mod'}
use Rattle.std.proofs.Math.Nat.{mod-eq_of_lt, div-eq_of_lt, mul-le-mul_left, one-le-pow, pow-zero, pow-suc, pow-succ', add-mul-mod_self_left, add-mul-div_left}
use Rattle.octet_lanes.specs.Private.{parts_of}
use Rattle.octet_lanes.proofs.Pairs.{pair_below}

-- the number of a vector's lanes is that of its digits
pub number_of-digits : (p n x : ℕ) → 0 < p → x < p ^ n → number_l p (digits_l p n x) ≡ x
number_of-digits p zero x h l = omega (arith, pow-zero p)
number_of-digits p (suc n) x h l =
    let power : p ^ suc n ≡ p ^ n * p = pow-suc p n in
    let less : x / p < p ^ n = div_below x p (p ^ n) h (omega arith) in
    let parts : x / p * p + x % p ≡ x = div-add-mod' x p in
    ap (λ y. x % p + p * y) (number_of-digits p n (x / p) h less) ∙ (omega arith)

pub number-lt : (p : ℕ) (xs : List ℕ) → Each1 (λ x. x < p) xs → number_l p xs < p ^ length xs
number-lt p [] h = omega (arith, pow-zero p)
number-lt p (x ∷ xs) h =
    let rest : number_l p xs < p ^ length xs = number-lt p xs h.1 in
    let power : p ^ suc (length xs) ≡ p * p ^ length xs = pow-succ' p (length xs) in
    let m : p * (number_l p xs + 1) ≤ p * p ^ length xs = mul-le-mul_left p (omega arith) in
    let e : p * (number_l p xs + 1) ≡ p * number_l p xs + p = omega arith in
    omega (arith, h.0)

-- two halves of each lane
pub narrower : (h n : ℕ) (ys : List ℕ) → length ys ≡ n → Each1 (λ y. y < 2 ^ h * 2 ^ h) ys → digits_l (2 ^ h) (n + n) (number_l (2 ^ h * 2 ^ h) ys) ≡ flat_map (parts_of h) ys
narrower h zero [] p small = refl
narrower h zero (y ∷ ys) p small = absurd (omega arith)
narrower h (suc n) [] p small = absurd (omega arith)
narrower h (suc n) (y ∷ ys) p small =
    let q = 2 ^ h in
    let Q : 0 < q = one-le-pow h 2 (omega arith) in
    let N = number_l (q * q) ys in
    let e : suc n + suc n ≡ suc (suc (n + n)) = omega arith in
    let all : y + q * q * N ≡ y + q * (q * N) = omega arith in
    let below : y / q < q = div_below y q q Q (omega (arith, small.0)) in
    let low : (y + q * q * N) % q ≡ y % q = ap (λ x. x % q) all ∙ add-mul-mod_self_left y q (q * N) in
    let next : (y + q * q * N) / q ≡ y / q + q * N = ap (λ x. x / q) all ∙ add-mul-div_left y (q * N) Q in
    let high : (y + q * q * N) / q % q ≡ y / q = ap (λ x. x % q) next ∙ add-mul-mod_self_left (y / q) q N ∙ mod-eq_of_lt below in
    let none : y / q / q ≡ 0 = div-eq_of_lt below in
    let rest : (y + q * q * N) / q / q ≡ N = ap (λ x. x / q) next ∙ add-mul-div_left (y / q) N Q ∙ (omega arith) in
    ap (λ m. digits_l q m (y + q * q * N)) e
    ∙ (λ i. low i ∷ high i ∷ (ap (digits_l q (n + n)) rest ∙ narrower h n ys (omega arith) small.1) i)

-- each two lanes as one: the halves are the lanes
pub wider : (h n : ℕ) (xs : List ℕ) → length xs ≡ n + n → Each1 (λ x. x < 2 ^ h) xs → flat_map (parts_of h) (digits_l (2 ^ h * 2 ^ h) n (number_l (2 ^ h) xs)) ≡ xs
wider h zero [] p small = refl
wider h zero (x ∷ xs) p small = absurd (omega arith)
wider h (suc n) [] p small = absurd (omega arith)
wider h (suc n) (a ∷ []) p small = absurd (omega arith)
wider h (suc n) (a ∷ b ∷ xs) p small =
    let q = 2 ^ h in
    let Q : 0 < q = one-le-pow h 2 (omega arith) in
    let N = number_l q xs in
    let all : a + q * (b + q * N) ≡ (b * q + a) + q * q * N = omega arith in
    let pair : b * q + a < q * q = pair_below q b a small.1.0 small.0 in
    let QQ : 0 < q * q = omega arith in
    let first : (a + q * (b + q * N)) % (q * q) ≡ a + q * b = ap (λ x. x % (q * q)) all ∙ add-mul-mod_self_left (b * q + a) (q * q) N ∙ mod-eq_of_lt pair ∙ (omega arith) in
    let none : (b * q + a) / (q * q) ≡ 0 = div-eq_of_lt pair in
    let rest : (a + q * (b + q * N)) / (q * q) ≡ N = ap (λ x. x / (q * q)) all ∙ add-mul-div_left (b * q + a) N QQ ∙ (omega arith) in
    let low : (a + q * b) % q ≡ a = add-mul-mod_self_left a q b ∙ mod-eq_of_lt small.0 in
    let zero' : a / q ≡ 0 = div-eq_of_lt small.0 in
    let high : (a + q * b) / q ≡ b = add-mul-div_left a b Q ∙ (omega arith) in
    ap (λ x. parts_of h x ++ flat_map (parts_of h) (digits_l (q * q) n ((a + q * (b + q * N)) / (q * q)))) first
    ∙ (λ i. low i ∷ high i ∷ (ap (λ x. flat_map (parts_of h) (digits_l (q * q) n x)) rest ∙ wider h n xs (omega arith) small.1.1) i)

-- a vector's octets make the same number
pub through_octets : (p q m n : ℕ) (xs : List ℕ) → length xs ≡ m → Each1 (λ x. x < p) xs → p ^ m ≡ 256 ^ 32 → digits_l q n (number_l 256 (digits_l 256 32 (number_l p xs))) ≡ digits_l q n (number_l p xs)
through_octets p q m n xs long small e =
    let below : number_l p xs < 256 ^ 32 = subst (λ x. number_l p xs < x) (ap (λ i. p ^ i) long ∙ e) (number-lt p xs small) in
    ap (digits_l q n) (number_of-digits 256 32 (number_l p xs) (omega arith) below)
