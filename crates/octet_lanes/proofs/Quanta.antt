-- Quanta of octets as numbers in lanes, and back. A lane holds its number's lowest octet first, so a quantum stands there turned round.
use Rattle.std.proofs.Common.{◌≡◌, ℕ, zero, suc, ◌+◌, ◌*◌, ◌/◌, ◌%◌, ◌^◌, ◌<◌, List, [], ◌∷◌, ◌++◌, length, map, replicate, get_or, refl, sym, ap, ◌∙◌, subst, arith}
use Rattle.std.specs.Simd.Lanes.{Each1, number_l, digits_l, pick_l}
use Rattle.std.specs.List.{flat_map}
use Rattle.std.proofs.lemmas.List.{append-nil}
use Rattle.std.proofs.lemmas.List.Concat.{flat_map-append}
use Rattle.std.proofs.Math.Nat.{pow-zero, pow-succ', one-le-pow, add-mul-mod_self_left, add-mul-div_left, mod-eq_of_lt, div-eq_of_lt}
use Rattle.octet_lanes.specs.Encoding.{bits_of, all_bits}
use Rattle.octet_lanes.proofs.Bits.{bits_pair}
use Rattle.octet_lanes.proofs.Relaned.{number-lt, number_of-digits}

-- ---- the number of a lane's octets

abbrev pub turned : List ℕ → List ℕ
turned [] = []
turned (x ∷ xs) = turned xs ++ x ∷ []

pub bits_of-octets : (xs : List ℕ) → Each1 (λ x. x < 256) xs → bits_of (length xs * 8) (number_l 256 xs) ≡ all_bits 8 (turned xs)
bits_of-octets [] h = let none : zero * 8 ≡ zero = omega arith in ap (λ n. bits_of n 0) none
bits_of-octets (x ∷ xs) h =
    let e : x + 256 * number_l 256 xs ≡ number_l 256 xs * 2 ^ 8 + x = omega arith in
    let more : suc (length xs) * 8 ≡ length xs * 8 + 8 = omega arith in
    ap (bits_of (suc (length xs) * 8)) e
    ∙ bits_pair (length xs * 8) 8 (number_l 256 xs) x (suc (length xs) * 8) more h.0
    ∙ (λ i. bits_of-octets xs h.1 i ++ sym (append-nil (bits_of 8 x)) i)
    ∙ sym (flat_map-append (bits_of 8) (turned xs) (x ∷ []))

number_l-append : (p : ℕ) (xs ys : List ℕ) → number_l p (xs ++ ys) ≡ number_l p xs + p ^ length xs * number_l p ys
number_l-append p [] ys = let one : p ^ zero ≡ 1 = pow-zero p in (omega arith) ∙ ap (λ q. 0 + q * number_l p ys) (sym one)
number_l-append p (x ∷ xs) ys =
    let power : p ^ suc (length xs) ≡ p * p ^ length xs = pow-succ' p (length xs) in
    ap (λ n. x + p * n) (number_l-append p xs ys) ∙ (omega arith) ∙ ap (λ q. x + p * number_l p xs + q * number_l p ys) (sym power)

number_l-zeros : (p n : ℕ) → number_l p (replicate n 0) ≡ 0
number_l-zeros p zero = refl
number_l-zeros p (suc n) = ap (λ m. 0 + p * m) (number_l-zeros p n) ∙ (omega arith)

-- zeros above
pub number-padded : (xs : List ℕ) (n : ℕ) → number_l 256 (xs ++ replicate n 0) ≡ number_l 256 xs
number-padded xs n = number_l-append 256 xs (replicate n 0) ∙ ap (λ m. number_l 256 xs + 256 ^ length xs * m) (number_l-zeros 256 n) ∙ (omega arith)

-- the first lane of wider lanes
wide_step : (w n : ℕ) (prefix rest : List ℕ) → length prefix ≡ w → Each1 (λ x. x < 256) prefix
    → digits_l (256 ^ w) (suc n) (number_l 256 (prefix ++ rest)) ≡ number_l 256 prefix ∷ digits_l (256 ^ w) n (number_l 256 rest)
wide_step w n prefix rest long small =
    let P = 256 ^ w in
    let N = number_l 256 rest in
    let below : number_l 256 prefix < P = subst (λ k. number_l 256 prefix < 256 ^ k) long (number-lt 256 prefix small) in
    let all : number_l 256 (prefix ++ rest) ≡ number_l 256 prefix + P * N = number_l-append 256 prefix rest ∙ ap (λ k. number_l 256 prefix + 256 ^ k * N) long in
    let none : number_l 256 prefix / P ≡ 0 = div-eq_of_lt below in
    let first : number_l 256 (prefix ++ rest) % P ≡ number_l 256 prefix = ap (λ x. x % P) all ∙ add-mul-mod_self_left (number_l 256 prefix) P N ∙ mod-eq_of_lt below in
    let next : number_l 256 (prefix ++ rest) / P ≡ N = ap (λ x. x / P) all ∙ add-mul-div_left (number_l 256 prefix) N (one-le-pow w 256 (omega arith)) ∙ (omega arith) in
    λ i. first i ∷ digits_l P n (next i)

-- ---- quanta in lanes

pub lanes_of-quanta : (w : ℕ) (prefix : ℕ → List ℕ) → ((j : ℕ) → length (prefix j) ≡ w) → ((j : ℕ) → Each1 (λ x. x < 256) (prefix j))
    → (js : List ℕ) → digits_l (256 ^ w) (length js) (number_l 256 (flat_map prefix js)) ≡ map (λ j. number_l 256 (prefix j)) js
lanes_of-quanta w prefix long small [] = refl
lanes_of-quanta w prefix long small (j ∷ js) =
    wide_step w (length js) (prefix j) (flat_map prefix js) (long j) (small j) ∙ ap (λ l. number_l 256 (prefix j) ∷ l) (lanes_of-quanta w prefix long small js)

pub bits_of-quanta : (k : ℕ) (number : ℕ → ℕ) (quantum : ℕ → List ℕ) → ((j : ℕ) → bits_of k (number j) ≡ all_bits 8 (quantum j))
    → (js : List ℕ) → all_bits k (map number js) ≡ all_bits 8 (flat_map quantum js)
bits_of-quanta k number quantum h [] = refl
bits_of-quanta k number quantum h (j ∷ js) =
    (λ i. h j i ++ bits_of-quanta k number quantum h js i) ∙ sym (flat_map-append (bits_of 8) (quantum j) (flat_map quantum js))

pub small_quanta : (n : ℕ) (number : ℕ → ℕ) → ((j : ℕ) → number j < n) → (js : List ℕ) → Each1 (λ x. x < n) (map number js)
small_quanta n number h [] = tt
small_quanta n number h (j ∷ js) = (h j, small_quanta n number h js)

-- zeros that follow a vector read as what is past its end
get_or-zeros : (n k : ℕ) → ◌≡◌ {A = ℕ} (get_or (replicate n 0) k 0) 0
get_or-zeros zero k = refl
get_or-zeros (suc n) zero = refl
get_or-zeros (suc n) (suc k) = get_or-zeros n k

pub get_or-padded : (n : ℕ) (xs : List ℕ) (k : ℕ) → get_or (xs ++ replicate n 0) k 0 ≡ get_or xs k 0
get_or-padded n [] k = get_or-zeros n k
get_or-padded n (x ∷ xs) zero = refl
get_or-padded n (x ∷ xs) (suc k) = get_or-padded n xs k

pub pick_l-padded : (n : ℕ) (xs ks : List ℕ) → pick_l 0 (xs ++ replicate n 0) ks ≡ pick_l 0 xs ks
pick_l-padded n xs [] = refl
pick_l-padded n xs (k ∷ ks) = λ i. get_or-padded n xs k i ∷ pick_l-padded n xs ks i

pub octet_at : (xs : List ℕ) (k : ℕ) → Each1 (λ x. x < 256) xs → get_or xs k 0 < 256
octet_at [] k h = omega arith
octet_at (x ∷ xs) zero h = h.0
octet_at (x ∷ xs) (suc k) h = octet_at xs k h.1

-- ---- octets of lanes

pub bits_of-octets_back : (k : ℕ) (number : ℕ → ℕ) (back : ℕ → List ℕ) (n : ℕ) → ((j : ℕ) → j < n → all_bits 8 (back j) ≡ bits_of k (number j))
    → (js : List ℕ) → Each1 (λ j. j < n) js → all_bits 8 (flat_map back js) ≡ all_bits k (map number js)
bits_of-octets_back k number back n h [] small = refl
bits_of-octets_back k number back n h (j ∷ js) small =
    flat_map-append (bits_of 8) (back j) (flat_map back js) ∙ (λ i. h j small.0 i ++ bits_of-octets_back k number back n h js small.1 i)

-- the m lowest octets of a number are its bits
pub bits_of-digits : (m z : ℕ) → z < 256 ^ m → bits_of (length (digits_l 256 m z) * 8) z ≡ all_bits 8 (turned (digits_l 256 m z))
bits_of-digits m z below =
    ap (bits_of (length (digits_l 256 m z) * 8)) (sym (number_of-digits 256 m z (omega arith) below))
    ∙ bits_of-octets (digits_l 256 m z) (small-digits m z)
  where
    small-digits : (m z : ℕ) → Each1 (λ x. x < 256) (digits_l 256 m z)
    small-digits zero z = tt
    small-digits (suc m) z = (omega arith, small-digits m (z / 256))
