-- Bits, the highest first, and the numbers that they write.
use Rattle.std.proofs.Common.{◌≡◌, ℕ, zero, suc, ◌+◌, ◌*◌, ◌/◌, ◌%◌, ◌^◌, ◌<◌, ◌≤◌, List, [], ◌∷◌, ◌++◌, length, take, refl, sym, ap, ◌∙◌, arith}
use Rattle.std.specs.Simd.Lanes.{Each1}
use Rattle.std.specs.Int.{bit_at}
use Rattle.std.proofs.lemmas.List.{length-append}
use Rattle.std.proofs.lemmas.Nat.{shr-shr, mod-pow-add, shr_high}
use Rattle.std.proofs.lemmas.Nat.Bits.{bit_at_cat_low}
use Rattle.std.proofs.Math.Nat.{pow-suc, mul-le-mul_right}
use Rattle.std.proofs.Math.Seq.{take-append-add}
use Rattle.octet_lanes.specs.Encoding.{bits_of, all_bits, number_of}

pub length-bits_of : (k n : ℕ) → length (bits_of k n) ≡ k
length-bits_of zero n = refl
length-bits_of (suc k) n = ap suc (length-bits_of k n)

pub length-all_bits : (k : ℕ) (ns : List ℕ) → length (all_bits k ns) ≡ length ns * k
length-all_bits k [] = omega arith
length-all_bits k (n ∷ ns) = omega (arith, length-append (bits_of k n) (all_bits k ns), length-bits_of k n, length-all_bits k ns)

pub bits_same : (k a b : ℕ) → ((i : ℕ) → i < k → bit_at a i ≡ bit_at b i) → bits_of k a ≡ bits_of k b
bits_same zero a b h = refl
bits_same (suc k) a b h = λ i. h k (omega arith) i ∷ bits_same k a b (λ j l. h j (omega arith)) i

-- the first bits are those of the quotient
pub bits_split : (j k n m : ℕ) → m ≡ j + k → bits_of m n ≡ bits_of j (n / 2 ^ k) ++ bits_of k n
bits_split zero k n m e = ap (λ i. bits_of i n) (omega arith)
bits_split (suc j) k n m e =
    let first : n / 2 ^ (j + k) % 2 ≡ n / 2 ^ k / 2 ^ j % 2 = ap (λ x. x % 2) (ap (λ i. n / 2 ^ i) (omega arith) ∙ sym (shr-shr n k j)) in
    let same : m ≡ suc (j + k) = omega arith in
    ap (λ i. bits_of i n) same ∙ (λ i. first i ∷ bits_split j k n (j + k) refl i)

-- two numbers in one
pub bits_pair : (j k a b m : ℕ) → m ≡ j + k → b < 2 ^ k → bits_of m (a * 2 ^ k + b) ≡ bits_of j a ++ bits_of k b
bits_pair j k a b m e l =
    bits_split j k (a * 2 ^ k + b) m e
    ∙ (λ i. bits_of j (shr_high a k b l i) ++ bits_same k (a * 2 ^ k + b) b (λ h m. bit_at_cat_low a k b h m) i)

pub number_of_bits : (k n : ℕ) → number_of (bits_of k n) ≡ n % 2 ^ k
number_of_bits zero n = omega arith
number_of_bits (suc k) n =
    let long : length (bits_of k n) ≡ k = length-bits_of k n in
    let step : n % 2 ^ (1 + k) ≡ n / 2 ^ k % 2 ^ 1 * 2 ^ k + n % 2 ^ k = mod-pow-add n 1 k in
    (λ i. n / 2 ^ k % 2 * 2 ^ (long i) + number_of_bits k n i) ∙ sym step ∙ ap (λ i. n % 2 ^ i) (omega arith)

abbrev pub AreBits : List ℕ → Type 0
AreBits = Each1 (λ bit. bit < 2)

pub AreBits-append : (xs ys : List ℕ) → AreBits xs → AreBits ys → AreBits (xs ++ ys)
AreBits-append [] ys h g = g
AreBits-append (x ∷ xs) ys h g = (h.0, AreBits-append xs ys h.1 g)

pub AreBits-bits_of : (k n : ℕ) → AreBits (bits_of k n)
AreBits-bits_of zero n = tt
AreBits-bits_of (suc k) n = (omega arith, AreBits-bits_of k n)

pub AreBits-all_bits : (k : ℕ) (ns : List ℕ) → AreBits (all_bits k ns)
AreBits-all_bits k [] = tt
AreBits-all_bits k (n ∷ ns) = AreBits-append (bits_of k n) (all_bits k ns) (AreBits-bits_of k n) (AreBits-all_bits k ns)

pub number_of-lt : (bits : List ℕ) → AreBits bits → number_of bits < 2 ^ length bits
number_of-lt [] h = omega arith
number_of-lt (bit ∷ bits) h =
    let below : number_of bits < 2 ^ length bits = number_of-lt bits h.1 in
    let product : bit * 2 ^ length bits ≤ 1 * 2 ^ length bits = mul-le-mul_right (2 ^ length bits) (omega (arith, h.0)) in
    let power : 2 ^ suc (length bits) ≡ 2 ^ length bits * 2 = pow-suc 2 (length bits) in
    omega arith

-- the number that k bits write has these bits
pub bits_of-number : (bits : List ℕ) → AreBits bits → bits_of (length bits) (number_of bits) ≡ bits
bits_of-number [] h = refl
bits_of-number (bit ∷ bits) h =
    let k = length bits in
    let below : number_of bits < 2 ^ k = number_of-lt bits h.1 in
    let first : (bit * 2 ^ k + number_of bits) / 2 ^ k ≡ bit = shr_high bit k (number_of bits) below in
    let low : bits_of k (bit * 2 ^ k + number_of bits) ≡ bits = bits_same k _ _ (λ i l. bit_at_cat_low bit k (number_of bits) i l) ∙ bits_of-number bits h.1 in
    let whole : bit % 2 ≡ bit = omega (arith, h.0) in
    λ i. (ap (λ x. x % 2) first ∙ whole) i ∷ low i

-- all bits of a list, taken at the end of a number
pub take-all_bits : (k n : ℕ) (ns : List ℕ) → take (n * k) (all_bits k ns) ≡ all_bits k (take n ns)
take-all_bits k zero ns = let none : zero * k ≡ zero = omega arith in ap (λ i. take i (all_bits k ns)) none
take-all_bits k (suc n) [] = take-nil (suc n * k)
  where
    take-nil : (m : ℕ) → take {A = ℕ} m [] ≡ []
    take-nil zero = refl
    take-nil (suc m) = refl
take-all_bits k (suc n) (x ∷ ns) =
    let count : suc n * k ≡ length (bits_of k x) + n * k = omega (arith, length-bits_of k x) in
    ap (λ i. take i (bits_of k x ++ all_bits k ns)) count
    ∙ take-append-add (bits_of k x) (all_bits k ns) (n * k)
    ∙ ap (λ l. bits_of k x ++ l) (take-all_bits k n ns)
