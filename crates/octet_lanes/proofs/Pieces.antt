-- Lists cut into pieces, and filled up.
use Rattle.std.proofs.Common.{◌≡◌, ℕ, zero, suc, ◌+◌, ◌-◌, ◌*◌, ◌/◌, ◌%◌, ◌^◌, ◌<◌, List, [], ◌∷◌, ◌++◌, length, map, take, drop, replicate, refl, sym, ap, ◌∙◌, subst, inl, inr, arith}
use Rattle.std.specs.Simd.Lanes.{Each1}
use Rattle.std.proofs.lemmas.Bool.{cases_lt}
use Rattle.std.proofs.lemmas.List.{length-append, append_assoc, append-nil, length-take-le, length-drop, take-append-drop, take_at, drop_at, nil_from_length}
use Rattle.std.proofs.lemmas.Nat.{div_below}
use Rattle.std.proofs.Math.Nat.{add-mul-div_left, mul-add-mod_self_right, mod-eq_of_lt}
use Rattle.octet_lanes.specs.Encoding.{bits_of, all_bits, number_of, lacking, filled, first_pieces, cut, groups_of}
use Rattle.octet_lanes.proofs.Bits.{length-bits_of, number_of_bits, AreBits, bits_of-number, number_of-lt}

pub cut-nil : (k : ℕ) → 0 < k → cut k [] ≡ []
cut-nil k h =
    let small : (0 + (k - 1)) / k < 1 = div_below (0 + (k - 1)) k 1 h (omega arith) in
    let none : (0 + (k - 1)) / k ≡ 0 = omega arith in
    ap (λ n. first_pieces k n []) none

pub cut-step : (k : ℕ) (xs : List ℕ) → 0 < k → 0 < length xs → cut k xs ≡ take k xs ∷ cut k (drop k xs)
cut-step k xs h some =
    let rest : length (drop k xs) ≡ length xs - k = length-drop k xs in
    let count : (length xs + (k - 1)) / k ≡ suc ((length (drop k xs) + (k - 1)) / k) =
    elim (cases_lt (length xs) k) [
      | inl l ↦
          let fewer : (length xs - 1) / k < 1 = div_below (length xs - 1) k 1 h (omega arith) in
          let none : (0 + (k - 1)) / k < 1 = div_below (0 + (k - 1)) k 1 h (omega arith) in
          let one : (length xs - 1 + k * 1) / k ≡ (length xs - 1) / k + 1 = add-mul-div_left (length xs - 1) 1 h in
          let same : length xs + (k - 1) ≡ length xs - 1 + k * 1 = omega arith in
          let zero' : length (drop k xs) ≡ 0 = omega arith in
          ap (λ n. n / k) same ∙ (omega arith) ∙ ap (λ n. suc ((n + (k - 1)) / k)) (sym zero')
      | inr g ↦
          let one : (length xs - k + (k - 1) + k * 1) / k ≡ (length xs - k + (k - 1)) / k + 1 = add-mul-div_left (length xs - k + (k - 1)) 1 h in
          let same : length xs + (k - 1) ≡ length xs - k + (k - 1) + k * 1 = omega arith in
          ap (λ n. n / k) same ∙ one ∙ (omega arith) ∙ ap (λ n. suc ((n + (k - 1)) / k)) (sym rest)
    ] in
    ap (λ n. first_pieces k n xs) count

pub cut-append : (k : ℕ) (piece rest : List ℕ) → 0 < k → length piece ≡ k → cut k (piece ++ rest) ≡ piece ∷ cut k rest
cut-append k piece rest h long =
    cut-step k (piece ++ rest) h (omega (arith, length-append piece rest))
    ∙ (λ i. take_at piece rest k long i ∷ cut k (drop_at piece rest k long i))

-- the groups of numbers' bits are these numbers
pub groups_of-all_bits : (k : ℕ) (numbers rest : List ℕ) → 0 < k → Each1 (λ n. n < 2 ^ k) numbers → groups_of k (all_bits k numbers ++ rest) ≡ numbers ++ groups_of k rest
groups_of-all_bits k [] rest h small = refl
groups_of-all_bits k (n ∷ ns) rest h small =
    ap (groups_of k) (append_assoc (bits_of k n) (all_bits k ns) rest)
    ∙ ap (map number_of) (cut-append k (bits_of k n) (all_bits k ns ++ rest) h (length-bits_of k n))
    ∙ (λ i. (number_of_bits k n ∙ mod-eq_of_lt small.0) i ∷ groups_of-all_bits k ns rest h small.1 i)

pub groups_of_bits : (k : ℕ) (numbers : List ℕ) → 0 < k → Each1 (λ n. n < 2 ^ k) numbers → groups_of k (all_bits k numbers) ≡ numbers
groups_of_bits k ns h small =
    ap (groups_of k) (sym (append-nil (all_bits k ns))) ∙ groups_of-all_bits k ns [] h small
    ∙ ap (λ l. ns ++ map number_of l) (cut-nil k h) ∙ append-nil ns

-- the numbers that whole groups of bits write
pub record Groups (k n : ℕ) (bits : List ℕ) : Type 0 where
  pub numbers : List ℕ
  pub many : length numbers ≡ n
  pub small : Each1 (λ x. x < 2 ^ k) numbers
  pub same : all_bits k numbers ≡ bits

pub in_groups : (k n : ℕ) (bits : List ℕ) → 0 < k → length bits ≡ n * k → AreBits bits → Groups k n bits
in_groups k zero bits h long are = record { numbers = []; many = refl; small = tt; same = sym (nil_from_length bits (omega arith)) }
in_groups k (suc n) bits h long are =
    let enough : length (take k bits) ≡ k = length-take-le k bits (omega arith) in
    let rest = in_groups k n (drop k bits) h (omega (arith, length-drop k bits)) (AreBits-drop k bits are) in
    let first : AreBits (take k bits) = AreBits-take k bits are in
    record {
      numbers = number_of (take k bits) ∷ rest.numbers;
      many = ap suc rest.many;
      small = (subst (λ m. number_of (take k bits) < 2 ^ m) enough (number_of-lt (take k bits) first), rest.small);
      same = (λ i. (ap (λ m. bits_of m (number_of (take k bits))) (sym enough) ∙ bits_of-number (take k bits) first) i ++ rest.same i) ∙ take-append-drop k bits;
    }
  where
    AreBits-take : (k : ℕ) (bits : List ℕ) → AreBits bits → AreBits (take k bits)
    AreBits-take zero bits h = tt
    AreBits-take (suc k) [] h = tt
    AreBits-take (suc k) (b ∷ bits) h = (h.0, AreBits-take k bits h.1)

    AreBits-drop : (k : ℕ) (bits : List ℕ) → AreBits bits → AreBits (drop k bits)
    AreBits-drop zero bits h = h
    AreBits-drop (suc k) [] h = tt
    AreBits-drop (suc k) (b ∷ bits) h = AreBits-drop k bits h.1

-- whole first pieces need no filling
pub lacking_more : (k m n : ℕ) → lacking k (m * k + n) ≡ lacking k n
lacking_more k m n = ap (λ r. (k - r) % k) (mul-add-mod_self_right m k n)

pub filled-append : (k x m : ℕ) (xs ys : List ℕ) → length xs ≡ m * k → filled k x (xs ++ ys) ≡ xs ++ filled k x ys
filled-append k x m xs ys long =
    let count : lacking k (length (xs ++ ys)) ≡ lacking k (length ys) =
    ap (lacking k) (length-append xs ys ∙ ap (λ n. n + length ys) long) ∙ lacking_more k m (length ys) in
    ap (λ n. (xs ++ ys) ++ replicate n x) count ∙ append_assoc xs ys (replicate (lacking k (length ys)) x)
