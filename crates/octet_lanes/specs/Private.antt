-- Private: further values of a lane, and what was read of a text.
use Rattle.std.specs.Prelude.{ℕ, zero, suc, ◌+◌, ◌-◌, ◌*◌, ◌/◌, ◌%◌, ◌^◌, ◌==◌, nat_lt, if◌then◌else◌, List, [], ◌∷◌, ◌++◌, length, map, replicate, ◌≡◌, false}
use Rattle.octet_lanes.specs.Lanes.{added}
use Rattle.octet_lanes.specs.declared.alphabet.Alphabet.{Alphabet}
use Rattle.octet_lanes.specs.Encoding.{all_bits, contains_padding, values_of, width}

-- the difference, and 256 where it would be less than 0
abbrev pub taken : ℕ → ℕ → ℕ
taken n x = (x + (256 - n)) % 256

-- y where x is below n
abbrev pub if_below : ℕ → ℕ → ℕ → ℕ
if_below n x y = if nat_lt x n then y else 0

-- the place in the run of n octets from the first on, and mark; 0 outside of the run
abbrev pub in_run : ℕ → ℕ → ℕ → ℕ → ℕ
in_run first n mark octet = if_below n (taken first octet) (added (taken first octet) mark)

-- a number of two groups of k bits as two halves of h bits, the first in the low half
abbrev pub halves_of : ℕ → ℕ → ℕ → ℕ
halves_of k h x = x / 2 ^ k + x % 2 ^ k * 2 ^ h

-- the same turned round
abbrev pub whole_of : ℕ → ℕ → ℕ → ℕ
whole_of k h x = x % 2 ^ h * 2 ^ k + x / 2 ^ h

-- the two halves of a lane of twice h bits, the low one first
abbrev pub parts_of : ℕ → ℕ → List ℕ
parts_of h x = (x % 2 ^ h) ∷ (x / 2 ^ h) ∷ []

-- the places of the bits that are set among the k lowest, in order
abbrev pub bits_set : ℕ → ℕ → List ℕ
bits_set zero number = []
bits_set (suc k) number =
    let higher = map suc (bits_set k (number / 2)) in
    if number % 2 == 1 then 0 ∷ higher else higher

-- the places of the bits that are set among eight, then 8, in 16 lanes
abbrev pub order_of : ℕ → List ℕ
order_of number = bits_set 8 number ++ replicate (16 - length (bits_set 8 number)) 8

-- What was appended are the bits of a first part of a text, in which no `=` stands.
pub record IsRead (alphabet : Alphabet) (prefix was now : List ℕ) : Type 0 where
  pub free : contains_padding prefix ≡ false
  pub bits : all_bits 8 now ≡ all_bits 8 was ++ all_bits (width alphabet) (values_of alphabet prefix)
