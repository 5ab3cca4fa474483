-- Symbols and classes, computed at each value and at each octet.
use Rattle.std.proofs.Common.{◌≡◌, ltb, ℕ, zero, suc, ◌-◌, ◌^◌, ◌<◌, ◌≢◌, Bool, true, not, ◌&&◌, T, eqb, List, [], ◌∷◌, map, refl, ap, subst, inl, inr, arith, eq-zero-or-pos, eqb→eq, eq-eqb}
use Rattle.std.specs.Simd.Lanes.{Each1}
use Rattle.std.proofs.Math.Facts.{ltb_yes}
use lib.Ieee.Fits.{and_l, and_r}
use Rattle.octet_lanes.specs.declared.alphabet.Alphabet.{Alphabet}
use Rattle.octet_lanes.specs.declared.alphabet.Alphabet.TheVariants.{Base64, Base32, Base32Hex}
use Rattle.octet_lanes.specs.Encoding.{width, symbol_of, class_of, padding}

abbrev pub all_below : (ℕ → Bool) → ℕ → Bool
all_below p zero = true
all_below p (suc n) = p n && all_below p n

pub every_below : (p : ℕ → Bool) (n : ℕ) → T (all_below p n) → (i : ℕ) → i < n → T (p i)
every_below p zero h i l = absurd (omega arith)
every_below p (suc n) h i l =
    elim (eq-zero-or-pos (n - i)) [
      | inl z ↦ let e : n ≡ i = omega arith in subst (λ x. T (p x)) e (and_l _ _ h)
      | inr g ↦ every_below p n (and_r (p n) _ h) i (omega arith)
    ]

-- two functions that agree at each octet
pub map_same : (f g : ℕ → ℕ) (n : ℕ) → T (all_below (λ b. eqb (f b) (g b)) n) → (xs : List ℕ) → Each1 (λ x. x < n) xs → map f xs ≡ map g xs
map_same f g n h [] small = refl
map_same f g n h (x ∷ xs) small = λ i. eqb→eq _ _ (every_below (λ b. eqb (f b) (g b)) n h x small.0) i ∷ map_same f g n h xs small.1 i

-- a function whose numbers are small
pub map_below : (f : ℕ → ℕ) (m n : ℕ) → T (all_below (λ b. ltb (f b) m) n) → (xs : List ℕ) → Each1 (λ x. x < n) xs → Each1 (λ y. y < m) (map f xs)
map_below f m n h [] small = tt
map_below f m n h (x ∷ xs) small = (ltb_yes (every_below (λ b. ltb (f b) m) n h x small.0), map_below f m n h xs small.1)

-- what holds of each value's symbol
abbrev pub IsReadBack : Alphabet → ℕ → Type 0
IsReadBack alphabet v = (class_of alphabet (symbol_of alphabet v) ≡ v) × (symbol_of alphabet v ≢ padding)

reads : Alphabet → ℕ → Bool
reads alphabet v = eqb (class_of alphabet (symbol_of alphabet v)) v && not (eqb (symbol_of alphabet v) padding)

from_reads : (alphabet : Alphabet) (v : ℕ) → T (reads alphabet v) → IsReadBack alphabet v
unfolding reads
from_reads alphabet v t =
    (eqb→eq _ _ (and_l _ _ t), λ e. absurd (subst T (ap not (eq-eqb _ _ e)) (and_r _ _ t)))

pub read_back : (alphabet : Alphabet) (v : ℕ) → v < 2 ^ width alphabet → IsReadBack alphabet v
unfolding reads
read_back Base64 v h = from_reads Base64 v (every_below (reads Base64) 64 tt v h)
read_back Base32 v h = from_reads Base32 v (every_below (reads Base32) 32 tt v h)
read_back Base32Hex v h = from_reads Base32Hex v (every_below (reads Base32Hex) 32 tt v h)
