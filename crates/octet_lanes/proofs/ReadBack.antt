-- A text read back: the groups of its symbols, and the octets of their bits.
use Rattle.std.proofs.Common.{◌≡◌, ℕ, zero, suc, ◌+◌, ◌*◌, ◌/◌, ◌^◌, ◌<◌, false, not, cond, eqb, List, [], ◌∷◌, ◌++◌, length, map, take, replicate, refl, sym, ap, ◌∙◌, arith}
use Rattle.std.specs.Simd.Lanes.{Each1}
use Rattle.std.specs.List.{prefix_len}
use Rattle.std.proofs.lemmas.Bool.{ne_eqb}
use Rattle.std.proofs.lemmas.List.{take_at}
use Rattle.std.proofs.lemmas.Simd.{Each1-from_get_or}
use Rattle.octet_lanes.specs.declared.alphabet.Alphabet.{Alphabet}
use Rattle.octet_lanes.specs.declared.alphabet.Alphabet.TheVariants.{Base64, Base32, Base32Hex}
use Rattle.octet_lanes.specs.Encoding.{width, quantum, symbol_of, class_of, stray, padding, all_bits, filled, groups_of, encoding_of, IsOctets, Spells, values_of, before_padding, whole, decoding_of}
use Rattle.octet_lanes.proofs.Bits.{length-all_bits}
use Rattle.octet_lanes.proofs.Pieces.{groups_of_bits}
use Rattle.octet_lanes.proofs.Symbols.{read_back}
use Rattle.octet_lanes.proofs.Texts.{AreGroups, text_groups, encoding_by_groups, symbols_in, filled-length}

pub small_octets : (xs : List ℕ) → IsOctets xs → Each1 (λ x. x < 2 ^ 8) xs
small_octets xs h = Each1-from_get_or (λ x. x < 2 ^ 8) xs 0 (λ i l. h i 0 l)

-- no symbol is the padding
pub before_padding-symbols : (alphabet : Alphabet) (groups : List ℕ) (n : ℕ) → AreGroups alphabet groups
    → before_padding (map (symbol_of alphabet) groups ++ replicate n padding) ≡ map (symbol_of alphabet) groups
before_padding-symbols alphabet [] zero h = refl
before_padding-symbols alphabet [] (suc n) h = refl
before_padding-symbols alphabet (g ∷ gs) n h =
    let other : eqb (symbol_of alphabet g) padding ≡ false = ne_eqb _ _ ((read_back alphabet g h.0).1) in
    ap (λ b. take (cond (not b) (1 + prefix_len (λ x. not (eqb x padding)) (map (symbol_of alphabet) gs ++ replicate n padding)) 0) (symbol_of alphabet g ∷ (map (symbol_of alphabet) gs ++ replicate n padding))) other
    ∙ one_more (prefix_len (λ x. not (eqb x padding)) (map (symbol_of alphabet) gs ++ replicate n padding)) (symbol_of alphabet g) (map (symbol_of alphabet) gs ++ replicate n padding)
    ∙ ap (λ l. symbol_of alphabet g ∷ l) (before_padding-symbols alphabet gs n h.1)
  where
    one_more : (m x : ℕ) (xs : List ℕ) → take (1 + m) (x ∷ xs) ≡ x ∷ take m xs
    one_more m x xs = let e : 1 + m ≡ suc m = omega arith in ap (λ k. take k (x ∷ xs)) e

-- the values of symbols are their groups
pub values_of-symbols : (alphabet : Alphabet) (groups : List ℕ) → AreGroups alphabet groups → values_of alphabet (map (symbol_of alphabet) groups) ≡ groups
values_of-symbols alphabet [] h = refl
values_of-symbols alphabet (g ∷ gs) h =
    let is : class_of alphabet (symbol_of alphabet g) ≡ g = (read_back alphabet g h.0).0 in
    let value : eqb g stray ≡ false = ne_eqb _ _ (λ e. absurd (small_value alphabet g h.0 e)) in
    ap (λ v. cond (not (eqb v stray)) (v ∷ values_of alphabet (map (symbol_of alphabet) gs)) (values_of alphabet (map (symbol_of alphabet) gs))) is
    ∙ ap (λ b. cond (not b) (g ∷ values_of alphabet (map (symbol_of alphabet) gs)) (values_of alphabet (map (symbol_of alphabet) gs))) value
    ∙ ap (λ l. g ∷ l) (values_of-symbols alphabet gs h.1)
  where
    small_value : (alphabet : Alphabet) (g : ℕ) → g < 2 ^ width alphabet → g ≡ stray → ⊥
    small_value Base64 g h e = omega arith
    small_value Base32 g h e = omega arith
    small_value Base32Hex g h e = omega arith

-- filling adds less than an octet
filled_octets : (alphabet : Alphabet) (n : ℕ) → symbols_in alphabet n * width alphabet / 8 ≡ n
filled_octets Base64 n = omega arith
filled_octets Base32 n = omega arith
filled_octets Base32Hex n = omega arith

-- the bits of a text's symbols, as whole octets
pub bits_of_text : (alphabet : Alphabet) (octets : List ℕ) → whole 8 (all_bits (width alphabet) (values_of alphabet (before_padding (encoding_of alphabet octets)))) ≡ all_bits 8 octets
bits_of_text alphabet octets =
    let w = width alphabet in
    let g = text_groups alphabet octets in
    let bits = all_bits 8 octets in
    let text : encoding_of alphabet octets ≡ filled (quantum alphabet) padding (map (symbol_of alphabet) g.numbers) = encoding_by_groups alphabet octets g.numbers g.small g.same in
    let values : values_of alphabet (before_padding (encoding_of alphabet octets)) ≡ g.numbers =
    ap (λ t. values_of alphabet (before_padding t)) text
    ∙ ap (values_of alphabet) (before_padding-symbols alphabet g.numbers _ g.small)
    ∙ values_of-symbols alphabet g.numbers g.small in
    let count : length (filled w 0 bits) / 8 * 8 ≡ length octets * 8 = ap (λ n. n / 8 * 8) (filled-length alphabet octets) ∙ ap (λ n. n * 8) (filled_octets alphabet (length octets)) in
    let whole_bits : whole 8 (filled w 0 bits) ≡ bits = ap (λ n. take n (filled w 0 bits)) count ∙ take_at bits _ (length octets * 8) (length-all_bits 8 octets) in
    ap (λ v. whole 8 (all_bits w v)) values ∙ ap (whole 8) g.same ∙ whole_bits

pub reads_back : (alphabet : Alphabet) (octets : List ℕ) → IsOctets octets → decoding_of alphabet (encoding_of alphabet octets) ≡ octets
unfolding decoding_of
reads_back alphabet octets are = ap (groups_of 8) (bits_of_text alphabet octets) ∙ groups_of_bits 8 octets (omega arith) (small_octets octets are)

pub spelled_by_one : (alphabet : Alphabet) (text x y : List ℕ) → IsOctets x → IsOctets y → Spells alphabet text x → Spells alphabet text y → x ≡ y
spelled_by_one alphabet text x y p q e f = sym (reads_back alphabet x p) ∙ ap (decoding_of alphabet) (sym e ∙ f) ∙ reads_back alphabet y q
