-- Texts, a block after the other.
use Rattle.std.proofs.Common.{◌≡◌, ℕ, ◌*◌, ◌^◌, ◌<◌, ◌≤◌, Bool, true, false, ◌||◌, T, eqb, List, [], ◌∷◌, ◌++◌, length, map, take, drop, refl, sym, ap, ◌∙◌, subst, inl, inr, arith, eqb→eq}
use Rattle.std.specs.Simd.Lanes.{Each1}
use Rattle.std.specs.List.{list_any}
use Rattle.std.proofs.lemmas.Bool.{false≢true, cases_lt, eqb-false, ne_eqb}
use Rattle.std.proofs.lemmas.List.{length-take-le, take-append-drop, take_at, drop_at}
use Rattle.octet_lanes.specs.declared.alphabet.Alphabet.{Alphabet}
use Rattle.octet_lanes.specs.declared.alphabet.Alphabet.TheVariants.{Base64, Base32, Base32Hex}
use Rattle.octet_lanes.specs.Encoding.{width, quantum, symbol_of, class_of, stray, padding, all_bits, filled, groups_of, encoding_of, Spells}
use Rattle.octet_lanes.proofs.Bits.{length-all_bits, AreBits-all_bits}
use Rattle.octet_lanes.proofs.Pieces.{in_groups}
use Rattle.octet_lanes.proofs.Reading.{class_below}
use Rattle.octet_lanes.proofs.Symbols.{every_below, read_back}
use Rattle.octet_lanes.proofs.Texts.{AreGroups, encoding_prefix, encoding_whole, few_characters, length-encoding_of, length-encoding_whole, some_width}

-- ---- a block of symbols

-- an octet is a stray character, or the symbol of its class
spelled : Alphabet → ℕ → Bool
spelled alphabet octet = eqb (class_of alphabet octet) stray || eqb (symbol_of alphabet (class_of alphabet octet)) octet

each_spelled : (alphabet : Alphabet) (octet : ℕ) → octet < 256 → T (spelled alphabet octet)
unfolding spelled
each_spelled Base64 octet h = every_below (spelled Base64) 256 tt octet h
each_spelled Base32 octet h = every_below (spelled Base32) 256 tt octet h
each_spelled Base32Hex octet h = every_below (spelled Base32Hex) 256 tt octet h

symbol_again : (alphabet : Alphabet) (octet : ℕ) → octet < 256 → eqb (class_of alphabet octet) stray ≡ false → symbol_of alphabet (class_of alphabet octet) ≡ octet
unfolding spelled
symbol_again alphabet octet h value = eqb→eq _ _ (subst (λ b. T (b || eqb (symbol_of alphabet (class_of alphabet octet)) octet)) value (each_spelled alphabet octet h))

-- the symbols of the classes, and that the classes are groups
symbols_again : (alphabet : Alphabet) (block : List ℕ) → Each1 (λ octet. octet < 256) block → list_any (λ class. eqb class stray) (map (class_of alphabet) block) ≡ false
    → (map (symbol_of alphabet) (map (class_of alphabet) block) ≡ block) × AreGroups alphabet (map (class_of alphabet) block)
symbols_again alphabet [] small free = (refl, tt)
symbols_again alphabet (octet ∷ block) small free = go (eqb (class_of alphabet octet) stray) refl free (symbols_again alphabet block small.1)
  where
    go : (b : Bool) → eqb (class_of alphabet octet) stray ≡ b → (b || list_any (λ class. eqb class stray) (map (class_of alphabet) block)) ≡ false
        → (list_any (λ class. eqb class stray) (map (class_of alphabet) block) ≡ false → (map (symbol_of alphabet) (map (class_of alphabet) block) ≡ block) × AreGroups alphabet (map (class_of alphabet) block))
        → (map (symbol_of alphabet) (map (class_of alphabet) (octet ∷ block)) ≡ octet ∷ block) × AreGroups alphabet (map (class_of alphabet) (octet ∷ block))
    go true e h rest = absurd (false≢true (sym h))
    go false e h rest =
        let r = rest h in
        (λ i. symbol_again alphabet octet small.0 e i ∷ r.0 i, (class_below alphabet octet (class_of alphabet octet) refl (eqb-false _ _ e), r.1))

-- a block without stray characters is the text of its octets
pub block_spelled : (alphabet : Alphabet) (block classes octets : List ℕ) → Each1 (λ octet. octet < 256) block → classes ≡ map (class_of alphabet) block
    → list_any (λ class. eqb class stray) classes ≡ false → all_bits 8 octets ≡ all_bits (width alphabet) classes → length octets ≡ 4 * width alphabet → Spells alphabet block octets
block_spelled alphabet block classes octets small is free same long =
    let all = symbols_again alphabet block small (ap (list_any (λ class. eqb class stray)) (sym is) ∙ free) in
    sym all.0 ∙ sym (encoding_whole alphabet (map (class_of alphabet) block) octets all.1 (ap (all_bits (width alphabet)) (sym is) ∙ sym same) long)

symbols_free : (alphabet : Alphabet) (groups : List ℕ) → AreGroups alphabet groups → list_any (λ class. eqb class stray) (map (class_of alphabet) (map (symbol_of alphabet) groups)) ≡ false
symbols_free alphabet [] small = refl
symbols_free alphabet (g ∷ groups) small =
    let is : class_of alphabet (symbol_of alphabet g) ≡ g = (read_back alphabet g small.0).0 in
    let value : eqb g stray ≡ false = ne_eqb _ _ (λ e. absurd (is_value alphabet g small.0 e)) in
    (λ i. (ap (λ c. eqb c stray) is ∙ value) i || symbols_free alphabet groups small.1 i)
  where
    is_value : (alphabet : Alphabet) (g : ℕ) → g < 2 ^ width alphabet → g ≡ stray → ⊥
    is_value Base64 g h e = omega arith
    is_value Base32 g h e = omega arith
    is_value Base32Hex g h e = omega arith

-- the text of a whole block has no stray characters
pub spelled_free : (alphabet : Alphabet) (block octets : List ℕ) → length octets ≡ 4 * width alphabet → Spells alphabet block octets → list_any (λ class. eqb class stray) (map (class_of alphabet) block) ≡ false
spelled_free alphabet block octets long spells =
    let w = width alphabet in
    let count : length (all_bits 8 octets) ≡ 32 * w = length-all_bits 8 octets ∙ (omega arith) in
    let g = in_groups w 32 (all_bits 8 octets) (some_width alphabet) count (AreBits-all_bits 8 octets) in
    ap (λ l. list_any (λ class. eqb class stray) (map (class_of alphabet) l)) (spells ∙ encoding_whole alphabet g.numbers octets g.small g.same long)
    ∙ symbols_free alphabet g.numbers g.small

-- ---- a first block

pub block_before : (alphabet : Alphabet) (text block after octets more : List ℕ) → block ≡ take 32 text → after ≡ drop 32 text → length octets ≡ 4 * width alphabet
    → Spells alphabet block octets → Spells alphabet after more → Spells alphabet text (octets ++ more)
block_before alphabet text block after octets more prefix back long first second =
    sym (take-append-drop 32 text) ∙ (λ i. (sym prefix ∙ first) i ++ (sym back ∙ second) i) ∙ sym (encoding_prefix alphabet octets more long)

-- more than a block of text is that of more than a block of octets
enough : (alphabet : Alphabet) (text octets : List ℕ) → 32 < length text → Spells alphabet text octets → 4 * width alphabet ≤ length octets
enough alphabet text octets long spells =
    elim (cases_lt (length octets) (4 * width alphabet)) [
      | inl l ↦ let few = few_characters alphabet (length octets) (omega arith) in absurd (omega (arith, ap length spells ∙ length-encoding_of alphabet octets))
      | inr g ↦ omega arith
    ]

-- what a first block and what follows it spell
pub record IsAhead (alphabet : Alphabet) (block after octets : List ℕ) : Type 0 where
  pub long : length (take (4 * width alphabet) octets) ≡ 4 * width alphabet
  pub first : Spells alphabet block (take (4 * width alphabet) octets)
  pub second : Spells alphabet after (drop (4 * width alphabet) octets)

pub in_prefix : (alphabet : Alphabet) (text block after octets : List ℕ) → block ≡ take 32 text → after ≡ drop 32 text → 32 < length text → Spells alphabet text octets
    → IsAhead alphabet block after octets
in_prefix alphabet text block after octets prefix back long spells =
    let n = 4 * width alphabet in
    let whole : length (take n octets) ≡ n = length-take-le n octets (enough alphabet text octets long spells) in
    let both : text ≡ encoding_of alphabet (take n octets) ++ encoding_of alphabet (drop n octets) =
    spells ∙ ap (encoding_of alphabet) (sym (take-append-drop n octets)) ∙ encoding_prefix alphabet (take n octets) (drop n octets) whole in
    let many : length (encoding_of alphabet (take n octets)) ≡ 32 = length-encoding_whole alphabet (take n octets) whole in
    record {
      long = whole;
      first = prefix ∙ ap (take 32) both ∙ take_at (encoding_of alphabet (take n octets)) (encoding_of alphabet (drop n octets)) 32 many;
      second = back ∙ ap (drop 32) both ∙ drop_at (encoding_of alphabet (take n octets)) (encoding_of alphabet (drop n octets)) 32 many;
    }

-- ---- the last block

-- a text is that of the bits
pub same_text : (alphabet : Alphabet) (xs ys : List ℕ) → all_bits 8 xs ≡ all_bits 8 ys → encoding_of alphabet xs ≡ encoding_of alphabet ys
unfolding encoding_of
same_text alphabet xs ys same =
    ap (λ bits. filled (quantum alphabet) padding (map (symbol_of alphabet) (groups_of (width alphabet) (filled (width alphabet) 0 bits)))) same
