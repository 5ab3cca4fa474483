-- Texts, by their blocks and by their last quanta.
use Rattle.std.proofs.Common.{◌≡◌, ℕ, zero, suc, ◌+◌, ◌-◌, ◌*◌, ◌/◌, ◌^◌, ◌<◌, ◌≤◌, List, [], ◌∷◌, ◌++◌, length, map, take, drop, replicate, refl, sym, ap, ◌∙◌, arith}
use Rattle.std.specs.Simd.Lanes.{Each1}
use Rattle.std.proofs.lemmas.List.{length-append, append-nil, length-take-le, take-append-drop, map-append, length-map, length-replicate, take-replicate, drop-replicate, take-append-le, take-take, take-map, replicate-append-replicate}
use Rattle.std.proofs.lemmas.List.Concat.{flat_map-append}
use Rattle.std.proofs.Math.Seq.{take-append-add}
use Rattle.std.proofs.Math.Nat.{mul-le-mul_right}
use Rattle.std.specs.Int.{div_ceil}
use borrow.Rule.Slice.PartMut.{put_mid, post_of}
use Rattle.octet_lanes.specs.declared.alphabet.Alphabet.{Alphabet}
use Rattle.octet_lanes.specs.declared.alphabet.Alphabet.TheVariants.{Base64, Base32, Base32Hex}
use Rattle.octet_lanes.specs.Encoding.{width, quantum, symbol_of, padding, bits_of, all_bits, lacking, filled, groups_of, encoding_of}
use Rattle.octet_lanes.proofs.Bits.{length-all_bits, take-all_bits, AreBits, AreBits-all_bits, AreBits-append}
use Rattle.octet_lanes.proofs.Pieces.{groups_of-all_bits, groups_of_bits, Groups, in_groups, filled-append}

pub some_width : (alphabet : Alphabet) → 0 < width alphabet
some_width Base64 = omega arith
some_width Base32 = omega arith
some_width Base32Hex = omega arith

abbrev pub AreGroups : Alphabet → List ℕ → Type 0
AreGroups alphabet = Each1 (λ group. group < 2 ^ width alphabet)

-- a block of 32 groups stands before the text of what follows
pub encoding_block : (alphabet : Alphabet) (groups prefix rest : List ℕ) → length groups ≡ 32 → AreGroups alphabet groups
    → all_bits (width alphabet) groups ≡ all_bits 8 prefix → encoding_of alphabet (prefix ++ rest) ≡ map (symbol_of alphabet) groups ++ encoding_of alphabet rest
unfolding encoding_of
encoding_block alphabet groups prefix rest long small same =
    let w = width alphabet in
    let symbols = map (symbol_of alphabet) in
    let bits : all_bits 8 (prefix ++ rest) ≡ all_bits w groups ++ all_bits 8 rest =
    flat_map-append (bits_of 8) prefix rest ∙ ap (λ l. l ++ all_bits 8 rest) (sym same) in
    ap (λ l. filled (quantum alphabet) padding (symbols (groups_of w (filled w 0 l)))) bits
    ∙ ap (λ l. filled (quantum alphabet) padding (symbols (groups_of w l))) (filled-append w 0 32 (all_bits w groups) (all_bits 8 rest) (length-all_bits w groups ∙ ap (λ n. n * w) long))
    ∙ ap (λ l. filled (quantum alphabet) padding (symbols l)) (groups_of-all_bits w groups (filled w 0 (all_bits 8 rest)) (some_width alphabet) small)
    ∙ ap (filled (quantum alphabet) padding) (map-append (symbol_of alphabet) groups (groups_of w (filled w 0 (all_bits 8 rest))))
    ∙ whole_quanta alphabet (symbols groups) _ (length-map groups (symbol_of alphabet) ∙ long)
  where
    whole_quanta : (alphabet : Alphabet) (xs ys : List ℕ) → length xs ≡ 32 → filled (quantum alphabet) padding (xs ++ ys) ≡ xs ++ filled (quantum alphabet) padding ys
    whole_quanta Base64 xs ys e = filled-append 4 padding 8 xs ys e
    whole_quanta Base32 xs ys e = filled-append 8 padding 4 xs ys e
    whole_quanta Base32Hex xs ys e = filled-append 8 padding 4 xs ys e

-- how many symbols so many octets take
abbrev pub symbols_in : Alphabet → ℕ → ℕ
symbols_in alphabet n = (8 * n + (width alphabet - 1)) / width alphabet

filled_bits : (alphabet : Alphabet) (n : ℕ) → n * 8 + lacking (width alphabet) (n * 8) ≡ symbols_in alphabet n * width alphabet
filled_bits Base64 n = omega arith
filled_bits Base32 n = omega arith
filled_bits Base32Hex n = omega arith

-- the bits of octets, filled up
pub filled-length : (alphabet : Alphabet) (octets : List ℕ) → length (filled (width alphabet) 0 (all_bits 8 octets)) ≡ symbols_in alphabet (length octets) * width alphabet
filled-length alphabet octets =
    let long : length (all_bits 8 octets) ≡ length octets * 8 = length-all_bits 8 octets in
    let more : length (replicate (lacking (width alphabet) (length (all_bits 8 octets))) 0) ≡ lacking (width alphabet) (length (all_bits 8 octets)) = length-replicate _ 0 in
    let both : length (filled (width alphabet) 0 (all_bits 8 octets)) ≡ length (all_bits 8 octets) + lacking (width alphabet) (length (all_bits 8 octets)) = length-append (all_bits 8 octets) _ ∙ ap (λ n. length (all_bits 8 octets) + n) more in
    both ∙ ap (λ n. n + lacking (width alphabet) n) long ∙ filled_bits alphabet (length octets)

AreBits-zeros : (n : ℕ) → AreBits (replicate n 0)
AreBits-zeros zero = tt
AreBits-zeros (suc n) = (omega arith, AreBits-zeros n)

-- the groups of a text
pub text_groups : (alphabet : Alphabet) (octets : List ℕ) → Groups (width alphabet) (symbols_in alphabet (length octets)) (filled (width alphabet) 0 (all_bits 8 octets))
text_groups alphabet octets =
    in_groups (width alphabet) (symbols_in alphabet (length octets)) _ (some_width alphabet) (filled-length alphabet octets)
    (AreBits-append (all_bits 8 octets) _ (AreBits-all_bits 8 octets) (AreBits-zeros _))

pub encoding_by_groups : (alphabet : Alphabet) (octets groups : List ℕ) → AreGroups alphabet groups → all_bits (width alphabet) groups ≡ filled (width alphabet) 0 (all_bits 8 octets)
    → encoding_of alphabet octets ≡ filled (quantum alphabet) padding (map (symbol_of alphabet) groups)
unfolding encoding_of
encoding_by_groups alphabet octets groups small same =
    ap (λ l. filled (quantum alphabet) padding (map (symbol_of alphabet) l)) (ap (groups_of (width alphabet)) (sym same) ∙ groups_of_bits (width alphabet) groups (some_width alphabet) small)

-- ---- the text of a block

few_symbols : (alphabet : Alphabet) (n : ℕ) → n ≤ 4 * width alphabet → symbols_in alphabet n ≤ 32
few_symbols Base64 n h = omega arith
few_symbols Base32 n h = omega arith
few_symbols Base32Hex n h = omega arith

all_bits-zeros : (n : ℕ) → all_bits 8 (replicate n 0) ≡ replicate (n * 8) 0
all_bits-zeros zero = let e : zero * 8 ≡ zero = omega arith in ap (λ m. replicate m 0) (sym e)
all_bits-zeros (suc n) =
    let e : suc n * 8 ≡ 8 + n * 8 = omega arith in
    ap (λ l. bits_of 8 0 ++ l) (all_bits-zeros n) ∙ replicate-append-replicate 8 (n * 8) 0 ∙ ap (λ m. replicate m 0) (sym e)

-- the first groups of octets that zeros follow are the octets' own
pub first_groups : (alphabet : Alphabet) (octets groups : List ℕ) → length groups ≡ 32 → length octets ≤ 4 * width alphabet
    → all_bits (width alphabet) groups ≡ all_bits 8 (octets ++ replicate (4 * width alphabet - length octets) 0)
    → all_bits (width alphabet) (take (symbols_in alphabet (length octets)) groups) ≡ filled (width alphabet) 0 (all_bits 8 octets)
first_groups alphabet octets groups long few same =
    let w = width alphabet in
    let n = length octets in
    let s = symbols_in alphabet n in
    let j = 4 * w - n in
    let bits = all_bits 8 octets in
    let k = lacking w (length bits) in
    let many : length bits ≡ n * 8 = length-all_bits 8 octets in
    let count : s * w ≡ length bits + k = sym (filled_bits alphabet n) ∙ ap (λ m. m + lacking w m) (sym many) in
    let at_most : s * w ≤ 32 * w = mul-le-mul_right w (few_symbols alphabet n few) in
    let room : k ≤ j * 8 = omega arith in
    let zeros : all_bits 8 (octets ++ replicate j 0) ≡ bits ++ replicate (j * 8) 0 = flat_map-append (bits_of 8) octets (replicate j 0) ∙ ap (λ l. bits ++ l) (all_bits-zeros j) in
    sym (take-all_bits w s groups)
    ∙ (λ i. take (count i) ((same ∙ zeros) i))
    ∙ take-append-add bits (replicate (j * 8) 0) k
    ∙ ap (λ l. bits ++ l) (take-replicate k (j * 8) 0 room)

AreGroups-take : (alphabet : Alphabet) (n : ℕ) (groups : List ℕ) → AreGroups alphabet groups → AreGroups alphabet (take n groups)
AreGroups-take alphabet zero groups h = tt
AreGroups-take alphabet (suc n) [] h = tt
AreGroups-take alphabet (suc n) (g ∷ groups) h = (h.0, AreGroups-take alphabet n groups h.1)

-- the text of at most a block
pub encoding_last : (alphabet : Alphabet) (octets groups : List ℕ) → length groups ≡ 32 → AreGroups alphabet groups → length octets ≤ 4 * width alphabet
    → all_bits (width alphabet) groups ≡ all_bits 8 (octets ++ replicate (4 * width alphabet - length octets) 0)
    → encoding_of alphabet octets
    ≡ take (symbols_in alphabet (length octets)) (map (symbol_of alphabet) groups) ++ replicate (lacking (quantum alphabet) (symbols_in alphabet (length octets))) padding
encoding_last alphabet octets groups long small few same =
    let s = symbols_in alphabet (length octets) in
    let symbols = map (symbol_of alphabet) in
    let within : s ≤ length groups = omega (arith, few_symbols alphabet (length octets) few) in
    let many : length (symbols (take s groups)) ≡ s = length-map (take s groups) (symbol_of alphabet) ∙ length-take-le s groups within in
    encoding_by_groups alphabet octets (take s groups) (AreGroups-take alphabet s groups small) (first_groups alphabet octets groups long few same)
    ∙ (λ i. sym (take-map (symbol_of alphabet) s groups) i ++ replicate (lacking (quantum alphabet) (many i)) padding)

-- the symbols and their padding are whole quanta
pub padded_symbols : (alphabet : Alphabet) (n q : ℕ) → q * 8 ≡ width alphabet * quantum alphabet → div_ceil n q * quantum alphabet ≡ symbols_in alphabet n + lacking (quantum alphabet) (symbols_in alphabet n)
padded_symbols Base64 n q e = let three : q ≡ 3 = omega arith in ap (λ m. div_ceil n m * 4) three ∙ (omega arith)
padded_symbols Base32 n q e = let five : q ≡ 5 = omega arith in ap (λ m. div_ceil n m * 8) five ∙ (omega arith)
padded_symbols Base32Hex n q e = let five : q ≡ 5 = omega arith in ap (λ m. div_ceil n m * 8) five ∙ (omega arith)

pub symbols_are : (alphabet : Alphabet) (n : ℕ) → div_ceil (8 * n) (width alphabet) ≡ symbols_in alphabet n
symbols_are Base64 n = omega arith
symbols_are Base32 n = omega arith
symbols_are Base32Hex n = omega arith

pub few_characters : (alphabet : Alphabet) (n : ℕ) → n ≤ 4 * width alphabet → symbols_in alphabet n + lacking (quantum alphabet) (symbols_in alphabet n) ≤ 32
few_characters Base64 n h = omega arith
few_characters Base32 n h = omega arith
few_characters Base32Hex n h = omega arith

-- symbols, and padding over what follows them
pub padded_over : (text fill : List ℕ) (s k : ℕ) → length text ≡ 32 → s + k ≤ 32 → fill ≡ replicate (32 - s) padding → take (s + k) (put_mid s (32 - s) text fill) ≡ take s text ++ replicate k padding
padded_over text fill s k long room e =
    let enough : length (take s text) ≡ s = length-take-le s text (omega arith) in
    let fits : k ≤ length (replicate (32 - s) padding) = omega (arith, length-replicate (32 - s) padding) in
    let inner : k ≤ 32 - s = omega arith in
    ap (λ l. take (s + k) (take s text ++ (l ++ post_of s (32 - s) text))) e
    ∙ ap (λ n. take (n + k) (take s text ++ (replicate (32 - s) padding ++ post_of s (32 - s) text))) (sym enough)
    ∙ take-append-add (take s text) (replicate (32 - s) padding ++ post_of s (32 - s) text) k
    ∙ ap (λ l. take s text ++ l) (take-append-le k (replicate (32 - s) padding) (post_of s (32 - s) text) fits ∙ take-replicate k (32 - s) padding inner)

-- octets over zeros
pub octets_over : (octets : List ℕ) (n m : ℕ) → length octets ≡ n → n ≤ m → m ≤ 32 → take m (octets ++ drop n (replicate 32 0)) ≡ octets ++ replicate (m - n) 0
octets_over octets n m long le room =
    let count : m ≡ length octets + (m - n) = omega arith in
    ap (λ k. take k (octets ++ drop n (replicate 32 0))) count
    ∙ take-append-add octets (drop n (replicate 32 0)) (m - n)
    ∙ ap (λ l. octets ++ l) (ap (take (m - n)) (drop-replicate n 32 0) ∙ take-replicate (m - n) (32 - n) 0 (omega arith))

pub in_lanes : (alphabet : Alphabet) → 4 * width alphabet ≤ 32
in_lanes Base64 = omega arith
in_lanes Base32 = omega arith
in_lanes Base32Hex = omega arith

pub encoding_of-none : (alphabet : Alphabet) → encoding_of alphabet [] ≡ []
unfolding encoding_of
encoding_of-none Base64 = refl
encoding_of-none Base32 = refl
encoding_of-none Base32Hex = refl

-- a block's text stands first
pub encoding_prefix : (alphabet : Alphabet) (prefix rest : List ℕ) → length prefix ≡ 4 * width alphabet → encoding_of alphabet (prefix ++ rest) ≡ encoding_of alphabet prefix ++ encoding_of alphabet rest
encoding_prefix alphabet prefix rest long =
    let w = width alphabet in
    let count : length (all_bits 8 prefix) ≡ 32 * w = omega (arith, length-all_bits 8 prefix) in
    let g = in_groups w 32 (all_bits 8 prefix) (some_width alphabet) count (AreBits-all_bits 8 prefix) in
    let alone : encoding_of alphabet prefix ≡ map (symbol_of alphabet) g.numbers =
    ap (encoding_of alphabet) (sym (append-nil prefix)) ∙ encoding_block alphabet g.numbers prefix [] g.many g.small g.same
    ∙ ap (λ l. map (symbol_of alphabet) g.numbers ++ l) (encoding_of-none alphabet) ∙ append-nil (map (symbol_of alphabet) g.numbers) in
    encoding_block alphabet g.numbers prefix rest g.many g.small g.same ∙ ap (λ l. l ++ encoding_of alphabet rest) (sym alone)

groups_many : (alphabet : Alphabet) (groups prefix : List ℕ) → all_bits (width alphabet) groups ≡ all_bits 8 prefix → length prefix ≡ 4 * width alphabet → length groups ≡ 32
groups_many alphabet groups prefix same long =
    let many : length groups * width alphabet ≡ length prefix * 8 = sym (length-all_bits (width alphabet) groups) ∙ ap length same ∙ length-all_bits 8 prefix in
    by_width alphabet (length groups) (omega arith)
  where
    by_width : (alphabet : Alphabet) (n : ℕ) → n * width alphabet ≡ 4 * width alphabet * 8 → n ≡ 32
    by_width Base64 n e = omega arith
    by_width Base32 n e = omega arith
    by_width Base32Hex n e = omega arith

-- a whole block has no padding
pub encoding_whole : (alphabet : Alphabet) (groups prefix : List ℕ) → AreGroups alphabet groups → all_bits (width alphabet) groups ≡ all_bits 8 prefix → length prefix ≡ 4 * width alphabet
    → encoding_of alphabet prefix ≡ map (symbol_of alphabet) groups
encoding_whole alphabet groups prefix small same long =
    ap (encoding_of alphabet) (sym (append-nil prefix)) ∙ encoding_block alphabet groups prefix [] (groups_many alphabet groups prefix same long) small same
    ∙ ap (λ l. map (symbol_of alphabet) groups ++ l) (encoding_of-none alphabet) ∙ append-nil (map (symbol_of alphabet) groups)

-- the text of octets, out of that of the block that zeros fill
pub encoding_padded : (alphabet : Alphabet) (octets text : List ℕ) → length octets ≤ 4 * width alphabet → text ≡ encoding_of alphabet (octets ++ replicate (4 * width alphabet - length octets) 0)
    → encoding_of alphabet octets ≡ take (symbols_in alphabet (length octets)) text ++ replicate (lacking (quantum alphabet) (symbols_in alphabet (length octets))) padding
encoding_padded alphabet octets text few is =
    let w = width alphabet in
    let block = octets ++ replicate (4 * w - length octets) 0 in
    let long : length block ≡ 4 * w = length-append octets (replicate (4 * w - length octets) 0) ∙ ap (λ n. length octets + n) (length-replicate (4 * w - length octets) 0) ∙ (omega arith) in
    let count : length (all_bits 8 block) ≡ 32 * w = length-all_bits 8 block ∙ (omega arith) in
    let g = in_groups w 32 (all_bits 8 block) (some_width alphabet) count (AreBits-all_bits 8 block) in
    encoding_last alphabet octets g.numbers g.many g.small few g.same
    ∙ ap (λ l. take (symbols_in alphabet (length octets)) l ++ replicate (lacking (quantum alphabet) (symbols_in alphabet (length octets))) padding)
    (sym (encoding_whole alphabet g.numbers block g.small g.same long) ∙ sym is)

pub length-encoding_whole : (alphabet : Alphabet) (prefix : List ℕ) → length prefix ≡ 4 * width alphabet → length (encoding_of alphabet prefix) ≡ 32
length-encoding_whole alphabet prefix long =
    let w = width alphabet in
    let g = in_groups w 32 (all_bits 8 prefix) (some_width alphabet) (length-all_bits 8 prefix ∙ (omega arith)) (AreBits-all_bits 8 prefix) in
    ap length (encoding_whole alphabet g.numbers prefix g.small g.same long) ∙ length-map g.numbers (symbol_of alphabet) ∙ g.many

-- the rest after a block
pub encoding_rest : (alphabet : Alphabet) (rest lanes : List ℕ) → lanes ≡ take 32 rest → 32 ≤ length rest
    → encoding_of alphabet rest ≡ encoding_of alphabet (take (4 * width alphabet) lanes) ++ encoding_of alphabet (drop (4 * width alphabet) rest)
encoding_rest alphabet rest lanes is enough =
    let b = 4 * width alphabet in
    let prefix : take b lanes ≡ take b rest = ap (take b) is ∙ take-take b 32 rest (in_lanes alphabet) in
    let within : b ≤ length rest = omega (arith, in_lanes alphabet) in
    ap (encoding_of alphabet) (sym (take-append-drop b rest)) ∙ encoding_prefix alphabet (take b rest) (drop b rest) (length-take-le b rest within)
    ∙ ap (λ l. encoding_of alphabet l ++ encoding_of alphabet (drop b rest)) (sym prefix)

-- ---- whole quanta, however many

encoding_quanta : (alphabet : Alphabet) (groups prefix rest : List ℕ) (m : ℕ) → length groups ≡ m * quantum alphabet → AreGroups alphabet groups
    → all_bits (width alphabet) groups ≡ all_bits 8 prefix → encoding_of alphabet (prefix ++ rest) ≡ map (symbol_of alphabet) groups ++ encoding_of alphabet rest
unfolding encoding_of
encoding_quanta alphabet groups prefix rest m long small same =
    let w = width alphabet in
    let symbols = map (symbol_of alphabet) in
    let bits : all_bits 8 (prefix ++ rest) ≡ all_bits w groups ++ all_bits 8 rest =
    flat_map-append (bits_of 8) prefix rest ∙ ap (λ l. l ++ all_bits 8 rest) (sym same) in
    ap (λ l. filled (quantum alphabet) padding (symbols (groups_of w (filled w 0 l)))) bits
    ∙ ap (λ l. filled (quantum alphabet) padding (symbols (groups_of w l))) (filled-append w 0 (length groups) (all_bits w groups) (all_bits 8 rest) (length-all_bits w groups))
    ∙ ap (λ l. filled (quantum alphabet) padding (symbols l)) (groups_of-all_bits w groups (filled w 0 (all_bits 8 rest)) (some_width alphabet) small)
    ∙ ap (filled (quantum alphabet) padding) (map-append (symbol_of alphabet) groups (groups_of w (filled w 0 (all_bits 8 rest))))
    ∙ filled-append (quantum alphabet) padding m (symbols groups) _ (length-map groups (symbol_of alphabet) ∙ long)

-- m whole quanta of octets
pub encoding_whole_quanta : (alphabet : Alphabet) (prefix rest : List ℕ) (m : ℕ) → length prefix * 8 ≡ m * quantum alphabet * width alphabet
    → (encoding_of alphabet (prefix ++ rest) ≡ encoding_of alphabet prefix ++ encoding_of alphabet rest) × (length (encoding_of alphabet prefix) ≡ m * quantum alphabet)
encoding_whole_quanta alphabet prefix rest m long =
    let w = width alphabet in
    let g = in_groups w (m * quantum alphabet) (all_bits 8 prefix) (some_width alphabet) (length-all_bits 8 prefix ∙ long) (AreBits-all_bits 8 prefix) in
    let alone : encoding_of alphabet prefix ≡ map (symbol_of alphabet) g.numbers =
    ap (encoding_of alphabet) (sym (append-nil prefix)) ∙ encoding_quanta alphabet g.numbers prefix [] m g.many g.small g.same
    ∙ ap (λ l. map (symbol_of alphabet) g.numbers ++ l) (encoding_of-none alphabet) ∙ append-nil (map (symbol_of alphabet) g.numbers) in (
      encoding_quanta alphabet g.numbers prefix rest m g.many g.small g.same ∙ ap (λ l. l ++ encoding_of alphabet rest) (sym alone),
      ap length alone ∙ length-map g.numbers (symbol_of alphabet) ∙ g.many,
    )

-- the length of a text
pub length-encoding_of : (alphabet : Alphabet) (octets : List ℕ) → length (encoding_of alphabet octets) ≡ symbols_in alphabet (length octets) + lacking (quantum alphabet) (symbols_in alphabet (length octets))
length-encoding_of alphabet octets =
    let g = text_groups alphabet octets in
    let symbols = map (symbol_of alphabet) g.numbers in
    let many : length symbols ≡ symbols_in alphabet (length octets) = length-map g.numbers (symbol_of alphabet) ∙ g.many in
    ap length (encoding_by_groups alphabet octets g.numbers g.small g.same)
    ∙ length-append symbols (replicate (lacking (quantum alphabet) (length symbols)) padding)
    ∙ (λ i. many i + length-replicate (lacking (quantum alphabet) (many i)) padding i)
