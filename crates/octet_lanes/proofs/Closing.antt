-- Eight classes closed up by a table of places.
use Rattle.std.proofs.Common.{◌≡◌, ℕ, zero, suc, ◌+◌, ◌-◌, ◌*◌, ◌/◌, ◌%◌, ◌<◌, ◌≤◌, ◌^◌, Bool, true, false, cond, not, ◌&&◌, T, eqb, leb, List, [], ◌∷◌, ◌++◌, length, take, drop, get_or, map, replicate, refl, sym, ap, ◌∙◌, arith, length-append, length-drop, w8, eqb→eq, subst}
use Rattle.std.specs.Simd.Lanes.{Each1, mask_l, number_l, digits_l, pick_l}
use Rattle.std.specs.List.{filter, range_with_len}
use Rattle.std.specs.Int.RustNames.{count_ones}
use Rattle.std.proofs.lemmas.Simd.{map-map, mask_l-lt, ones-mask_l, swz_l, SwzOk, SwzOk-from_below, length-swz_l, get_or-swz_l_below, Each1-get_or, pick_l-range_with_len}
use Rattle.std.proofs.lemmas.List.{ext_get_or, length-map, get_or-map, get_or-append_right, map-append, append_assoc, drop-replicate, length-replicate, replicate-append-replicate, drop-append-le, take-append-le}
use Rattle.std.proofs.lemmas.List.Sums.{length-filter, count_by-le-length}
use Rattle.std.proofs.lemmas.List.Elements.{filter-append}
use Rattle.std.proofs.Math.Seq.{take-append_seam, take-append-add, take-add, drop-append-add}
use Rattle.octet_lanes.specs.Encoding.{stray, values_among}
use Rattle.octet_lanes.specs.Private.{bits_set, order_of}
use Rattle.octet_lanes.specs.declared.close.TheConstants.{ORDERS}
use Rattle.octet_lanes.proofs.Symbols.{every_below}
use Rattle.std.proofs.Math.Facts.{leb_yes}
use lib.Ieee.Fits.{and_l, and_r}

-- ---- the table

abbrev same : List ℕ → List ℕ → Bool
same [] [] = true
same [] (y ∷ ys) = false
same (x ∷ xs) [] = false
same (x ∷ xs) (y ∷ ys) = eqb x y && same xs ys

from_same : (xs ys : List ℕ) → T (same xs ys) → xs ≡ ys
from_same [] [] h = refl
from_same [] (y ∷ ys) h = absurd h
from_same (x ∷ xs) [] h = absurd h
from_same (x ∷ xs) (y ∷ ys) h = λ i. eqb→eq x y (and_l _ _ h) i ∷ from_same xs ys (and_r (eqb x y) _ h) i

abbrev pub row : ℕ → List ℕ
row bits = digits_l 256 16 (number_l (2 ^ 64) (get_or ORDERS bits 0 ∷ get_or ORDERS 0 0 ∷ []))

pub row_is : (bits : ℕ) → bits < 256 → row bits ≡ order_of bits
row_is bits small = from_same (row bits) (order_of bits) (every_below (λ b. same (row b) (order_of b)) 256 tt bits small)

abbrev small_row : List ℕ → Bool
small_row [] = true
small_row (x ∷ xs) = leb x 8 && small_row xs

from_small_row : (xs : List ℕ) → T (small_row xs) → Each1 (λ x. x < 16) xs
from_small_row [] h = tt
from_small_row (x ∷ xs) h = (omega (arith, leb_yes (and_l (leb x 8) _ h)), from_small_row xs (and_r (leb x 8) _ h))

pub row_small : (bits : ℕ) → bits < 256 → Each1 (λ place. place < 16) (order_of bits)
row_small bits small = from_small_row (order_of bits) (every_below (λ b. small_row (order_of b)) 256 tt bits small)

pub row_long : (bits : ℕ) → bits < 256 → length (order_of bits) ≡ 16
row_long bits small = eqb→eq _ _ (every_below (λ b. eqb (length (order_of b)) 16) 256 tt bits small)

-- ---- lanes by their places

pub places_ok_16 : (places : List ℕ) → length places ≡ 16 → Each1 (λ place. place < 16) places → SwzOk w8 16 16 0 places
places_ok_16 places long small = SwzOk-from_below w8 16 1 16 0 places refl (omega arith) small

pub placed_16 : (lanes places : List ℕ) → length places ≡ 16 → Each1 (λ place. place < 16) places → swz_l w8 16 lanes 0 places ≡ map (λ place. get_or lanes place 0) places
placed_16 lanes places long small =
    ext_get_or 0 _ _ (length-swz_l w8 16 lanes 0 places ∙ sym (length-map places (λ place. get_or lanes place 0))) (λ i h.
    let within : i < length places = omega (arith, length-swz_l w8 16 lanes 0 places) in
    let below : get_or places i 0 < 16 = Each1-get_or (λ place. place < 16) places i 0 within small in
    let first : 16 * ((0 + i) / 16) + get_or places i 0 ≡ get_or places i 0 = omega arith in
    get_or-swz_l_below w8 16 lanes 0 places i within below
    ∙ ap (λ k. get_or lanes k 0) first
    ∙ sym (get_or-map (λ place. get_or lanes place 0) places i 0 0 within))

-- the lowest bit, and the others
half : (b : Bool) (n : ℕ) → (cond b 1 0 + 2 * n) / 2 ≡ n
half true n = omega arith
half false n = omega arith

low : (b : Bool) (n : ℕ) → eqb ((cond b 1 0 + 2 * n) % 2) 1 ≡ b
low true n = let e : (1 + 2 * n) % 2 ≡ 1 = omega arith in ap (λ r. eqb r 1) e
low false n = let e : (0 + 2 * n) % 2 ≡ 0 = omega arith in ap (λ r. eqb r 1) e

picked_more : (p : ℕ → Bool) (x : ℕ) (xs rest : List ℕ) → map (λ j. get_or (xs ++ rest) j 0) (bits_set (length xs) (mask_l (map p xs))) ≡ filter p xs → (b : Bool)
    → map (λ j. get_or (x ∷ (xs ++ rest)) j 0) (cond b (0 ∷ map suc (bits_set (length xs) (mask_l (map p xs)))) (map suc (bits_set (length xs) (mask_l (map p xs))))) ≡ cond b (x ∷ filter p xs) (filter p xs)
picked_more p x xs rest before true = ap (λ l. x ∷ l) (map-map (λ j. get_or (x ∷ (xs ++ rest)) j 0) suc (bits_set (length xs) (mask_l (map p xs))) ∙ before)
picked_more p x xs rest before false = map-map (λ j. get_or (x ∷ (xs ++ rest)) j 0) suc (bits_set (length xs) (mask_l (map p xs))) ∙ before

-- the lanes whose bits are set are those that pass
pub picked : (p : ℕ → Bool) (xs rest : List ℕ) → map (λ j. get_or (xs ++ rest) j 0) (bits_set (length xs) (mask_l (map p xs))) ≡ filter p xs
picked p [] rest = refl
picked p (x ∷ xs) rest =
    ap (λ b. map (λ j. get_or (x ∷ (xs ++ rest)) j 0) (cond b (0 ∷ map suc (bits_set (length xs) (mask_l (map p (x ∷ xs)) / 2))) (map suc (bits_set (length xs) (mask_l (map p (x ∷ xs)) / 2))))) (low (p x) (mask_l (map p xs)))
    ∙ ap (λ n. map (λ j. get_or (x ∷ (xs ++ rest)) j 0) (cond (p x) (0 ∷ map suc (bits_set (length xs) n)) (map suc (bits_set (length xs) n)))) (half (p x) (mask_l (map p xs)))
    ∙ picked_more p x xs rest (picked p xs rest) (p x)

-- ---- the values of a group

-- lanes that fail, after those that are asked for, set no bit
pub mask_before : (p : ℕ → Bool) (y : ℕ) → p y ≡ false → (xs : List ℕ) (n : ℕ) → mask_l (map p (xs ++ replicate n y)) ≡ mask_l (map p xs)
mask_before p y fails [] zero = refl
mask_before p y fails [] (suc n) = ap (λ b. cond b 1 0 + 2 * mask_l (map p (replicate n y))) fails ∙ ap (λ m. 0 + 2 * m) (mask_before p y fails [] n)
mask_before p y fails (x ∷ xs) n = ap (λ m. cond (p x) 1 0 + 2 * m) (mask_before p y fails xs n)

fillers : (xs : List ℕ) → length xs ≡ 8 → (n : ℕ) → map (λ j. get_or (xs ++ replicate 8 stray) j 0) (replicate n 8) ≡ replicate n stray
fillers xs long zero = refl
fillers xs long (suc n) = λ i. get_or-append_right xs (replicate 8 stray) 8 8 0 long (omega arith) i ∷ fillers xs long n i

-- eight classes, and as many stray ones, by the places of the values
pub closed_group : (xs : List ℕ) → length xs ≡ 8
    → map (λ j. get_or (xs ++ replicate 8 stray) j 0) (order_of (mask_l (map (λ class. not (eqb class stray)) (xs ++ replicate 8 stray)))) ≡ values_among xs ++ replicate (16 - length (values_among xs)) stray
closed_group xs long =
    ap (λ m. map at (order_of m)) (mask_before (λ class. not (eqb class stray)) stray refl xs 8)
    ∙ map-append at (bits_set 8 mask) (replicate (16 - length (bits_set 8 mask)) 8)
    ∙ (λ i. values i ++ fillers xs long (16 - length (bits_set 8 mask)) i)
    ∙ ap (λ n. values_among xs ++ replicate (16 - n) stray) (sym (length-map (bits_set 8 mask) at) ∙ ap length values)
  where
    at : ℕ → ℕ
    at j = get_or (xs ++ replicate 8 stray) j 0

    mask : ℕ
    mask = mask_l (map (λ class. not (eqb class stray)) xs)

    values : map at (bits_set 8 mask) ≡ values_among xs
    values = ap (λ n. map at (bits_set n mask)) (sym long) ∙ picked (λ class. not (eqb class stray)) xs (replicate 8 stray)

pub count_group : (xs : List ℕ) → count_ones (mask_l (map (λ class. not (eqb class stray)) (xs ++ replicate 8 stray))) ≡ length (values_among xs)
count_group xs =
    ap count_ones (mask_before (λ class. not (eqb class stray)) stray refl xs 8)
    ∙ ones-mask_l (λ class. not (eqb class stray)) xs
    ∙ sym (length-filter (λ class. not (eqb class stray)) xs)

pub few_bits : (xs : List ℕ) → length xs ≡ 8 → mask_l (map (λ class. not (eqb class stray)) (xs ++ replicate 8 stray)) < 256
few_bits xs long =
    let same : mask_l (map (λ class. not (eqb class stray)) (xs ++ replicate 8 stray)) ≡ mask_l (map (λ class. not (eqb class stray)) xs) = mask_before (λ class. not (eqb class stray)) stray refl xs 8 in
    let bound : mask_l (map (λ class. not (eqb class stray)) xs) < 2 ^ 8 = subst (λ n. mask_l (map (λ class. not (eqb class stray)) xs) < 2 ^ n) (length-map xs (λ class. not (eqb class stray)) ∙ long) (mask_l-lt (map (λ class. not (eqb class stray)) xs)) in
    omega arith

-- ---- the groups

pub eight_of : (xs : List ℕ) → length xs ≡ 32 → (start : ℕ) → start + 8 ≤ 32
    → pick_l 0 (xs ++ replicate 32 stray) (range_with_len start 8 ++ replicate 8 32) ≡ take 8 (drop start xs) ++ replicate 8 stray
eight_of xs long start within =
    map-append (λ k. get_or (xs ++ replicate 32 stray) k 0) (range_with_len start 8) (replicate 8 32)
    ∙ (λ i. here i ++ after 8 i)
  where
    here : pick_l 0 (xs ++ replicate 32 stray) (range_with_len start 8) ≡ take 8 (drop start xs)
    here = pick_l-range_with_len 0 (xs ++ replicate 32 stray) start 8 (omega (arith, length-append xs (replicate 32 stray)))
        ∙ ap (take 8) (drop-append-le start xs (replicate 32 stray) (omega arith))
        ∙ take-append-le 8 (drop start xs) (replicate 32 stray) (omega (arith, length-drop start xs))

    after : (n : ℕ) → map (λ k. get_or (xs ++ replicate 32 stray) k 0) (replicate n 32) ≡ replicate n stray
    after zero = refl
    after (suc n) = λ i. get_or-append_right xs (replicate 32 stray) 32 32 0 long (omega arith) i ∷ after n i

group_at : (f : ℕ → List ℕ) (i : ℕ) → i < 4 → get_or (map f (0 ∷ 1 ∷ 2 ∷ 3 ∷ [])) i [] ≡ f i
group_at f zero small = refl
group_at f (suc zero) small = refl
group_at f (suc (suc zero)) small = refl
group_at f (suc (suc (suc zero))) small = refl
group_at f (suc (suc (suc (suc i)))) small = absurd (omega arith)

-- one of the groups
pub group_of : (xs : List ℕ) (groups : List (List ℕ)) → groups ≡ map (λ eighth. take 8 (drop (eighth * 8) xs) ++ replicate 8 stray) (0 ∷ 1 ∷ 2 ∷ 3 ∷ []) → (i : ℕ) → i < 4
    → get_or groups i [] ≡ take 8 (drop (i * 8) xs) ++ replicate 8 stray
group_of xs groups are i small = ap (λ gs. get_or gs i []) are ∙ group_at (λ eighth. take 8 (drop (eighth * 8) xs) ++ replicate 8 stray) i small

-- ---- group after group

pub few_values : (xs : List ℕ) → length (values_among xs) ≤ length xs
few_values xs = let counted = length-filter (λ class. not (eqb class stray)) xs in omega (arith, count_by-le-length (λ class. not (eqb class stray)) xs)

-- eight more classes
pub eight_more : (xs : List ℕ) (i : ℕ) → values_among (take ((i + 1) * 8) xs) ≡ values_among (take (i * 8) xs) ++ values_among (take 8 (drop (i * 8) xs))
eight_more xs i =
    let e : (i + 1) * 8 ≡ i * 8 + 8 = omega arith in
    ap (λ n. values_among (take n xs)) e
    ∙ ap values_among (take-add (i * 8) 8 xs)
    ∙ filter-append (λ class. not (eqb class stray)) (take (i * 8) xs) (take 8 (drop (i * 8) xs))

-- a group written after the values before it
pub written_after : (before values : List ℕ) (n : ℕ) → n ≡ length before → n ≤ 24 → length values ≤ 8
    → take n (before ++ replicate (40 - n) stray) ++ ((values ++ replicate (16 - length values) stray) ++ drop (n + 16) (before ++ replicate (40 - n) stray)) ≡ (before ++ values) ++ replicate (40 - (n + length values)) stray
written_after before values n is room few =
    let fill = replicate (40 - n) stray in
    let e : (16 - length values) + (40 - n - 16) ≡ 40 - (n + length values) = omega arith in
    (λ i. take (is i) (before ++ fill) ++ ((values ++ replicate (16 - length values) stray) ++ drop (is i + 16) (before ++ fill)))
    ∙ (λ i. take-append_seam before fill i ++ ((values ++ replicate (16 - length values) stray) ++ drop-append-add before fill 16 i))
    ∙ (λ i. before ++ ((values ++ replicate (16 - length values) stray) ++ drop-replicate 16 (40 - n) stray i))
    ∙ ap (λ l. before ++ l) (append_assoc values (replicate (16 - length values) stray) (replicate (40 - n - 16) stray))
    ∙ ap (λ l. before ++ (values ++ l)) (replicate-append-replicate (16 - length values) (40 - n - 16) stray ∙ ap (λ m. replicate m stray) e)
    ∙ sym (append_assoc before values (replicate (40 - (n + length values)) stray))

-- the first 32 lanes
pub lanes_closed : (values : List ℕ) (n : ℕ) → n ≡ length values → n ≤ 32 → take 32 (values ++ replicate (40 - n) stray) ≡ values ++ replicate (32 - length values) stray
lanes_closed values n is room =
    let e : 32 ≡ length values + (32 - length values) = omega arith in
    let left : 40 - n ≡ (32 - length values) + 8 = omega arith in
    (λ i. take (e i) (values ++ replicate (left i) stray))
    ∙ take-append-add values (replicate ((32 - length values) + 8) stray) (32 - length values)
    ∙ ap (λ l. values ++ l) (take-replicate (32 - length values) 8 stray)
  where
    take-replicate : (n m x : ℕ) → take n (replicate (n + m) x) ≡ replicate n x
    take-replicate n m x = ap (take n) (sym (replicate-append-replicate n m x)) ∙ (λ i. take (sym (length-replicate n x) i) (replicate n x ++ replicate m x)) ∙ take-append_seam (replicate n x) (replicate m x)
