-- Vector operations, lane by lane.
use Rattle.std.proofs.Common.{◌≡◌, ℕ, zero, suc, ◌+◌, ◌*◌, ◌/◌, ◌%◌, ◌^◌, ◌<◌, ◌≤◌, ◌≢◌, Bool, true, false, cond, not, ◌||◌, eqb, leb, ltb, List, [], ◌∷◌, length, take, drop, get_or, map, replicate, inl, inr, refl, sym, ap, ◌∙◌, arith, w8, Fits, eq-eqb}
use Rattle.std.specs.Simd.Lanes.{Each1, zip2, sel_l, mask_l, top}
use Rattle.std.specs.Int.Count.{count_trailing_zeros}
use Rattle.std.specs.List.{list_any, position_or_len}
use Rattle.std.proofs.lemmas.Simd.{tops_compared, bitmask_splat, first_set_mask_l, map-map, below_from_Fits, swz_l, SwzOk, SwzOk-from_below, length-swz_l, get_or-swz_l_below, Each1-get_or}
use Rattle.std.proofs.lemmas.Bool.{cases_lt, false≢true, ne_eqb}
use Rattle.std.proofs.lemmas.List.{ext_get_or, get_or-drop, get_or-take, get_or-map, length-map}
use Rattle.std.proofs.Math.Dec.{eqb-suc-zero}
use Rattle.octet_lanes.specs.Encoding.{stray, values_among}
use Rattle.octet_lanes.specs.Lanes.{if_equal, if_from}
use Rattle.octet_lanes.specs.Private.{if_below}

kept : (n m : ℕ) (xs ys : List ℕ) → length xs ≡ m → length ys ≡ m → sel_l (zip2 ltb xs (replicate m n)) ys (replicate m 0) ≡ zip2 (if_below n) xs ys
kept n zero [] ys p q = refl
kept n zero (x ∷ xs) ys p q = absurd (omega arith)
kept n (suc m) [] ys p q = absurd (omega arith)
kept n (suc m) (x ∷ xs) [] p q = absurd (omega arith)
kept n (suc m) (x ∷ xs) (y ∷ ys) p q = ap (λ l. cond (ltb x n) y 0 ∷ l) (kept n m xs ys (omega arith) (omega arith))

-- numbers, chosen over 0 where a lane is below n
pub kept_below : (n m : ℕ) (xs ys : List ℕ) → length xs ≡ m → length ys ≡ m
    → sel_l (map (top 7) (zip2 (λ a b. cond (ltb a b) 255 0) xs (replicate m n))) ys (replicate m 0) ≡ zip2 (if_below n) xs ys
kept_below n m xs ys p q = ap (λ l. sel_l l ys (replicate m 0)) (tops_compared w8 ltb xs (replicate m n)) ∙ kept n m xs ys p q

chosen : (n y m : ℕ) (xs : List ℕ) → length xs ≡ m → sel_l (zip2 leb (replicate m n) xs) (replicate m y) (replicate m 0) ≡ map (if_from n y) xs
chosen n y zero [] p = refl
chosen n y zero (x ∷ xs) p = absurd (omega arith)
chosen n y (suc m) [] p = absurd (omega arith)
chosen n y (suc m) (x ∷ xs) p = ap (λ l. cond (leb n x) y 0 ∷ l) (chosen n y m xs (omega arith))

-- a number, chosen over 0 where a lane is n or more
pub chosen_from : (n y m : ℕ) (xs : List ℕ) → length xs ≡ m
    → sel_l (map (top 7) (zip2 (λ a b. cond (leb a b) 255 0) (replicate m n) xs)) (replicate m y) (replicate m 0) ≡ map (if_from n y) xs
chosen_from n y m xs p = ap (λ l. sel_l l (replicate m y) (replicate m 0)) (tops_compared w8 leb (replicate m n) xs) ∙ chosen n y m xs p

is_equal : (n y m : ℕ) (xs : List ℕ) → length xs ≡ m → sel_l (zip2 eqb xs (replicate m n)) (replicate m y) (replicate m 0) ≡ map (if_equal n y) xs
is_equal n y zero [] p = refl
is_equal n y zero (x ∷ xs) p = absurd (omega arith)
is_equal n y (suc m) [] p = absurd (omega arith)
is_equal n y (suc m) (x ∷ xs) p = ap (λ l. cond (eqb x n) y 0 ∷ l) (is_equal n y m xs (omega arith))

-- a number, chosen over 0 where a lane is n
pub chosen_equal : (n y m : ℕ) (xs : List ℕ) → length xs ≡ m
    → sel_l (map (top 7) (zip2 (λ a b. cond (eqb a b) 255 0) xs (replicate m n))) (replicate m y) (replicate m 0) ≡ map (if_equal n y) xs
chosen_equal n y m xs p = ap (λ l. sel_l l (replicate m y) (replicate m 0)) (tops_compared w8 eqb xs (replicate m n)) ∙ is_equal n y m xs p

-- ---- a table of 16 that stands twice

same_half : (table : List ℕ) (i j : ℕ) → take 16 table ≡ drop 16 table → i < 32 → j < 16 → get_or table (16 * ((0 + i) / 16) + j) 0 ≡ get_or table j 0
same_half table i j twice h l =
    elim (cases_lt i 16) [
      | inl a ↦ let e : 16 * ((0 + i) / 16) + j ≡ j = omega arith in ap (λ k. get_or table k 0) e
      | inr b ↦
          let e : 16 * ((0 + i) / 16) + j ≡ 16 + j = omega arith in
          ap (λ k. get_or table k 0) e ∙ sym (get_or-drop 16 table j 0) ∙ ap (λ t. get_or t j 0) (sym twice) ∙ get_or-take 16 table j 0 l
    ]

pub places_ok : (places : List ℕ) → length places ≡ 32 → Each1 (λ place. place < 16) places → SwzOk w8 16 32 0 places
places_ok places long small = SwzOk-from_below w8 16 2 32 0 places refl (omega arith) small

pub looked_up : (table places : List ℕ) → length places ≡ 32 → take 16 table ≡ drop 16 table → Each1 (λ place. place < 16) places → swz_l w8 16 table 0 places ≡ map (λ place. get_or table place 0) places
looked_up table places long twice small =
    ext_get_or 0 _ _ (length-swz_l w8 16 table 0 places ∙ sym (length-map places (λ place. get_or table place 0))) (λ i h.
    let within : i < length places = omega (arith, length-swz_l w8 16 table 0 places) in
    let below : get_or places i 0 < 16 = Each1-get_or (λ place. place < 16) places i 0 within small in
    get_or-swz_l_below w8 16 table 0 places i within below
    ∙ same_half table i (get_or places i 0) twice (omega arith) below
    ∙ sym (get_or-map (λ place. get_or table place 0) places i 0 0 within))

-- one operation on a vector, and then another
pub then : (g f : ℕ → ℕ) (xs : List ℕ) {ys zs : List ℕ} → ys ≡ map f xs → zs ≡ map g ys → zs ≡ map (λ x. g (f x)) xs
then g f xs p q = q ∙ ap (map g) p ∙ map-map g f xs

-- the octets of a vector
pub octets_in : (xs : List ℕ) → Each1 (Fits w8) xs → Each1 (λ x. x < 256) xs
octets_in = below_from_Fits w8

not_zero : (n : ℕ) → 0 < n → not (eqb n 0) ≡ true
not_zero zero h = absurd (omega arith)
not_zero (suc n) h = ap not (eqb-suc-zero n)

-- no bit is set where no lane passes
any_from_mask : (p : ℕ → Bool) (xs : List ℕ) → not (eqb (mask_l (map p xs)) 0) ≡ list_any p xs
any_from_mask p [] = refl
any_from_mask p (x ∷ xs) = go (p x) (mask_l (map p xs)) ∙ ap (λ b. p x || b) (any_from_mask p xs)
  where
    go : (b : Bool) (m : ℕ) → not (eqb (cond b 1 0 + 2 * m) 0) ≡ (b || not (eqb m 0))
    go true m = not_zero (1 + 2 * m) (omega arith)
    go false zero = refl
    go false (suc m) = not_zero (0 + 2 * suc m) (omega arith) ∙ sym (not_zero (suc m) (omega arith))

-- whether a lane is x
pub any_equal : (xs : List ℕ) (n x : ℕ) → length xs ≡ n → n ≤ 64
    → not (eqb (mask_l (map (top 7) (zip2 (λ a b. cond (eqb a b) 255 0) xs (replicate n x))) % 2 ^ 64) 0) ≡ list_any (λ y. eqb y x) xs
any_equal xs n x long few = ap (λ m. not (eqb m 0)) (bitmask_splat w8 eqb xs n x long few) ∙ any_from_mask (λ y. eqb y x) xs

-- without stray characters all classes are values
pub all_values : (xs : List ℕ) → list_any (λ y. eqb y stray) xs ≡ false → values_among xs ≡ xs
all_values [] h = refl
all_values (x ∷ xs) h = go (eqb x stray) refl (all_values xs)
  where
    go : (b : Bool) → eqb x stray ≡ b → (list_any (λ y. eqb y stray) xs ≡ false → values_among xs ≡ xs) → values_among (x ∷ xs) ≡ x ∷ xs
    go true e rest = absurd (false≢true (sym h ∙ ap (λ b. b || list_any (λ y. eqb y stray) xs) e))
    go false e rest = ap (λ b. cond (not b) (x ∷ values_among xs) (values_among xs)) e
        ∙ ap (λ l. x ∷ l) (rest (sym (ap (λ b. b || list_any (λ y. eqb y stray) xs) e) ∙ h))

-- the mask of the lanes that are x
abbrev mask_of : List ℕ → ℕ → ℕ → ℕ
mask_of xs n x = mask_l (map (top 7) (zip2 (λ a b. cond (eqb a b) 255 0) xs (replicate n x))) % 2 ^ 64

-- how many lanes come before the first that is x
first_equal : (xs : List ℕ) (n x : ℕ) → length xs ≡ n → n ≤ 64 → cond (eqb (mask_of xs n x) 0) n (count_trailing_zeros 64 (mask_of xs n x)) ≡ position_or_len (λ y. eqb y x) xs
first_equal xs n x long few =
    ap (λ m. cond (eqb m 0) n (count_trailing_zeros 64 m)) (bitmask_splat w8 eqb xs n x long few) ∙ first_set_mask_l (λ y. eqb y x) xs n long few

pub none_equal : (xs : List ℕ) (n x : ℕ) → length xs ≡ n → n ≤ 64 → mask_of xs n x ≡ 0 → n ≡ position_or_len (λ y. eqb y x) xs
none_equal xs n x long few e = ap (λ b. cond b n (count_trailing_zeros 64 (mask_of xs n x))) (sym (eq-eqb _ _ e)) ∙ first_equal xs n x long few

pub some_equal : (xs : List ℕ) (n x : ℕ) → length xs ≡ n → n ≤ 64 → mask_of xs n x ≢ 0 → count_trailing_zeros 64 (mask_of xs n x) ≡ position_or_len (λ y. eqb y x) xs
some_equal xs n x long few e = ap (λ b. cond b n (count_trailing_zeros 64 (mask_of xs n x))) (sym (ne_eqb _ _ e)) ∙ first_equal xs n x long few
