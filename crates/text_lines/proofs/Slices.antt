-- Stretches of a text, by their places.
use Rattle.std.proofs.Common.{◌≡◌, ℕ, ◌+◌, ◌-◌, ◌<◌, ◌≤◌, List, [], ◌∷◌, ◌++◌, zero, suc, refl, ◌∙◌, arith, length, take, drop, get_or, zero-add}
use Rattle.std.specs.List.{slice_range}
use Rattle.std.proofs.lemmas.List.{drop-drop, drop-take, length-take, length-drop, get_or-take, get_or-drop}
use Rattle.std.proofs.Math.Seq.{drop-cons}

-- one octet, or two, from a place on
pub one_at : (text : List ℕ) (n : ℕ) → n < length text → take 1 (drop n text) ≡ get_or text n 0 ∷ []
one_at text n lt = rw (drop-cons text n 0) refl

pub two_at : (text : List ℕ) (n : ℕ) → suc n < length text → take 2 (drop n text) ≡ get_or text n 0 ∷ get_or text (suc n) 0 ∷ []
two_at text n lt =
    let here : n < length text = omega arith in
    rw (drop-cons text n 0, drop-cons text (suc n) 0) refl

-- stretches one after another
take_none : {A : Type 0} (n : ℕ) → take {A = A} n [] ≡ []
take_none zero = refl
take_none (suc n) = refl

pub take_join : {A : Type 0} (n m : ℕ) (xs : List A) → take n xs ++ take m (drop n xs) ≡ take (n + m) xs
take_join zero m xs = rw zero-add refl
take_join (suc n) m [] = rw (take_none m, take_none (suc n + m)) refl
take_join (suc n) m (x ∷ xs) = let e : suc n + m ≡ suc (n + m) = omega arith in rw (e, take_join n m xs) refl

pub slice_join : {A : Type 0} (xs : List A) (a b c : ℕ) → a ≤ b → b ≤ c → slice_range xs a b ++ slice_range xs b c ≡ slice_range xs a c
slice_join xs a b c low high =
    let from : a + (b - a) ≡ b = omega arith in
    let whole : b - a + (c - b) ≡ c - a = omega arith in
    let at : drop (b - a) (drop a xs) ≡ drop b xs = rw (drop-drop, from) refl in
    rw (← at, take_join (b - a) (c - b) (drop a xs), whole) refl

-- the length, the octets and the end of a stretch
pub length-slice : {A : Type 0} (xs : List A) (a b : ℕ) → a ≤ b → b ≤ length xs → length (slice_range xs a b) ≡ b - a
length-slice xs a b low high = simp (length-take, length-drop) (omega arith)

pub get_or-slice : (xs : List ℕ) (a b k : ℕ) → k < b - a → get_or (slice_range xs a b) k 0 ≡ get_or xs (a + k) 0
get_or-slice xs a b k lt = get_or-take (b - a) (drop a xs) k 0 lt ∙ get_or-drop a xs k 0

pub drop-slice : {A : Type 0} (xs : List A) (a b n : ℕ) → n ≤ b - a → drop n (slice_range xs a b) ≡ slice_range xs (a + n) b
drop-slice xs a b n within =
    let more : b - a ≡ n + (b - (a + n)) = omega arith in
    rw (more, drop-take) (rw drop-drop refl)
