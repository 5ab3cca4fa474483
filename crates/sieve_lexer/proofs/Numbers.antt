-- The value of decimal digits grows with each digit.
use Rattle.std.proofs.Common.{◌≡◌, ℕ, ◌+◌, ◌-◌, ◌*◌, ◌<◌, ◌≤◌, ◌^◌, List, [], ◌∷◌, refl, sym, ◌∙◌, ap, arith, length, get_or, take, drop, inl, inr}
use Rattle.std.specs.Prelude.{Option, Some, None, fold}
use Rattle.std.specs.Option.{SomeIff}
use Rattle.std.specs.List.{slice_get}
use Rattle.std.specs.Char.{is_ascii_digit}
use Rattle.std.proofs.Math.Nat.{mul-le-mul_left}
use Rattle.std.proofs.lemmas.Bool.Decides.{nat_tests}
use Rattle.sieve_lexer.specs.Chain.{IsRun}
use Rattle.std.proofs.lemmas.Bool.{le-ltb, lt-ltb, cases_lt}
use Rattle.std.proofs.lemmas.List.{take-append-drop}
use Rattle.std.proofs.lemmas.List.Sums.{fold-append, fold_more, prefix_len_is}
use Rattle.sieve_lexer.specs.Values.{below_limit, decimal_value, number_value, suffix_value, unit_value}

pub fold_grows : (a : ℕ) (xs : List ℕ) → a ≤ fold (λ n d. 10 * n + (d - 48)) a xs
fold_grows a [] = omega arith
fold_grows a (x ∷ xs) = omega (arith, fold_grows (10 * a + (x - 48)) xs)

pub prefix_grows : (i : ℕ) (xs : List ℕ) → decimal_value (take i xs) ≤ decimal_value xs
prefix_grows i xs =
    let whole : decimal_value xs ≡ fold (λ n d. 10 * n + (d - 48)) (decimal_value (take i xs)) (drop i xs) =
    ap decimal_value (sym (take-append-drop i xs)) ∙ fold-append (λ n d. 10 * n + (d - 48)) 0 (take i xs) (drop i xs) in
    omega (arith, whole, fold_grows (decimal_value (take i xs)) (drop i xs))

-- one digit more
pub digit_more : (xs : List ℕ) (i : ℕ) → i < length xs → decimal_value (take (i + 1) xs) ≡ 10 * decimal_value (take i xs) + (get_or xs i 0 - 48)
digit_more xs i lt = fold_more (λ n d. 10 * n + (d - 48)) 0 xs i 0 lt

pub above_limit : (n : ℕ) → 2 ^ 64 ≤ n → below_limit n ≡ None
above_limit n h = rw (le-ltb n (2 ^ 64) h) refl

-- what `checked_mul` answers, where its product is the number
pub limit_from : (r : Option ℕ) (n : ℕ) → SomeIff r (n < 2 ^ 64) n → r ≡ below_limit n
limit_from None n h = sym (above_limit n (omega (arith, h)))
limit_from (Some x) n h = rw (lt-ltb n (2 ^ 64) h.0) (ap Some h.1)

pub limit_some : (n v : ℕ) → Some v ≡ below_limit n → v ≡ n
limit_some n v e = elim (cases_lt n (2 ^ 64)) [
  | inl lt ↦ let here : below_limit n ≡ Some n = rw (lt-ltb n (2 ^ 64) lt) refl in cc
  | inr ge ↦ let none = above_limit n ge in absurd (cc)
]

pub limit_none : (n : ℕ) → None ≡ below_limit n → 2 ^ 64 ≤ n
limit_none n e = elim (cases_lt n (2 ^ 64)) [
  | inl lt ↦ let here : below_limit n ≡ Some n = rw (lt-ltb n (2 ^ 64) lt) refl in absurd (cc)
  | inr ge ↦ ge
]

-- a number is its digits and its suffix
pub number_parts : (text : List ℕ) (d : ℕ) → IsRun is_ascii_digit text 0 d → number_value text ≡ decimal_value (take d text) * suffix_value (drop d text)
number_parts text d run =
    let e = prefix_len_is is_ascii_digit text d 0 run.within (λ k lt. run.all k (omega arith) lt) run.ended in
    ap (λ n. decimal_value (take n text) * suffix_value (drop n text)) e

pub suffix_first : (xs : List ℕ) (o : ℕ) → slice_get xs 0 ≡ Some o → suffix_value xs ≡ unit_value o
suffix_first [] o e = absurd (cc)
suffix_first (x ∷ xs) o e = let same : x ≡ o = cc in ap unit_value same

pub suffix_none : (xs : List ℕ) → slice_get xs 0 ≡ None → suffix_value xs ≡ 1
suffix_none [] e = refl
suffix_none (x ∷ xs) e = absurd (cc)

unit_positive : (o : ℕ) → 1 ≤ unit_value o
unit_positive o = grind (arith, nat_tests)

suffix_positive : (xs : List ℕ) → 1 ≤ suffix_value xs
suffix_positive [] = omega arith
suffix_positive (x ∷ xs) = unit_positive x

-- a suffix brings no number back below the limit
pub suffix_above : (n : ℕ) (xs : List ℕ) → 2 ^ 64 ≤ n → 2 ^ 64 ≤ n * suffix_value xs
suffix_above n xs h = omega (arith, mul-le-mul_left n (suffix_positive xs))

pub limit_here : (n v : ℕ) → v ≡ n → v < 2 ^ 64 → Some v ≡ below_limit n
limit_here n v e lt = rw (lt-ltb n (2 ^ 64) (omega arith)) (ap Some e)
