-- The numbers of captures, which stop at the one after the last.
use Rattle.std.proofs.Common.{◌≡◌, ℕ, suc, ◌+◌, ◌*◌, ◌-◌, ◌<◌, ◌≤◌, true, List, [], ◌∷◌, length, drop, get_or, min, refl, sym, ap, ◌∙◌, add-one, drop-cons, arith}
use Rattle.std.specs.List.{list_all}
use Rattle.std.specs.Char.{is_ascii_digit}
use Rattle.sieve_references.specs.References.{value_after}

-- numbers that are the same up to a bound stay so with more digits
pub same_after : (m n : ℕ) (digits : List ℕ) → min 10 m ≡ min 10 n → min 10 (value_after m digits) ≡ min 10 (value_after n digits)
same_after m n [] e = e
same_after m n (digit ∷ digits) e =
    let e : min 10 (m * 10 + (digit - 48)) ≡ min 10 (n * 10 + (digit - 48)) = omega arith in
    same_after (m * 10 + (digit - 48)) (n * 10 + (digit - 48)) digits e

-- what is left to read of a number, one digit further
abbrev pub IsReading : List ℕ → ℕ → List ℕ → Type 0
IsReading word value left =
    (value ≤ 10)
    × (list_all is_ascii_digit left ≡ list_all is_ascii_digit word)
    × (min 10 (value_after value left) ≡ min 10 (value_after 0 word))

reading_more : (word : List ℕ) (value x : ℕ) (left more : List ℕ) → left ≡ x ∷ more → is_ascii_digit x ≡ true → IsReading word value left → IsReading word (min (value * 10 + (x - 48)) 10) more
reading_more word value x left more e digit reading =
    let here : list_all is_ascii_digit left ≡ list_all is_ascii_digit more = ap (list_all is_ascii_digit) e ∙ rw digit refl in
    let step : min 10 (value_after value left) ≡ min 10 (value_after (value * 10 + (x - 48)) more) = ap (λ l. min 10 (value_after value l)) e in
    let bounded : min 10 (min (value * 10 + (x - 48)) 10) ≡ min 10 (value * 10 + (x - 48)) = omega arith in
    let small : min (value * 10 + (x - 48)) 10 ≤ 10 = omega arith in
    (small, sym here ∙ reading.1, same_after (min (value * 10 + (x - 48)) 10) (value * 10 + (x - 48)) more bounded ∙ sym step ∙ reading.2)

pub reading_at : (word : List ℕ) (value next i : ℕ) → i < length word → is_ascii_digit (get_or word i 0) ≡ true → next ≡ min (value * 10 + (get_or word i 0 - 48)) 10
    → IsReading word value (drop i word) → IsReading word next (drop (i + 1) word)
reading_at word value next i within digit is reading =
    rw (is, add-one) (reading_more word value (get_or word i 0) (drop i word) (drop (suc i) word) (drop-cons word i 0 within) digit reading)
