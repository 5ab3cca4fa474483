-- Numbers, one digit at a time.
use Rattle.std.proofs.Common.{◌≡◌, ℕ, ◌+◌, ◌-◌, ◌*◌, ◌^◌, ◌<◌, ◌≤◌, ◌&&◌, nat_lt, Bool, true, false, if◌then◌else◌, List, [], ◌∷◌, Some, None, refl, ap, ◌∙◌, arith}
use Rattle.std.specs.Str.{all_ascii_digits}
use Rattle.std.specs.Char.{is_ascii_digit}
use Rattle.std.proofs.lemmas.Bool.{le-ltb, lt-ltb, ltb-false}
use Rattle.bytecode_listing.specs.Items.{value_from}
use Rattle.bytecode_listing.specs.Readers.{one_more, decimal_on}

value_grows : (n : ℕ) (digits : List ℕ) → n ≤ value_from n digits
value_grows n [] = omega arith
value_grows n (d ∷ digits) = omega (arith, value_grows (10 * n + (d - 48)) digits)

pub digit_stops : (value digit : ℕ) (text rest : List ℕ) → text ≡ digit ∷ rest → one_more value digit ≡ None → decimal_on value text ≡ None
digit_stops value digit text rest t e =
    ap (decimal_on value) t ∙ by_class (is_ascii_digit digit) (nat_lt (10 * value + (digit - 48)) (2 ^ 64)) refl e
  where
    by_class : (a b : Bool) → nat_lt (10 * value + (digit - 48)) (2 ^ 64) ≡ b → (if a && b then Some (10 * value + (digit - 48)) else None) ≡ None
        → (if (a && all_ascii_digits rest) && nat_lt (value_from (10 * value + (digit - 48)) rest) (2 ^ 64) then Some (value_from (10 * value + (digit - 48)) rest) else None) ≡ None
    by_class true true f e = absurd cc
    by_class true false f e =
        let large : nat_lt (value_from (10 * value + (digit - 48)) rest) (2 ^ 64) ≡ false = le-ltb _ _ (omega (arith, value_grows (10 * value + (digit - 48)) rest, ltb-false _ _ f)) in
        rw large (none (all_ascii_digits rest))
      where
        none : (d : Bool) → (if d && false then Some (value_from (10 * value + (digit - 48)) rest) else None) ≡ None
        none true = refl
        none false = refl
    by_class false b f e = refl

pub no_digit_left : (value : ℕ) → value < 2 ^ 64 → decimal_on value [] ≡ Some value
no_digit_left value small = ap (λ b. if b then Some value else None) (lt-ltb value (2 ^ 64) small)
