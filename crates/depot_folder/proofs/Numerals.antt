-- Names of volumes: eight digits and an ending.
use Rattle.std.proofs.Common.{◌≡◌, ◌≢◌, ◌∙◌, ◌+◌, ◌-◌, ◌*◌, ◌^◌, ◌<◌, ◌≤◌, Bool, ℕ, zero, suc, List, [], ◌∷◌, ◌++◌, None, false, append_assoc, append-nil, ap, arith, cond, drop, get_or, length, refl, replicate, subst, sym}
use Rattle.std.specs.Prelude.{codes}
use Rattle.std.specs.Char.{digit_value}
use Rattle.std.specs.Fmt.{char_count, decimal, format_spec, padded_integral, styled_decimal}
use Rattle.std.specs.Str.Pattern.{FindsTextSuffix, StripsSuffix}
use Rattle.std.specs.Str.Parse.{AllDigits, IsNumeral, digits_value, digits_value_after, without_leading_plus}
use Rattle.std.proofs.lemmas.Bool.{ne_eqb}
use Rattle.std.proofs.lemmas.Bool.Decides.{nat_tests}
use Rattle.std.proofs.lemmas.Fmt.{decimal_is_IsNumeral, length-decimal-le}
use Rattle.std.proofs.lemmas.Int.Digits.{digits_value-lt}
use Rattle.std.proofs.lemmas.List.{append_cancel_right, length-append, length-replicate}
use Rattle.depot_folder.specs.Names.{IsOnlyNameOf, IsVolumeName, IsVolumePath}

-- ---- from a number to its name

-- zeros before digits change no value
zeros_first : (k : ℕ) (ds : List ℕ) → AllDigits 10 ds → AllDigits 10 (replicate k 48 ++ ds) × (digits_value 10 (replicate k 48 ++ ds) ≡ digits_value 10 ds)
zeros_first zero ds all = (all, refl)
zeros_first (suc k) ds all = let rest = zeros_first k ds all in ((omega arith, rest.0), rest.1)

-- what `{:08}` writes of a number
pub padded : (number : ℕ) → padded_integral (format_spec 32 0 4 8 (2 ^ 64 - 1)) false [] (decimal number) ≡ replicate (8 - length (decimal number)) 48 ++ decimal number
unfolding padded_integral char_count
padded number =
    let ds = decimal number in
    let short : 8 - length ds - 0 - 0 ≡ 8 - length ds = omega arith in
    ap (λ (k : ℕ). replicate k 48 ++ (ds ++ [])) short ∙ ap (λ (text : List ℕ). replicate (8 - length ds) 48 ++ text) (append-nil ds)

pub named : (number : ℕ) → number < 10 ^ 8 → IsVolumeName number (padded_integral (format_spec 32 0 4 8 (2 ^ 64 - 1)) false [] (decimal number) ++ codes ".depot")
named number small =
    let ds = decimal number in
    let numeral = decimal_is_IsNumeral number (omega (arith, small)) in
    let front : List ℕ = replicate (8 - length ds) 48 in
    let zeros = zeros_first (8 - length ds) ds numeral.0.1 in
    let short : length ds ≤ 8 = length-decimal-le 8 number (omega arith) small (omega (arith, small)) in
    let long : length (front ++ ds) ≡ length front + length ds = length-append front ds in
    let filled : length front ≡ 8 - length ds = length-replicate (8 - length ds) 48 in
    record {
      digits = front ++ ds;
      is = ap (λ (text : List ℕ). text ++ codes ".depot") (padded number);
      eight = omega (arith, long, filled, short);
      decimal = zeros.0;
      writes = zeros.1 ∙ numeral.1;
    }

pub path_named : (folder path : List ℕ) (number : ℕ) (spec : _) → spec ≡ format_spec 32 0 4 8 (2 ^ 64 - 1)
    → path ≡ folder ++ (codes "/" ++ (styled_decimal spec number ++ codes ".depot")) → number < 10 ^ 8 → IsVolumePath folder number path
path_named folder path number spec laid is small =
    let name = padded_integral (format_spec 32 0 4 8 (2 ^ 64 - 1)) false [] (decimal number) ++ codes ".depot" in (
      name,
      named number small,
      is ∙ ap (λ s. folder ++ (codes "/" ++ (styled_decimal s number ++ codes ".depot"))) laid ∙ sym (append_assoc folder (codes "/") name),
    )

-- ---- from a name to its number

-- a digit is what its value says
digit_is : (c d : ℕ) → digit_value c < 10 → digit_value d < 10 → digit_value c ≡ digit_value d → c ≡ d
digit_is c d small few same = grind (arith, nat_tests)

-- as many digits that write the same after two numbers, which are the same then
same_after : (m n : ℕ) (xs ys : List ℕ) → length xs ≡ length ys → AllDigits 10 xs → AllDigits 10 ys → digits_value_after 10 m xs ≡ digits_value_after 10 n ys → (m ≡ n) × (xs ≡ ys)
same_after m n [] [] long all every same = (same, refl)
same_after m n [] (y ∷ ys) long all every same = absurd (omega (arith, long))
same_after m n (x ∷ xs) [] long all every same = absurd (omega (arith, long))
same_after m n (x ∷ xs) (y ∷ ys) long all every same =
    let later = same_after (m * 10 + digit_value x) (n * 10 + digit_value y) xs ys (omega (arith, long)) all.1 every.1 same in
    let first : digit_value x ≡ digit_value y = omega (arith, later.0, all.0, every.0) in (
      omega (arith, later.0, all.0, every.0),
      ap (λ (c : ℕ). c ∷ xs) (digit_is x y all.0 every.0 first) ∙ ap (λ (cs : List ℕ). y ∷ cs) later.1,
    )

-- a number has one name
only_name : (number : ℕ) (name other : List ℕ) → IsVolumeName number name → IsVolumeName number other → other ≡ name
only_name number name other one another =
    let same = (same_after 0 0 another.digits one.digits (another.eight ∙ sym one.eight) another.decimal one.decimal (another.writes ∙ sym one.writes)).1 in
    another.is ∙ ap (λ (ds : List ℕ). ds ++ codes ".depot") same ∙ sym one.is

-- what is left where the ending was taken away, and what isn't where there was none
pub ending_off : (name digits : List ℕ) → StripsSuffix (FindsTextSuffix (codes ".depot")) name digits → name ≡ digits ++ codes ".depot"
ending_off name digits strips = strips.1.1 ∙ ap (λ (front : List ℕ). front ++ codes ".depot") (sym strips.2)

pub no_ending : (name : List ℕ) → FindsTextSuffix (codes ".depot") name None → (number : ℕ) → IsVolumeName number name → ⊥
no_ending name none number v = none v.digits v.is

-- of a name whose ending was taken away, these are the digits
module _ (name digits : List ℕ) (is : name ≡ digits ++ codes ".depot") where
  has_digits : (number : ℕ) (v : IsVolumeName number name) → v.digits ≡ digits
  has_digits number v = append_cancel_right v.digits digits (codes ".depot") (sym v.is ∙ is)

  pub not_eight : (length digits ≢ 8) → (number : ℕ) → IsVolumeName number name → ⊥
  not_eight other number v = other (ap length (sym (has_digits number v)) ∙ v.eight)

  pub not_signed : get_or digits 0 0 ≡ 43 → (number : ℕ) → IsVolumeName number name → ⊥
  not_signed plus number v = go v.digits v.eight v.decimal (ap (λ (ds : List ℕ). get_or ds 0 0) (has_digits number v) ∙ plus)
    where
      go : (ds : List ℕ) → length ds ≡ 8 → AllDigits 10 ds → get_or ds 0 0 ≡ 43 → ⊥
      go [] eight all first = absurd (omega (arith, eight))
      go (c ∷ cs) eight all first = let small : digit_value 43 < 10 = subst (λ (x : ℕ). digit_value x < 10) first all.0 in omega (arith, small)

  pub unread : (without_leading_plus digits ≡ digits)
      → (IsNumeral 10 (without_leading_plus digits) × (digits_value 10 (without_leading_plus digits) < 2 ^ 32) → ⊥) → (number : ℕ) → IsVolumeName number name → ⊥
  unread bare refused number v =
      let same = has_digits number v in
      let all : AllDigits 10 digits = subst (AllDigits 10) same v.decimal in
      let eight : length digits ≡ 8 = ap length (sym same) ∙ v.eight in
      let below : digits_value 10 digits < 10 ^ length digits = digits_value-lt 10 digits all in
      let small : digits_value 10 digits < 10 ^ 8 = subst (λ (k : ℕ). digits_value 10 digits < 10 ^ k) eight below in
      refused (subst (λ (ds : List ℕ). IsNumeral 10 ds × (digits_value 10 ds < 2 ^ 32)) (sym bare) ((omega (arith, eight), all), omega (arith, small)))

  pub read : (without_leading_plus digits ≡ digits) → length digits ≡ 8 → (number : ℕ)
      → IsNumeral 10 (without_leading_plus digits) → number ≡ digits_value 10 (without_leading_plus digits) → IsOnlyNameOf number name
  read bare eight number numeral value =
      let it : IsVolumeName number name = record {
        digits = digits;
        is = is;
        eight = eight;
        decimal = subst (AllDigits 10) bare numeral.1;
        writes = sym (value ∙ ap (digits_value 10) bare);
      } in
      (it, λ other named. only_name number name other it named)

-- where no plus stands first
pub bare : (digits : List ℕ) → get_or digits 0 0 ≢ 43 → without_leading_plus digits ≡ digits
bare digits other = ap (λ (b : Bool). drop (cond b 1 0) digits) (ne_eqb (get_or digits 0 0) 43 other)
