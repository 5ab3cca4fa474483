-- Texts without a line that begins with `= `.
use Rattle.std.proofs.Common.{◌≡◌, ◌∙◌, refl, sym, ap, cond, Bool, true, false, not, ◌&&◌, ◌||◌, ◌++◌, append_assoc, arith, ℕ, ◌+◌, zero, suc, ltb-true, ne_eqb, List, [], ◌∷◌, true≢false}
use Rattle.std.specs.Prelude.{◌==◌, ◌/◌, ◌%◌, nat_le, nat_lt}
use Rattle.std.specs.List.{flat_map, list_all}
use Rattle.std.specs.Fmt.{decimal, digit_glyph, digits, digits_onto}
use Rattle.printing.specs.Printed.{escaped, escaped_octet, is_plain, quoted}
use Rattle.printing.specs.declared.piece.Setting.TheVariants.{Quotes}
use Rattle.depot_actions.specs.PlainMedia.{is_one_line}
use Rattle.depot_batch.specs.Closings.{begins_closing, has_closing}

pub both : (a b : Bool) → (a && b) ≡ true → (a ≡ true) × (b ≡ true)
both true b e = (refl, e)
both false b e = absurd (true≢false (sym e))

-- ---- texts of one line

pub one_line_both : (a b : List ℕ) → is_one_line a ≡ true → is_one_line b ≡ true → is_one_line (a ++ b) ≡ true
one_line_both [] b first second = second
one_line_both (x ∷ xs) b first second =
    let here : not (x == 10) ≡ true = (both (not (x == 10)) (is_one_line xs) first).0 in
    rw here (one_line_both xs b (both (not (x == 10)) (is_one_line xs) first).1 second)

pub other : (x y : ℕ) → (x ≡ y → ⊥) → not (x == y) ≡ true
other x y differ = rw (ne_eqb x y differ) refl

-- a digit is no line break, and no sign of equality
abbrev is_fine : ℕ → Bool
is_fine octet = not (octet == 10) && not (octet == 61)

glyph_fine : (d : ℕ) → is_fine (digit_glyph false d) ≡ true
glyph_fine d = go (nat_lt d 10) refl
  where
    go : (b : Bool) → nat_lt d 10 ≡ b → is_fine (cond b (48 + d) (87 + d)) ≡ true
    go true is =
        let small = ltb-true d 10 is in
        rw (other (48 + d) 10 (λ e. omega (arith, e)), other (48 + d) 61 (λ e. omega (arith, e, small))) refl
    go false is = rw (other (87 + d) 10 (λ e. omega (arith, e)), other (87 + d) 61 (λ e. omega (arith, e))) refl

pub fine_one_line : (text : List ℕ) → list_all is_fine text ≡ true → is_one_line text ≡ true
fine_one_line [] e = refl
fine_one_line (x ∷ xs) e =
    let parts = both (is_fine x) (list_all is_fine xs) e in
    let here : not (x == 10) ≡ true = (both (not (x == 10)) (not (x == 61)) parts.0).0 in
    rw here (fine_one_line xs parts.1)

-- the first octet, where there is one, is no sign of equality
abbrev pub begins_otherwise : List ℕ → Bool
begins_otherwise [] = false
begins_otherwise (x ∷ rest) = not (x == 61)

digits_fine : (k n : ℕ) (acc : List ℕ) → list_all is_fine acc ≡ true → list_all is_fine (digits_onto k 10 false n acc) ≡ true
digits_fine zero n acc e = e
digits_fine (suc k) n acc e = go (digits_fine k (n / 10) (digit_glyph false (n % 10) ∷ acc)) (n / 10 == 0)
  where
    more : list_all is_fine (digit_glyph false (n % 10) ∷ acc) ≡ true
    more = rw (glyph_fine (n % 10)) e

    go : (list_all is_fine (digit_glyph false (n % 10) ∷ acc) ≡ true → list_all is_fine (digits_onto k 10 false (n / 10) (digit_glyph false (n % 10) ∷ acc)) ≡ true)
        → (b : Bool) → list_all is_fine (cond b (digit_glyph false (n % 10) ∷ acc) (digits_onto k 10 false (n / 10) (digit_glyph false (n % 10) ∷ acc))) ≡ true
    go later true = more
    go later false = later more

is_some_text : List ℕ → Bool
is_some_text [] = false
is_some_text (x ∷ xs) = true

digits_some : (k n : ℕ) (acc : List ℕ) → is_some_text acc ≡ true → is_some_text (digits_onto k 10 false n acc) ≡ true
unfolding is_some_text
digits_some zero n acc e = e
digits_some (suc k) n acc e = go (digits_some k (n / 10) (digit_glyph false (n % 10) ∷ acc) refl) (n / 10 == 0)
  where
    go : is_some_text (digits_onto k 10 false (n / 10) (digit_glyph false (n % 10) ∷ acc)) ≡ true
        → (b : Bool) → is_some_text (cond b (digit_glyph false (n % 10) ∷ acc) (digits_onto k 10 false (n / 10) (digit_glyph false (n % 10) ∷ acc))) ≡ true
    go later true = refl
    go later false = later

decimal_some : (n : ℕ) → is_some_text (decimal n) ≡ true
unfolding is_some_text digits
decimal_some n = go (n / 10 == 0) (digits_some 63 (n / 10) (digit_glyph false (n % 10) ∷ []) refl)
  where
    go : (b : Bool) → is_some_text (digits_onto 63 10 false (n / 10) (digit_glyph false (n % 10) ∷ [])) ≡ true
        → is_some_text (cond b (digit_glyph false (n % 10) ∷ []) (digits_onto 63 10 false (n / 10) (digit_glyph false (n % 10) ∷ []))) ≡ true
    go true later = refl
    go false later = later

decimal_fine : (n : ℕ) → list_all is_fine (decimal n) ≡ true
unfolding digits
decimal_fine n = digits_fine 64 n [] refl

fine_begins : (text : List ℕ) → is_some_text text ≡ true → list_all is_fine text ≡ true → begins_otherwise text ≡ true
unfolding is_some_text
fine_begins [] some fine = absurd (true≢false (sym some))
fine_begins (x ∷ xs) some fine = (both (not (x == 10)) _ (both _ _ fine).0).1

pub decimal_one_line : (n : ℕ) → is_one_line (decimal n) ≡ true
decimal_one_line n = fine_one_line (decimal n) (decimal_fine n)

pub decimal_begins : (n : ℕ) → begins_otherwise (decimal n) ≡ true
decimal_begins n = fine_begins (decimal n) (decimal_some n) (decimal_fine n)

octet_one_line : (octet : ℕ) → is_one_line (escaped_octet Quotes octet) ≡ true
octet_one_line octet = go (is_plain Quotes octet) refl
  where
    low : (b : Bool) → b ≡ true → is_plain Quotes octet ≡ b → not (octet == 10) ≡ true
    low b t is =
        let at_least = (both _ _ (both _ _ (is ∙ t)).0).0 in
        other octet 10 (λ e. true≢false (sym at_least ∙ ap (λ o. nat_le 32 o) e))

    go : (b : Bool) → is_plain Quotes octet ≡ b
        → is_one_line (cond b (octet ∷ []) (92 ∷ digit_glyph false (octet / 16) ∷ digit_glyph false (octet % 16) ∷ [])) ≡ true
    go true is = rw (low true refl is) refl
    go false is =
        let high : not (digit_glyph false (octet / 16) == 10) ≡ true = (both (not (digit_glyph false (octet / 16) == 10)) _ (glyph_fine (octet / 16))).0 in
        let low_digit : not (digit_glyph false (octet % 16) == 10) ≡ true = (both (not (digit_glyph false (octet % 16) == 10)) _ (glyph_fine (octet % 16))).0 in
        rw (high, low_digit) refl

escaped_one_line : (octets : List ℕ) → is_one_line (escaped Quotes octets) ≡ true
escaped_one_line [] = refl
escaped_one_line (x ∷ xs) = one_line_both (escaped_octet Quotes x) (escaped Quotes xs) (octet_one_line x) (escaped_one_line xs)

pub quoted_one_line : (octets : List ℕ) → is_one_line (quoted octets) ≡ true
quoted_one_line octets = one_line_both (34 ∷ escaped Quotes octets) (34 ∷ []) (escaped_one_line octets) refl

-- ---- lines

within : (text more : List ℕ) → is_one_line text ≡ true → has_closing false (text ++ 10 ∷ more) ≡ has_closing true more
within [] more one = refl
within (x ∷ xs) more one =
    let parts = both _ _ one in
    ap (λ b. has_closing b (xs ++ 10 ∷ more)) (is_false (x == 10) parts.0) ∙ within xs more parts.1
  where
    is_false : (b : Bool) → not b ≡ true → b ≡ false
    is_false true e = absurd (true≢false (sym e))
    is_false false e = refl

begins : (x : ℕ) (rest : List ℕ) → not (x == 61) ≡ true → begins_closing (x ∷ rest) ≡ false
begins x [] e = refl
begins x (y ∷ rest) e = go (x == 61) e
  where
    go : (b : Bool) → not b ≡ true → (b && y == 32) ≡ false
    go true e = absurd (true≢false (sym e))
    go false e = refl

-- a line that begins otherwise doesn't matter
pub line_passes : (text more : List ℕ) → begins_otherwise text ≡ true → is_one_line text ≡ true → has_closing true (text ++ 10 ∷ more) ≡ has_closing true more
line_passes [] more other one = absurd (true≢false (sym other))
line_passes (x ∷ xs) more other one =
    ap (λ b. b || has_closing (x == 10) (xs ++ 10 ∷ more)) (begins x (xs ++ 10 ∷ more) other)
    ∙ within (x ∷ xs) more one

-- nor do lines that all do
pub lines_pass : {A : Type 0} (f : A → List ℕ) (xs : List A) (fit : A → Bool) → list_all fit xs ≡ true
    → ((x : A) → fit x ≡ true → begins_otherwise (f x) ≡ true) → ((x : A) → fit x ≡ true → is_one_line (f x) ≡ true)
    → has_closing true (flat_map (λ x. f x ++ 10 ∷ []) xs) ≡ false
lines_pass f [] fit all starts one = refl
lines_pass f (x ∷ xs) fit all starts one =
    let parts = both _ _ all in
    let text = flat_map (λ y. f y ++ 10 ∷ []) xs in
    ap (has_closing true) (append_assoc (f x) (10 ∷ []) text) ∙ line_passes (f x) text (starts x parts.0) (one x parts.0) ∙ lines_pass f xs fit parts.1 starts one

-- so the text of one line has none
pub line_alone : (text : List ℕ) → begins_otherwise text ≡ true → is_one_line text ≡ true → has_closing true (text ++ 10 ∷ []) ≡ false
line_alone text starts one = line_passes text [] starts one
