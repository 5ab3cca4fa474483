-- Modifiers, octet by octet, and their numbers.
use Rattle.std.proofs.Common.{◌≡◌, ℕ, zero, suc, ◌+◌, ◌*◌, ◌/◌, ◌%◌, ◌<◌, ◌≤◌, ◌==◌, nat_lt, ◌&&◌, lit≤, lt-ltb, ltb-true, eqb-true, sum_by, Bool, true, false, cond, if◌then◌else◌, List, [], ◌∷◌, ◌++◌, length, map, Option, Some, None, refl, sym, ◌∙◌, append_assoc, take, arith}
use Rattle.std.proofs.Math.Dec.{eqb-suc-zero}
use Rattle.std.proofs.lemmas.Grind.{common_steps, flat_map-append}
use Rattle.std.proofs.lemmas.List.{append-nil, take-map}
use Rattle.std.proofs.lemmas.List.Concat.{flat_map-cons}
use Rattle.std.proofs.lemmas.List.Sums.{sum_by-append, sum_by-cons}
use Rattle.std.specs.Char.{to_ascii_uppercase, to_ascii_lowercase}
use Rattle.bytecode_format.specs.declared.modifiers.Case.{Case}
use Rattle.bytecode_format.specs.declared.modifiers.Case.TheVariants.{Lower, Upper}
use Rattle.bytecode_format.specs.declared.modifiers.Modifiers.{Modifiers}
use Rattle.bytecode_format.specs.Modifiers.{cased, first_cased, is_quotable, quoted_octet, quoted, continues_character, characters, flag, case_number, case_numbered, modifiers_number, modifiers_numbered}

-- the text modified but for its count
abbrev pub spelled : Modifiers → List ℕ → List ℕ
spelled m text = quoted m.quote_wildcard (first_cased m.first (cased m.letters text))

-- the modifiers with backslashes
abbrev pub with_quotes : Modifiers → Modifiers
with_quotes m = record m { quote_wildcard = true }

take-cased : (case : Option Case) (n : ℕ) (xs : List ℕ) → take n (cased case xs) ≡ cased case (take n xs)
take-cased None n xs = refl
take-cased (Some Lower) n xs = take-map to_ascii_lowercase n xs
take-cased (Some Upper) n xs = take-map to_ascii_uppercase n xs

cased-nil : (case : Option Case) → cased case [] ≡ []
cased-nil None = refl
cased-nil (Some Lower) = refl
cased-nil (Some Upper) = refl

cased-one : (case : Option Case) (x : ℕ) → (y : ℕ) × (cased case (x ∷ []) ≡ y ∷ [])
cased-one None x = (x, refl)
cased-one (Some Lower) x = (to_ascii_lowercase x, refl)
cased-one (Some Upper) x = (to_ascii_uppercase x, refl)

take-first_cased : (case : Option Case) (n : ℕ) (xs : List ℕ) → take n (first_cased case xs) ≡ first_cased case (take n xs)
take-first_cased case zero xs = rw (cased-nil case) refl
take-first_cased case (suc n) [] = rw (cased-nil case) refl
take-first_cased case (suc n) (x ∷ xs) = rw (cased-one case x).1 refl

-- the beginning of a text in its cases is that of the text, in its cases
pub take-both : (letters first : Option Case) (n : ℕ) (xs : List ℕ) → take n (first_cased first (cased letters xs)) ≡ first_cased first (cased letters (take n xs))
take-both letters first n xs = rw (take-first_cased first n (cased letters xs), take-cased letters n xs) refl

cased-append : (case : Option Case) (xs ys : List ℕ) → cased case (xs ++ ys) ≡ cased case xs ++ cased case ys
cased-append None xs ys = refl
cased-append (Some Lower) xs ys = grind (arith, common_steps)
cased-append (Some Upper) xs ys = grind (arith, common_steps)

quoted-append : (quote : Bool) (xs ys : List ℕ) → quoted quote (xs ++ ys) ≡ quoted quote xs ++ quoted quote ys
quoted-append false xs ys = refl
quoted-append true xs ys = flat_map-append _ xs ys

length-cased : (case : Option Case) (xs : List ℕ) → length (cased case xs) ≡ length xs
length-cased None xs = refl
length-cased (Some Lower) xs = grind (arith, common_steps)
length-cased (Some Upper) xs = grind (arith, common_steps)

first_cased-push : (case now : Option Case) (xs : List ℕ) (x : ℕ) → now ≡ (if length xs == 0 then case else None) → first_cased case (xs ++ x ∷ []) ≡ first_cased case xs ++ cased now (x ∷ [])
first_cased-push case now [] x h = rw (h, cased-nil case) (append-nil (cased case (x ∷ [])))
first_cased-push case now (y ∷ ys) x h =
    let later : now ≡ None = rw (eqb-suc-zero (length ys)) at h in
    rw later (sym (append_assoc (cased case (y ∷ [])) ys (x ∷ [])))

pub not_first : (i : ℕ) → (i + 1 == 0) ≡ false
not_first i = grind arith

-- one more octet at the end
pub spelled-push : (m : Modifiers) (now : Option Case) (text : List ℕ) (x lettered octet : ℕ) → now ≡ (if length text == 0 then m.first else None) → lettered ∷ [] ≡ cased m.letters (x ∷ []) → octet ∷ [] ≡ cased now (lettered ∷ [])
    → spelled m (text ++ x ∷ []) ≡ spelled m text ++ quoted m.quote_wildcard (octet ∷ [])
spelled-push m now text x lettered octet h lettered-is octet-is =
    let first : now ≡ (if length (cased m.letters text) == 0 then m.first else None) = rw (length-cased m.letters text) h in
    rw (cased-append m.letters text (x ∷ []), sym lettered-is, first_cased-push m.first now (cased m.letters text) lettered first, sym octet-is) (quoted-append m.quote_wildcard (first_cased m.first (cased m.letters text)) (octet ∷ []))

-- ---- characters

quotable_lower : (octet : ℕ) → is_quotable (to_ascii_lowercase octet) ≡ is_quotable octet
quotable_lower octet = grind arith

quotable_upper : (octet : ℕ) → is_quotable (to_ascii_uppercase octet) ≡ is_quotable octet
quotable_upper octet = grind arith

continues_lower : (octet : ℕ) → continues_character (to_ascii_lowercase octet) ≡ continues_character octet
continues_lower octet = grind arith

continues_upper : (octet : ℕ) → continues_character (to_ascii_uppercase octet) ≡ continues_character octet
continues_upper octet = grind arith

-- how many characters an octet stands for, with the backslash before it
abbrev weight : Bool → ℕ → ℕ
weight false octet = cond (continues_character octet) 0 1
weight true octet = cond (is_quotable octet) 1 0 + cond (continues_character octet) 0 1

characters-append : (xs ys : List ℕ) → characters (xs ++ ys) ≡ characters xs + characters ys
characters-append xs ys = sum_by-append _ xs ys

characters-cons : (x : ℕ) (xs : List ℕ) → characters (x ∷ xs) ≡ cond (continues_character x) 0 1 + characters xs
characters-cons x xs = grind (arith, common_steps)

characters-quoted : (x : ℕ) → characters (quoted_octet x) ≡ weight true x
characters-quoted x = by_class (is_quotable x) refl
  where
    by_class : (q : Bool) → is_quotable x ≡ q → characters (if q then 92 ∷ x ∷ [] else x ∷ []) ≡ cond q 1 0 + cond (continues_character x) 0 1
    by_class true h = grind (arith, characters-cons)
    by_class false h = grind (arith, characters-cons)

weighed : (quote : Bool) (xs : List ℕ) → characters (quoted quote xs) ≡ sum_by (weight quote) xs
weighed false [] = refl
weighed false (x ∷ xs) = rw (sum_by-cons (weight false) x xs, ← weighed false xs) (characters-cons x xs)
weighed true [] = refl
weighed true (x ∷ xs) = rw (flat_map-cons quoted_octet x xs, characters-append (quoted_octet x) (quoted true xs), characters-quoted x, weighed true xs) (sym (sum_by-cons (weight true) x xs))

weight_lower : (quote : Bool) (x : ℕ) → weight quote (to_ascii_lowercase x) ≡ weight quote x
weight_lower false x = rw (continues_lower x) refl
weight_lower true x = rw (quotable_lower x, continues_lower x) refl

weight_upper : (quote : Bool) (x : ℕ) → weight quote (to_ascii_uppercase x) ≡ weight quote x
weight_upper false x = rw (continues_upper x) refl
weight_upper true x = rw (quotable_upper x, continues_upper x) refl

weight_mapped : (quote : Bool) (f : ℕ → ℕ) → ((x : ℕ) → weight quote (f x) ≡ weight quote x) → (xs : List ℕ) → sum_by (weight quote) (map f xs) ≡ sum_by (weight quote) xs
weight_mapped quote f same [] = refl
weight_mapped quote f same (x ∷ xs) = rw (sum_by-cons (weight quote) (f x) (map f xs), same x, weight_mapped quote f same xs) (sym (sum_by-cons (weight quote) x xs))

weight_cased : (quote : Bool) (case : Option Case) (xs : List ℕ) → sum_by (weight quote) (cased case xs) ≡ sum_by (weight quote) xs
weight_cased quote None xs = refl
weight_cased quote (Some Lower) xs = weight_mapped quote to_ascii_lowercase (weight_lower quote) xs
weight_cased quote (Some Upper) xs = weight_mapped quote to_ascii_uppercase (weight_upper quote) xs

weight_first : (quote : Bool) (case : Option Case) (xs : List ℕ) → sum_by (weight quote) (first_cased case xs) ≡ sum_by (weight quote) xs
weight_first quote case [] = rw (cased-nil case) refl
weight_first quote case (x ∷ xs) =
    rw (sum_by-append (weight quote) (cased case (x ∷ [])) xs, weight_cased quote case (x ∷ [])) (sym (sum_by-append (weight quote) (x ∷ []) xs))

-- the case of letters changes no number of characters
pub characters_spelled : (m : Modifiers) (text : List ℕ) → characters (quoted m.quote_wildcard text) ≡ characters (spelled m text)
characters_spelled m text =
    weighed m.quote_wildcard text
    ∙ sym (weight_cased m.quote_wildcard m.letters text)
    ∙ sym (weight_first m.quote_wildcard m.first (cased m.letters text))
    ∙ sym (weighed m.quote_wildcard (first_cased m.first (cased m.letters text)))

-- ---- numbers

case_small : (case : Option Case) → case_number case ≤ 2
case_small None = lit≤ tt
case_small (Some Lower) = lit≤ tt
case_small (Some Upper) = lit≤ tt

flag_small : (b : Bool) → flag b ≤ 1
flag_small false = lit≤ tt
flag_small true = lit≤ tt

case_again : (case : Option Case) → case_numbered (case_number case) ≡ case
case_again None = refl
case_again (Some Lower) = refl
case_again (Some Upper) = refl

flag_again : (b : Bool) → (flag b == 1) ≡ b
flag_again false = refl
flag_again true = refl

-- the pieces of a number that is made of them
pieces : (p q f g n : ℕ) → p ≤ 2 → q ≤ 2 → f ≤ 1 → g ≤ 1 → n ≡ p + 4 * q + 16 * f + 32 * g → (n < 64) × (n % 4 ≡ p) × (n / 4 % 4 ≡ q) × (n / 16 % 2 ≡ f) × (n / 32 % 2 ≡ g)
pieces p q f g n hp hq hf hg e = (omega arith, omega arith, omega arith, omega arith, omega arith)

pub number_small : (m : Modifiers) → modifiers_number m < 64
number_small m = (pieces (case_number m.letters) (case_number m.first) (flag m.quote_wildcard) (flag m.length) (modifiers_number m) (case_small m.letters) (case_small m.first) (flag_small m.quote_wildcard) (flag_small m.length) refl).0

-- the modifiers whose number has these pieces
abbrev with_pieces : ℕ → ℕ → ℕ → ℕ → Modifiers
with_pieces p q f g = record { letters = case_numbered p; first = case_numbered q; quote_wildcard = f == 1; length = g == 1 }

numbered_by : (n p q f g : ℕ) → n < 64 → p ≤ 2 → q ≤ 2 → n % 4 ≡ p → n / 4 % 4 ≡ q → n / 16 % 2 ≡ f → n / 32 % 2 ≡ g → modifiers_numbered n ≡ Some (with_pieces p q f g)
numbered_by n p q f g small hp hq ep eq ef eg = rw (ep, eq, ef, eg, lt-ltb n 64 small, lt-ltb p 3 (omega arith), lt-ltb q 3 (omega arith)) refl

pub number_again : (m : Modifiers) → modifiers_numbered (modifiers_number m) ≡ Some m
number_again m =
    let p : ℕ = case_number m.letters in
    let q : ℕ = case_number m.first in
    let f : ℕ = flag m.quote_wildcard in
    let g : ℕ = flag m.length in
    let parts = pieces p q f g (modifiers_number m) (case_small m.letters) (case_small m.first) (flag_small m.quote_wildcard) (flag_small m.length) refl in
    numbered_by (modifiers_number m) p q f g parts.0 (case_small m.letters) (case_small m.first) parts.1 parts.2 parts.3 parts.4
    ∙ rw (case_again m.letters, case_again m.first, flag_again m.quote_wildcard, flag_again m.length) refl

case_number_again : (n : ℕ) → n < 3 → case_number (case_numbered n) ≡ n
case_number_again n h = below_three n h (n == 1) (n == 2) refl refl
  where
    below_three : (n : ℕ) → n < 3 → (one two : Bool) → (n == 1) ≡ one → (n == 2) ≡ two → case_number (if one then Some Lower else (if two then Some Upper else None)) ≡ n
    below_three n h true two e f = let is : n ≡ 1 = eqb-true n 1 e in sym is
    below_three n h false true e f = let is : n ≡ 2 = eqb-true n 2 f in sym is
    below_three n h false false e f = grind arith

flag_number_again : (n : ℕ) → n < 2 → flag (n == 1) ≡ n
flag_number_again n h = below_two n h (n == 1) refl
  where
    below_two : (n : ℕ) → n < 2 → (one : Bool) → (n == 1) ≡ one → flag one ≡ n
    below_two n h true e = sym (eqb-true n 1 e)
    below_two n h false e = grind arith

pub number_only : (n : ℕ) (m : Modifiers) → modifiers_numbered n ≡ Some m → modifiers_number m ≡ n
number_only n m h = by_test (nat_lt n 64 && nat_lt (n % 4) 3 && nat_lt (n / 4 % 4) 3) refl h
  where
    by_test : (b : Bool) → (nat_lt n 64 && nat_lt (n % 4) 3 && nat_lt (n / 4 % 4) 3) ≡ b → (if b then Some (with_pieces (n % 4) (n / 4 % 4) (n / 16 % 2) (n / 32 % 2)) else None) ≡ Some m → modifiers_number m ≡ n
    by_test false e some = absurd (cc)
    by_test true e some =
        let same : with_pieces (n % 4) (n / 4 % 4) (n / 16 % 2) (n / 32 % 2) ≡ m = cc in
        let tests : (nat_lt n 64 ≡ true) × (nat_lt (n % 4) 3 ≡ true) × (nat_lt (n / 4 % 4) 3 ≡ true) = grind arith in
        let small : n < 64 = ltb-true n 64 tests.0 in
        let p : case_number (case_numbered (n % 4)) ≡ n % 4 = case_number_again (n % 4) (ltb-true (n % 4) 3 tests.1) in
        let q : case_number (case_numbered (n / 4 % 4)) ≡ n / 4 % 4 = case_number_again (n / 4 % 4) (ltb-true (n / 4 % 4) 3 tests.2) in
        let f : flag (n / 16 % 2 == 1) ≡ n / 16 % 2 = flag_number_again (n / 16 % 2) (omega arith) in
        let g : flag (n / 32 % 2 == 1) ≡ n / 32 % 2 = flag_number_again (n / 32 % 2) (omega arith) in
        let whole : n % 4 + 4 * (n / 4 % 4) + 16 * (n / 16 % 2) + 32 * (n / 32 % 2) ≡ n = omega (arith, small) in
        rw (← same, p, q, f, g) whole
