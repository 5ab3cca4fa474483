-- References, read word by word.
use Rattle.std.proofs.Common.{◌≡◌, ◌≢◌, ℕ, suc, ◌==◌, ◌&&◌, ◌||◌, Bool, true, false, List, [], ◌∷◌, ◌++◌, length, drop, Option, Some, None, option_map, if◌then◌else◌, refl, sym, ap, ◌∙◌, inl, inr, arith}
use Rattle.std.specs.List.{list_all}
use Rattle.std.specs.Option.{option_and_then}
use Rattle.std.proofs.lemmas.Bool.{cases_Bool, cases_eq, ne_eqb, eqb-true}
use Rattle.std.proofs.lemmas.List.{append-nil}
use Rattle.std.specs.Char.{is_ascii_digit}
use Rattle.std.specs.Int.{is_in_range}
use Rattle.sieve_lexer.specs.Classes.{begins_identifier, continues_identifier}
use Rattle.sieve_references.specs.References.{Segment, foreign, is_identifier, is_number, with_octet, words, before_brace, reference_of}
use Rattle.sieve_references.specs.Reading.{is_element, elements, Found, reference}

-- ---- octets and words

-- a letter or digit is neither a dot nor a brace
apart : (x y : ℕ) → continues_identifier x ≡ true → continues_identifier y ≡ false → (x == y) ≡ false
apart x y here other =
    elim (cases_Bool (x == y)) [
      | inl same ↦ let e : continues_identifier x ≡ continues_identifier y = ap continues_identifier (eqb-true x y same) in absurd (cc)
      | inr differs ↦ differs
    ]

left_of : (a b : Bool) → (a && b) ≡ true → a ≡ true
left_of true b e = refl
left_of false b e = e

right_of : (a b : Bool) → (a && b) ≡ true → b ≡ true
right_of true b e = e
right_of false b e = absurd (cc)

first_passes : (x : ℕ) (xs : List ℕ) → list_all continues_identifier (x ∷ xs) ≡ true → continues_identifier x ≡ true
first_passes x xs all = left_of (continues_identifier x) (list_all continues_identifier xs) all

others_pass : (x : ℕ) (xs : List ℕ) → list_all continues_identifier (x ∷ xs) ≡ true → list_all continues_identifier xs ≡ true
others_pass x xs all = right_of (continues_identifier x) (list_all continues_identifier xs) all

digit_continues : (x : ℕ) → is_ascii_digit x ≡ true → continues_identifier x ≡ true
digit_continues x e = rw e refl

begins_continues : (x : ℕ) → begins_identifier x ≡ true → continues_identifier x ≡ true
begins_continues x e = wider (is_in_range 48 57 x) (is_in_range 65 90 x) (is_in_range 97 122 x) (x == 95) e
  where
    wider : (digit upper lower line : Bool) → ((upper || lower) || line) ≡ true → (((digit || upper) || lower) || line) ≡ true
    wider true upper lower line h = refl
    wider false upper lower line h = h

digits_pass : (xs : List ℕ) → list_all is_ascii_digit xs ≡ true → list_all continues_identifier xs ≡ true
digits_pass [] all = refl
digits_pass (x ∷ xs) all =
    let here : continues_identifier x ≡ true = digit_continues x (left_of (is_ascii_digit x) (list_all is_ascii_digit xs) all) in
    rw here (digits_pass xs (right_of (is_ascii_digit x) (list_all is_ascii_digit xs) all))

-- a name or a number has letters and digits alone
name_passes : (word : List ℕ) → is_identifier word ≡ true → list_all continues_identifier word ≡ true
name_passes [] e = absurd (cc)
name_passes (x ∷ xs) e =
    let here : continues_identifier x ≡ true = begins_continues x (left_of (begins_identifier x) (list_all continues_identifier xs) e) in
    rw here (right_of (begins_identifier x) (list_all continues_identifier xs) e)

number_passes : (word : List ℕ) → is_number word ≡ true → list_all continues_identifier word ≡ true
number_passes [] e = absurd (cc)
number_passes (x ∷ xs) e = digits_pass (x ∷ xs) e

not_name : (word : List ℕ) → list_all continues_identifier word ≡ false → is_identifier word ≡ false
not_name word stray =
    elim (cases_Bool (is_identifier word)) [
      | inl name ↦ let e : list_all continues_identifier word ≡ true = name_passes word name in absurd (cc)
      | inr other ↦ other
    ]

not_number : (word : List ℕ) → list_all continues_identifier word ≡ false → is_number word ≡ false
not_number word stray =
    elim (cases_Bool (is_number word)) [
      | inl number ↦ let e : list_all continues_identifier word ≡ true = number_passes word number in absurd (cc)
      | inr other ↦ other
    ]

-- ---- what stands before the closing brace

-- letters and digits don't close
passed : (word text : List ℕ) → list_all continues_identifier word ≡ true → before_brace (word ++ text) ≡ option_map (λ inside. word ++ inside) (before_brace text)
passed [] text all = same (before_brace text)
  where
    same : (o : Option (List ℕ)) → o ≡ option_map (λ inside. inside) o
    same None = refl
    same (Some inside) = refl
passed (x ∷ xs) text all =
    let going : (x == 125) ≡ false = apart x 125 (first_passes x xs all) refl in
    rw (going, passed xs text (others_pass x xs all)) (onto (before_brace text))
  where
    onto : (o : Option (List ℕ)) → option_map (λ inside. x ∷ inside) (option_map (λ inside. xs ++ inside) o) ≡ option_map (λ inside. x ∷ (xs ++ inside)) o
    onto None = refl
    onto (Some inside) = refl

unclosed : (word : List ℕ) → list_all continues_identifier word ≡ true → before_brace word ≡ None
unclosed word all = sym (ap before_brace (append-nil word)) ∙ passed word [] all

closed : (word more : List ℕ) → list_all continues_identifier word ≡ true → before_brace (word ++ 125 ∷ more) ≡ Some word
closed word more all = passed word (125 ∷ more) all ∙ ap (λ w. Some w) (append-nil word)

-- another octet goes on
goes_on : (word : List ℕ) (z : ℕ) (more : List ℕ) → list_all continues_identifier word ≡ true → z ≢ 125
    → before_brace (word ++ z ∷ more) ≡ option_map (λ inside. word ++ z ∷ inside) (before_brace more)
goes_on word z more all going = passed word (z ∷ more) all ∙ rw (ne_eqb z 125 going) (onto (before_brace more))
  where
    onto : (o : Option (List ℕ)) → option_map (λ inside. word ++ inside) (option_map (λ inside. z ∷ inside) o) ≡ option_map (λ inside. word ++ z ∷ inside) o
    onto None = refl
    onto (Some inside) = refl

-- ---- the words between dots

one_word : (word : List ℕ) → list_all continues_identifier word ≡ true → words word ≡ word ∷ []
one_word [] all = refl
one_word (x ∷ xs) all =
    let inside : (x == 46) ≡ false = apart x 46 (first_passes x xs all) refl in
    rw (inside, one_word xs (others_pass x xs all)) refl

first_word : (word inside : List ℕ) → list_all continues_identifier word ≡ true → words (word ++ 46 ∷ inside) ≡ word ∷ words inside
first_word [] inside all = refl
first_word (x ∷ xs) inside all =
    let within : (x == 46) ≡ false = apart x 46 (first_passes x xs all) refl in
    rw (within, first_word xs inside (others_pass x xs all)) refl

-- words of which the first has an octet that is no letter or digit
record AreStray (found : List (List ℕ)) : Type 0 where
  pub word : List ℕ
  pub others : List (List ℕ)
  pub are : found ≡ word ∷ others
  pub stray : list_all continues_identifier word ≡ false

stray_first : (z : ℕ) (found : List (List ℕ)) → continues_identifier z ≡ false → AreStray (with_octet z found)
stray_first z [] other = record { word = z ∷ []; others = []; are = refl; stray = rw other refl }
stray_first z (word ∷ others) other = record { word = z ∷ word; others = others; are = refl; stray = rw other refl }

stray_more : (x : ℕ) (found : List (List ℕ)) → continues_identifier x ≡ true → AreStray found → AreStray (with_octet x found)
stray_more x found here s = record { word = x ∷ s.word; others = s.others; are = ap (with_octet x) s.are; stray = rw here s.stray }

stray_words : (word : List ℕ) (z : ℕ) (inside : List ℕ) → list_all continues_identifier word ≡ true → continues_identifier z ≡ false → z ≢ 46 → AreStray (words (word ++ z ∷ inside))
stray_words [] z inside all other no_dot = rw (ne_eqb z 46 no_dot) (stray_first z (words inside) other)
stray_words (x ∷ xs) z inside all other no_dot =
    let within : (x == 46) ≡ false = apart x 46 (first_passes x xs all) refl in
    rw within (stray_more x (words (xs ++ z ∷ inside)) (first_passes x xs all) (stray_words xs z inside (others_pass x xs all) other no_dot))

no_reference : (found : List (List ℕ)) → AreStray found → reference_of found ≡ None
no_reference found s = ap reference_of s.are ∙ none s.others
  where
    none : (others : List (List ℕ)) → reference_of (s.word ∷ others) ≡ None
    none [] = rw (not_name s.word s.stray, not_number s.word s.stray) refl
    none (w ∷ ws) = rw (not_name s.word s.stray) refl

no_elements : (found : List (List ℕ)) → AreStray found → list_all is_element found ≡ false
no_elements found s = ap (list_all is_element) s.are ∙ rw (not_name s.word s.stray, not_number s.word s.stray) refl

-- there is always a word
record AreWords (found : List (List ℕ)) : Type 0 where
  pub word : List ℕ
  pub others : List (List ℕ)
  pub are : found ≡ word ∷ others

some_words : (inside : List ℕ) → AreWords (words inside)
some_words [] = record { word = []; others = []; are = refl }
some_words (x ∷ xs) =
    elim (cases_Bool (x == 46)) [
      | inl dot ↦ rw dot record { word = []; others = words xs; are = refl }
      | inr within ↦ rw within record { word = x ∷ (some_words xs).word; others = (some_words xs).others; are = ap (with_octet x) (some_words xs).are }
    ]

of_more : (word inside : List ℕ) → reference_of (word ∷ words inside) ≡ (if is_identifier word && list_all is_element (words inside) then Some foreign else None)
of_more word inside = let w = some_words inside in rw w.are refl

-- ---- what is left behind them

drop_word : (word : List ℕ) (z : ℕ) (more : List ℕ) → drop (suc (length word)) (word ++ z ∷ more) ≡ more
drop_word [] z more = refl
drop_word (x ∷ xs) z more = drop_word xs z more

drop_more : (word : List ℕ) (z : ℕ) (inside more : List ℕ) → drop (suc (length (word ++ z ∷ inside))) (word ++ z ∷ more) ≡ drop (suc (length inside)) more
drop_more [] z inside more = refl
drop_more (x ∷ xs) z inside more = drop_more xs z inside more

-- ---- the words behind a namespace

abbrev none_left : Option (List ℕ)
none_left = None

abbrev none_found : Option Found
none_found = None

pub elements_unclosed : (word : List ℕ) → list_all continues_identifier word ≡ true → elements word ≡ None
elements_unclosed word all = rw (unclosed word all) refl

pub elements_closed : (word more : List ℕ) → list_all continues_identifier word ≡ true → elements (word ++ 125 ∷ more) ≡ (if is_element word then Some more else None)
elements_closed word more all = rw (closed word more all, one_word word all, drop_word word 125 more) (either (is_element word))
  where
    either : (b : Bool) → (if b && true then Some more else None) ≡ (if b then Some more else None)
    either true = refl
    either false = refl

pub elements_dot : (word more : List ℕ) → list_all continues_identifier word ≡ true → elements (word ++ 46 ∷ more) ≡ (if is_element word then elements more else None)
elements_dot word more all = rw (goes_on word 46 more all (λ e. omega (arith, e))) (step (before_brace more))
  where
    some : (b c : Bool) (inside : List ℕ) → (if b && c then Some (drop (suc (length (word ++ 46 ∷ inside))) (word ++ 46 ∷ more)) else None) ≡ (if b then (if c then Some (drop (suc (length inside)) more) else None) else None)
    some true true inside = ap (λ l. Some l) (drop_more word 46 inside more)
    some true false inside = refl
    some false c inside = refl

    none : (b : Bool) → None ≡ (if b then none_left else None)
    none true = refl
    none false = refl

    step : (o : Option (List ℕ)) →
        option_and_then (λ inside. if list_all is_element (words inside) then Some (drop (suc (length inside)) (word ++ 46 ∷ more)) else None) (option_map (λ inside. word ++ 46 ∷ inside) o)
        ≡ (if is_element word then option_and_then (λ inside. if list_all is_element (words inside) then Some (drop (suc (length inside)) more) else None) o else None)
    step None = none (is_element word)
    step (Some inside) = rw (first_word word inside all) (some (is_element word) (list_all is_element (words inside)) inside)

pub elements_other : (word : List ℕ) (z : ℕ) (more : List ℕ) → list_all continues_identifier word ≡ true → continues_identifier z ≡ false → z ≢ 125 → z ≢ 46 → elements (word ++ z ∷ more) ≡ None
elements_other word z more all other going no_dot = rw (goes_on word z more all going) (step (before_brace more))
  where
    step : (o : Option (List ℕ)) →
        option_and_then (λ inside. if list_all is_element (words inside) then Some (drop (suc (length inside)) (word ++ z ∷ more)) else None) (option_map (λ inside. word ++ z ∷ inside) o) ≡ None
    step None = refl
    step (Some inside) = rw (no_elements (words (word ++ z ∷ inside)) (stray_words word z inside all other no_dot)) refl

pub elements_not : (word : List ℕ) (z : ℕ) (more : List ℕ) → list_all continues_identifier word ≡ true → continues_identifier z ≡ false → is_element word ≡ false → elements (word ++ z ∷ more) ≡ None
elements_not word z more all other not_one =
    elim (cases_eq z 125) [
      | inl brace ↦ rw brace (elements_closed word more all ∙ rw not_one refl)
      | inr going ↦
          elim (cases_eq z 46) [
            | inl dot ↦ rw dot (elements_dot word more all ∙ rw not_one refl)
            | inr no_dot ↦ elements_other word z more all other going no_dot
          ]
    ]

-- ---- references

pub reference_unclosed : (word : List ℕ) → list_all continues_identifier word ≡ true → reference word ≡ None
reference_unclosed word all = rw (unclosed word all) refl

abbrev pub found_with : List ℕ → Segment → Found
found_with rest segment = record { segment = segment; rest = rest }

pub reference_closed : (word more : List ℕ) → list_all continues_identifier word ≡ true → reference (word ++ 125 ∷ more) ≡ option_map (found_with more) (reference_of (word ∷ []))
reference_closed word more all = rw (closed word more all, one_word word all, drop_word word 125 more) refl

pub reference_dot : (word more : List ℕ) → list_all continues_identifier word ≡ true
    → reference (word ++ 46 ∷ more) ≡ (if is_identifier word then option_map (λ rest. found_with rest foreign) (elements more) else None)
reference_dot word more all = rw (goes_on word 46 more all (λ e. omega (arith, e))) (step (before_brace more))
  where
    some : (b c : Bool) (inside : List ℕ) →
        option_map (λ segment. record { segment = segment; rest = drop (suc (length (word ++ 46 ∷ inside))) (word ++ 46 ∷ more) }) (if b && c then Some foreign else None)
        ≡ (if b then option_map (λ rest. found_with rest foreign) (if c then Some (drop (suc (length inside)) more) else None) else None)
    some true true inside = ap (λ l. Some (found_with l foreign)) (drop_more word 46 inside more)
    some true false inside = refl
    some false c inside = refl

    none : (b : Bool) → None ≡ (if b then none_found else None)
    none true = refl
    none false = refl

    step : (o : Option (List ℕ)) →
        option_and_then (λ inside. option_map (λ segment. found_with (drop (suc (length inside)) (word ++ 46 ∷ more)) segment) (reference_of (words inside))) (option_map (λ inside. word ++ 46 ∷ inside) o)
        ≡ (if is_identifier word then option_map (λ rest. found_with rest foreign) (option_and_then (λ inside. if list_all is_element (words inside) then Some (drop (suc (length inside)) more) else None) o) else None)
    step None = none (is_identifier word)
    step (Some inside) = rw (first_word word inside all, of_more word inside) (some (is_identifier word) (list_all is_element (words inside)) inside)

pub reference_other : (word : List ℕ) (z : ℕ) (more : List ℕ) → list_all continues_identifier word ≡ true → continues_identifier z ≡ false → z ≢ 125 → z ≢ 46 → reference (word ++ z ∷ more) ≡ None
reference_other word z more all other going no_dot = rw (goes_on word z more all going) (step (before_brace more))
  where
    step : (o : Option (List ℕ)) →
        option_and_then (λ inside. option_map (λ segment. found_with (drop (suc (length inside)) (word ++ z ∷ more)) segment) (reference_of (words inside))) (option_map (λ inside. word ++ z ∷ inside) o) ≡ None
    step None = refl
    step (Some inside) = rw (no_reference (words (word ++ z ∷ inside)) (stray_words word z inside all other no_dot)) refl
