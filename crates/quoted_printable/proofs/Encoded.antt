-- Tokens and lines.
use Rattle.std.proofs.Common.{◌≡◌, ◌≢◌, ℕ, ◌-◌, ◌+◌, ◌<◌, ◌≤◌, ◌==◌, Bool, true, false, List, [], ◌∷◌, ◌++◌, zero, suc, inl, inr, refl, sym, ◌∙◌, ap, arith, length, take, drop, get_or}
use Rattle.std.proofs.lemmas.Bool.{cases_Bool, cases_lt, eq-eqb, ne_eqb, eqb-true, eqb-false, le-leb, lt-leb}
use Rattle.std.proofs.lemmas.List.{append-nil, length-append, length-drop, length-take-le, take-take, take_at, drop_all}
use Rattle.std.proofs.lemmas.Grind.{flat_map-append}
use Rattle.quoted_printable.specs.QuotedPrintable.{token_of, stands, is_none, tokens_of, joined, run_of, soft_break, is_last_line, tokens_of_line, first_line, in_lines, encoding_of}

pub length-tokens_of : (octets : List ℕ) → length (tokens_of octets) ≡ length octets
length-tokens_of [] = refl
length-tokens_of (octet ∷ rest) = ap suc (length-tokens_of rest)

-- ---- the token at a place

same_test : (a b c d : ℕ) → (a ≡ b → c ≡ d) → (c ≡ d → a ≡ b) → (a == b) ≡ (c == d)
same_test a b c d to from = elim (cases_Bool (c == d)) [
  | inl e ↦ rw (e, eq-eqb a b (from (eqb-true c d e))) refl
  | inr n ↦ rw (n, ne_eqb a b (λ e. eqb-false c d n (to e))) refl
]

pub token_here : (n : ℕ) (octets : List ℕ) → n < length octets
    → drop n (tokens_of octets) ≡ token_of (get_or octets n 0) (n + 1 == length octets) ∷ drop (n + 1) (tokens_of octets)
token_here n [] lt = absurd (omega arith)
token_here zero (octet ∷ []) lt = refl
token_here zero (octet ∷ following ∷ rest) lt =
    let more : 0 + 1 ≢ length (octet ∷ following ∷ rest) = λ e. omega (arith, e) in
    rw (ne_eqb (0 + 1) (length (octet ∷ following ∷ rest)) more) refl
token_here (suc n) (octet ∷ rest) lt =
    let e : suc n + 1 ≡ suc (n + 1) = omega arith in
    let same = same_test (suc n + 1) (suc (length rest)) (n + 1) (length rest) (λ e. omega arith) (λ e. omega arith) in
    rw (same, e) (token_here n rest (omega arith))

take_next : {A : Type 0} (n : ℕ) (xs : List A) (x : A) (ys : List A) → drop n xs ≡ x ∷ ys → take (n + 1) xs ≡ take n xs ++ x ∷ []
take_next zero [] x ys e = cc
take_next zero (y ∷ xs) x ys e = let same : y ≡ x = cc in ap (λ y. y ∷ []) same
take_next (suc n) [] x ys e = cc
take_next (suc n) (y ∷ xs) x ys e =
    let more : suc n + 1 ≡ suc (n + 1) = omega arith in
    rw more (ap (λ l. y ∷ l) (take_next n xs x ys e))

pub take_here : (n : ℕ) (octets : List ℕ) → n < length octets
    → joined (take (n + 1) (tokens_of octets)) ≡ joined (take n (tokens_of octets)) ++ token_of (get_or octets n 0) (n + 1 == length octets)
take_here n octets lt =
    let token = token_of (get_or octets n 0) (n + 1 == length octets) in
    ap joined (take_next n (tokens_of octets) token (drop (n + 1) (tokens_of octets)) (token_here n octets lt))
    ∙ flat_map-append (λ token. token) (take n (tokens_of octets)) (token ∷ [])
    ∙ ap (λ l. joined (take n (tokens_of octets)) ++ l) (append-nil token)

-- ---- runs

pub run_goes : (room len taken all : ℕ) (token : List ℕ) (rest : List (List ℕ)) → all ≡ taken + run_of (room - len) (token ∷ rest) → len + length token ≤ room
    → all ≡ taken + 1 + run_of (room - (len + length token)) rest
run_goes room len taken all token rest e fits =
    let within : length token ≤ room - len = omega arith in
    let left : room - len - length token ≡ room - (len + length token) = omega arith in
    e ∙ (rw (le-leb (length token) (room - len) within, left) (omega arith))

pub run_stops : (room len taken all : ℕ) (token : List ℕ) (rest : List (List ℕ)) → all ≡ taken + run_of (room - len) (token ∷ rest) → len ≤ room → room < len + length token
    → all ≡ taken
run_stops room len taken all token rest e within over =
    let long : room - len < length token = omega arith in
    e ∙ (rw (lt-leb (length token) (room - len) long) (omega arith))

-- ---- lengths

token_long : (octet : ℕ) (b : Bool) → (0 < length (token_of octet b)) × (length (token_of octet b) ≤ 3)
token_long octet b = elim (cases_Bool (stands octet b)) [
  | inl e ↦ rw e (omega arith, omega arith)
  | inr e ↦ rw e (omega arith, omega arith)
]

tokens_long : (octets : List ℕ) → length octets ≤ length (joined (tokens_of octets))
tokens_long [] = omega arith
tokens_long (octet ∷ rest) =
    let token = token_of octet (is_none rest) in
    let some = (token_long octet (is_none rest)).0 in
    let more = tokens_long rest in
    let sum = length-append token (joined (tokens_of rest)) in
    omega (arith, some, more, sum)

-- a run of all tokens fits
run_all : (room : ℕ) (tokens : List (List ℕ)) → run_of room tokens ≡ length tokens → length (joined tokens) ≤ room
run_all room [] e = omega arith
run_all room (token ∷ rest) e = elim (cases_lt room (length token)) [
  | inl over ↦ absurd (let none = rw (lt-leb (length token) room over) at e in omega (arith, none))
  | inr within ↦
      let all = rw (le-leb (length token) room within) at e in
      let more = run_all (room - length token) rest (omega (arith, all)) in
      let sum = length-append token (joined rest) in
      omega (arith, more, sum, within)
]

-- and what fits is a run of all tokens
all_run : (room : ℕ) (tokens : List (List ℕ)) → length (joined tokens) ≤ room → run_of room tokens ≡ length tokens
all_run room [] fits = refl
all_run room (token ∷ rest) fits =
    let sum = length-append token (joined rest) in
    let within : length token ≤ room = omega (arith, sum) in
    rw (le-leb (length token) room within) (ap suc (all_run (room - length token) rest (omega (arith, sum))))

-- ---- the first line

pub last_line : (octets : List ℕ) (taken : ℕ) (line : List ℕ) → taken ≡ run_of 76 (tokens_of octets) → taken ≡ length octets → line ≡ joined (take taken (tokens_of octets))
    → (line ≡ first_line (tokens_of octets)) × (taken ≡ tokens_of_line (tokens_of octets))
last_line octets taken line run all is =
    let tokens = tokens_of octets in
    let count = length-tokens_of octets in
    let fits = run_all 76 tokens (sym run ∙ all ∙ sym count) in
    let last : is_last_line tokens ≡ true = le-leb (length (joined tokens)) 76 fits in
    let same : taken ≡ length tokens = all ∙ sym count in
    (rw last (is ∙ ap (λ n. joined (take n tokens)) same ∙ sym (append-nil (joined (take (length tokens) tokens)))), rw last same)

pub line_goes_on : (octets : List ℕ) (taken : ℕ) (line : List ℕ) → run_of 76 (tokens_of octets) ≢ length octets → taken ≡ run_of 75 (tokens_of octets) → line ≡ joined (take taken (tokens_of octets))
    → (line ++ soft_break ≡ first_line (tokens_of octets)) × (taken ≡ tokens_of_line (tokens_of octets))
line_goes_on octets taken line more run is =
    let tokens = tokens_of octets in
    let count = length-tokens_of octets in
    let over : length (joined tokens) ≤ 76 → ⊥ = λ fits. more (all_run 76 tokens fits ∙ count) in
    let long : 76 < length (joined tokens) = omega (arith, over) in
    let last : is_last_line tokens ≡ false = lt-leb (length (joined tokens)) 76 long in
    (rw last (ap (λ l. l ++ soft_break) (is ∙ ap (λ n. joined (take n tokens)) run)), rw last run)

pub long_line : (octets : List ℕ) → 76 < length octets → run_of 76 (tokens_of octets) ≢ length octets
long_line octets long e =
    let fits = run_all 76 (tokens_of octets) (e ∙ sym (length-tokens_of octets)) in
    let more = tokens_long octets in
    omega (arith, fits, more)

pub run_some : (octets : List ℕ) → 0 < length octets → 0 < run_of 75 (tokens_of octets)
run_some [] some = absurd (omega arith)
run_some (octet ∷ rest) some =
    let few = (token_long octet (is_none rest)).1 in
    let within : length (token_of octet (is_none rest)) ≤ 75 = omega arith in
    rw (le-leb (length (token_of octet (is_none rest))) 75 within) (omega arith)

pub line_some : (octets : List ℕ) → 0 < length octets → 0 < tokens_of_line (tokens_of octets)
line_some octets some =
    let count = length-tokens_of octets in
    elim (cases_Bool (is_last_line (tokens_of octets))) [
      | inl e ↦ rw e (omega arith)
      | inr e ↦ rw e (run_some octets some)
    ]

-- ---- the lines one after another

pub tokens_drop : (n : ℕ) (octets : List ℕ) → drop n (tokens_of octets) ≡ tokens_of (drop n octets)
tokens_drop zero octets = refl
tokens_drop (suc n) [] = refl
tokens_drop (suc n) (octet ∷ rest) = tokens_drop n rest

pub in_lines_none : (n : ℕ) → in_lines n [] ≡ []
in_lines_none zero = refl
in_lines_none (suc n) = in_lines_none n

-- any number of lines that is enough gives the same
enough : (n m : ℕ) (octets : List ℕ) → length octets ≤ n → length octets ≤ m → in_lines n (tokens_of octets) ≡ in_lines m (tokens_of octets)
enough n m [] low high = in_lines_none n ∙ sym (in_lines_none m)
enough zero m (octet ∷ rest) low high = absurd (omega arith)
enough (suc n) zero (octet ∷ rest) low high = absurd (omega arith)
enough (suc n) (suc m) (octet ∷ rest) low high =
    let octets : List ℕ = octet ∷ rest in
    let k = tokens_of_line (tokens_of octets) in
    let some = line_some octets (omega arith) in
    let left = length-drop k octets in
    ap (λ l. first_line (tokens_of octets) ++ l)
    (ap (in_lines n) (tokens_drop k octets)
    ∙ enough n m (drop k octets) (omega (arith, some, left)) (omega (arith, some, left))
    ∙ ap (in_lines m) (sym (tokens_drop k octets)))

pub encoding_of-none : encoding_of [] ≡ []
unfolding encoding_of
encoding_of-none = refl

pub next_line : (octets : List ℕ) → 0 < length octets
    → encoding_of octets ≡ first_line (tokens_of octets) ++ encoding_of (drop (tokens_of_line (tokens_of octets)) octets)
unfolding encoding_of
next_line [] some = absurd (omega arith)
next_line (octet ∷ rest) some =
    let octets : List ℕ = octet ∷ rest in
    let k = tokens_of_line (tokens_of octets) in
    let pos = line_some octets (omega arith) in
    let left = length-drop k octets in
    ap (λ l. first_line (tokens_of octets) ++ l)
    (ap (in_lines (length rest)) (tokens_drop k octets) ∙ enough (length rest) (length (drop k octets)) (drop k octets) (omega (arith, pos, left)) (omega arith))

-- ---- a line while it is written

pub run_ended : (octets : List ℕ) (room taken : ℕ) → length octets ≤ taken → {all : ℕ} → all ≡ taken + run_of room (drop taken (tokens_of octets)) → all ≡ taken
run_ended octets room taken end e =
    let none : drop taken (tokens_of octets) ≡ [] = drop_all taken (tokens_of octets) (omega (arith, length-tokens_of octets)) in
    let ended = rw none at e in
    omega arith

-- what stood before a place where something was written stays
pub prefix_kept : (at end : ℕ) (old new more : List ℕ) → at ≤ end → at ≤ length old → take end new ≡ take at old ++ more → take at new ≡ take at old
prefix_kept at end old new more low within e =
    sym (take-take at end new low) ∙ ap (take at) e ∙ take_at (take at old) more at (length-take-le at old within)

pub first_and_rest : (octets : List ℕ) → encoding_of octets ≡ first_line (tokens_of octets) ++ encoding_of (drop (tokens_of_line (tokens_of octets)) octets)
first_and_rest [] = encoding_of-none ∙ sym encoding_of-none
first_and_rest (octet ∷ rest) = next_line (octet ∷ rest) (omega arith)
