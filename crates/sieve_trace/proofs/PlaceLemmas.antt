-- The place behind an octet.
use Rattle.std.proofs.Common.{◌≡◌, ◌∙◌, ◌+◌, ◌<◌, ◌≤◌, ℕ, suc, Bool, true, false, not, ap, refl, sym, arith, length-append, List, [], ◌∷◌, ◌++◌, get_or, length, take, inl, inr}
use Rattle.std.proofs.lemmas.Fmt.{length-decimal-le}
use Rattle.std.specs.Fmt.{decimal}
use Rattle.std.specs.Prelude.{codes, count_by, reverse, take_while, min, if◌then◌else◌}
use Rattle.std.proofs.lemmas.Bool.{cases_Bool}
use Rattle.std.proofs.lemmas.List.{length-reverse, length-take, reverse-append, take_more, take_min, map-append}
use Rattle.std.proofs.lemmas.List.Sums.{count_by-le-length, count_by_more_no, count_by_more_yes}
use Rattle.readable_text.specs.Places.{is_in_line, is_line_feed, line_number, octets_before}
use Rattle.sieve_trace.specs.declared.places.Place.{Place}
use Rattle.sieve_lexer.specs.declared.token.Token.{Token}
use Rattle.sieve_trace.specs.Places.{place_at, place_text, places_of}

-- the place behind an octet, from that of the octet
abbrev pub behind : Place → ℕ → Place
behind place octet = if is_line_feed octet then record { line = place.line + 1; column = 1 } else record { line = place.line; column = place.column + 1 }

line_feed : (script : List ℕ) (i : ℕ) → i < length script → is_line_feed (get_or script i 0) ≡ true → line_number script (i + 1) ≡ line_number script i + 1
unfolding line_number
line_feed script i lt is = ap (λ n. n + 1) (count_by_more_yes is_line_feed script i 0 lt is)

in_line : (script : List ℕ) (i : ℕ) → i < length script → is_line_feed (get_or script i 0) ≡ false → line_number script (i + 1) ≡ line_number script i
unfolding line_number
in_line script i lt is = ap (λ n. n + 1) (count_by_more_no is_line_feed script i 0 lt is)

-- the octets before a place, last first, begin with the one before it
last_first : (script : List ℕ) (i : ℕ) → i < length script → reverse (take (i + 1) script) ≡ get_or script i 0 ∷ reverse (take i script)
last_first script i lt = ap (λ (l : List ℕ). reverse l) (take_more script i 0 lt) ∙ reverse-append (take i script) (get_or script i 0 ∷ [])

-- the first element passes, or doesn't
one_more : {A : Type 0} (n : ℕ) (x : A) (xs : List A) → length (take (1 + n) (x ∷ xs)) ≡ suc (length (take n xs))
one_more n x xs = let e : 1 + n ≡ suc n = omega arith in rw e refl

while_more : (p : ℕ → Bool) (x : ℕ) (xs : List ℕ) → p x ≡ true → length (take_while p (x ∷ xs)) ≡ suc (length (take_while p xs))
while_more p x xs is = rw is (one_more _ x xs)

line_begins : (script : List ℕ) (i : ℕ) → i < length script → is_line_feed (get_or script i 0) ≡ true → octets_before script (i + 1) ≡ 0
unfolding octets_before
line_begins script i lt is =
    let off : is_in_line (get_or script i 0) ≡ false = ap not is in
    ap (λ (l : List ℕ). length (take_while is_in_line l)) (last_first script i lt) ∙ rw off refl

line_goes_on : (script : List ℕ) (i : ℕ) → i < length script → is_line_feed (get_or script i 0) ≡ false → octets_before script (i + 1) ≡ suc (octets_before script i)
unfolding octets_before
line_goes_on script i lt is =
    let on : is_in_line (get_or script i 0) ≡ true = ap not is in
    ap (λ (l : List ℕ). length (take_while is_in_line l)) (last_first script i lt) ∙ while_more is_in_line (get_or script i 0) (reverse (take i script)) on

pub place_next : (script : List ℕ) (i : ℕ) (octet : ℕ) → i < length script → octet ≡ get_or script i 0 → behind (place_at script i) octet ≡ place_at script (i + 1)
place_next script i octet lt is = ap (behind (place_at script i)) is ∙ elim (cases_Bool (is_line_feed (get_or script i 0))) [
  | inl ends ↦ rw (ends, line_feed script i lt ends, line_begins script i lt ends) refl
  | inr stays ↦ rw (stays, in_line script i lt stays, line_goes_on script i lt stays) (let e : suc (octets_before script i) + 1 ≡ octets_before script i + 1 + 1 = omega arith in rw e refl)
]

-- lines and columns are no more than the octets before them, and 1
short : {A : Type 0} (n : ℕ) (xs : List A) → length (take n xs) ≤ length xs
short n xs = omega (arith, length-take n xs)

while_short : (p : ℕ → Bool) (xs : List ℕ) → length (take_while p xs) ≤ length xs
while_short p xs = short _ xs

pub line_small : (script : List ℕ) (i : ℕ) → line_number script i ≤ length script + 1
unfolding line_number
line_small script i = omega (arith, count_by-le-length is_line_feed (take i script), length-take i script)

pub column_small : (script : List ℕ) (i : ℕ) → octets_before script i ≤ length script
unfolding octets_before
column_small script i = omega (arith, while_short is_in_line (reverse (take i script)), length-reverse (take i script), length-take i script)

-- places behind the end are its own
pub place_within : (script : List ℕ) (n : ℕ) → place_at script (min n (length script)) ≡ place_at script n
unfolding line_number octets_before
place_within script n = ap (λ (l : List ℕ). record { line = count_by is_line_feed l + 1; column = length (take_while is_in_line (reverse l)) + 1 }) (take_min n script)

pub first_place : (script : List ℕ) → place_at script 0 ≡ record { line = 1; column = 1 }
unfolding line_number octets_before
first_place script = refl

-- one more token
pub one_more_place : (script : List ℕ) (tokens : List Token) (i : ℕ) (d : Token) (start : ℕ) → i < length tokens → start ≡ min (get_or tokens i d).start (length script)
    → places_of script (take (i + 1) tokens) ≡ places_of script (take i tokens) ++ place_text (place_at script start) ∷ []
one_more_place script tokens i d start lt is =
    ap (places_of script) (take_more tokens i d lt) ∙ map-append (λ (t : Token). place_text (place_at script t.start)) (take i tokens) (get_or tokens i d ∷ [])
    ∙ ap (λ (p : Place). places_of script (take i tokens) ++ place_text p ∷ []) (sym (ap (place_at script) is ∙ place_within script (get_or tokens i d).start))

-- a place has no more than 14 octets
pub place_short : (script : List ℕ) (i : ℕ) → length script ≤ 65536 → length (place_text (place_at script i)) ≤ 14
unfolding place_text
place_short script i few =
    let line : length (decimal (line_number script i)) ≤ 5 = length-decimal-le 5 (line_number script i) (omega arith) (omega (arith, line_small script i, few)) (omega (arith, line_small script i, few)) in
    let column : length (decimal (octets_before script i + 1)) ≤ 5 = length-decimal-le 5 (octets_before script i + 1) (omega arith) (omega (arith, column_small script i, few)) (omega (arith, column_small script i, few)) in
    omega (arith, line, column, length-append (codes ":" ++ decimal (line_number script i) ++ codes ":" ++ decimal (octets_before script i + 1)) (codes ":"), length-append (codes ":" ++ decimal (line_number script i) ++ codes ":") (decimal (octets_before script i + 1)), length-append (codes ":" ++ decimal (line_number script i)) (codes ":"), length-append (codes ":") (decimal (line_number script i)))
