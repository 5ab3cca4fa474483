-- Words and numbers of a listing, read as they were written.
use Rattle.std.proofs.Common.{◌≡◌, ℕ, ◌+◌, ◌-◌, ◌*◌, ◌^◌, ◌<◌, ◌≤◌, ◌==◌, ◌&&◌, true, false, cond, if◌then◌else◌, List, [], ◌∷◌, ◌++◌, length, take, drop, Result, Ok, Err, refl, ap, ◌∙◌, arith, le-leb}
use Rattle.std.specs.Prelude.{nat_le, bytes_eq}
use Rattle.std.specs.List.{prefix_len, list_all}
use Rattle.std.specs.Fmt.{decimal}
use Rattle.std.specs.Str.{all_ascii_digits}
use Rattle.std.specs.Char.{is_ascii_digit}
use Rattle.std.proofs.Math.Seq.{take-append_seam, drop-append_seam}
use Rattle.std.proofs.lemmas.Bool.{and_parts}
use Rattle.std.proofs.lemmas.Bool.Decides.{nat_tests}
use Rattle.std.proofs.lemmas.Fmt.{decimal_nonempty, digits_decimal, digits_value-decimal}
use Rattle.std.proofs.lemmas.Slice.Eq.{bytes_eq-Decides}
use Rattle.std.proofs.lemmas.Str.Parse.{IsNumeralModel, numerals_by_fold, tells_all_ascii_digits}
use Rattle.bytecode_listing.specs.Tokens.{is_white, is_word_octet, tokens_of}
use Rattle.bytecode_listing.specs.Labels.{◌>>=◌}
use Rattle.bytecode_listing.specs.Items.{Tokens, word_at, left_at, keyword_at, begins_number, value_from, is_within, number_at}
use Rattle.bytecode_listing.specs.Readers.{led}
use Rattle.bytecode_listing.proofs.Lexing.{leads, after_white}

-- what stands after a word begins with no octet of words
abbrev pub Stops : List ℕ → Type 0
Stops [] = Unit {0}
Stops (x ∷ rest) = is_word_octet x ≡ false

pub record IsWord (word : List ℕ) : Type 0 where
  pub some : 0 < length word
  pub octets : list_all is_word_octet word ≡ true

no_gap : (x : ℕ) → is_word_octet x ≡ true → (is_white x ≡ false) × ((x == 59) ≡ false)
no_gap x h = (grind (arith, nat_tests), grind (arith, nat_tests))

whole_prefix : (word rest : List ℕ) → list_all is_word_octet word ≡ true → Stops rest → prefix_len is_word_octet (word ++ rest) ≡ length word
whole_prefix [] [] h s = refl
whole_prefix [] (x ∷ rest) h s = ap (λ b. cond b (1 + prefix_len is_word_octet rest) 0) s
whole_prefix (x ∷ word) rest h s =
    let parts = and_parts (is_word_octet x) (list_all is_word_octet word) h in
    ap (λ b. cond b (1 + prefix_len is_word_octet (word ++ rest)) 0) parts.0 ∙ omega (arith, whole_prefix word rest parts.1 s)

pub word_reads : (word rest : List ℕ) → IsWord word → Stops rest → word_at (tokens_of (word ++ rest)) ≡ Ok (word, tokens_of rest)
word_reads [] rest w s = absurd (omega (arith, w.some))
word_reads (x ∷ word) rest w s =
    let parts = and_parts (is_word_octet x) (list_all is_word_octet word) w.octets in
    leads (x ∷ (word ++ rest)) (no_gap x parts.0)
    ∙ ap (λ n. led (take n (x ∷ (word ++ rest))) (drop n (x ∷ (word ++ rest)))) (whole_prefix (x ∷ word) rest w.octets s)
    ∙ ap (λ (t : List ℕ). led t (drop (length (x ∷ word)) (x ∷ (word ++ rest)))) (take-append_seam (x ∷ word) rest)
    ∙ ap (λ (t : List ℕ). led (x ∷ word) t) (drop-append_seam (x ∷ word) rest)

-- a word and a blank, SP or LF
pub word_then : (word : List ℕ) (blank : ℕ) (rest : List ℕ) → IsWord word → is_white blank ≡ true → is_word_octet blank ≡ false → word_at (tokens_of (word ++ blank ∷ rest)) ≡ Ok (word, tokens_of rest)
word_then word blank rest w h s =
    word_reads word (blank ∷ rest) w s ∙ ap (λ (t : Tokens). let r : Result (List ℕ × Tokens) ℕ = Ok (word, t) in r) (after_white blank rest h)

pub same_word : (word : List ℕ) → bytes_eq word word ≡ true
same_word word = (bytes_eq-Decides word word).1 refl

pub keyword_reads : (word : List ℕ) (tokens rest : Tokens) → word_at tokens ≡ Ok (word, rest) → keyword_at word tokens ≡ Ok rest
unfolding keyword_at
keyword_reads word tokens rest e =
    ap (λ (r : Result (List ℕ × Tokens) ℕ). r >>= λ read. if bytes_eq read.0 word then Ok read.1 else Err (left_at tokens)) e
    ∙ ap (λ b. let r : Result Tokens ℕ = if b then Ok rest else Err (left_at tokens) in r) (same_word word)

-- ---- numbers

model : IsNumeralModel (λ ds. all_ascii_digits ds ≡ true) (value_from 0)
model = numerals_by_fold (λ ds. all_ascii_digits ds ≡ true) tells_all_ascii_digits value_from (record { empty = λ n. refl; more = λ n c cs r. let e : 10 * n + (c - 48) ≡ n * 10 + (c - 48) = omega arith in ap (λ m. value_from m cs) e })

pub digits_told : (n : ℕ) → n < 2 ^ 64 → all_ascii_digits (decimal n) ≡ true
digits_told n h = digits_decimal model n h

value_told : (n : ℕ) → n < 2 ^ 64 → value_from 0 (decimal n) ≡ n
value_told n h = digits_value-decimal model n h

digit_in_word : (x : ℕ) → is_ascii_digit x ≡ true → is_word_octet x ≡ true
digit_in_word x h = grind (arith, nat_tests)

digits_in_word : (ds : List ℕ) → all_ascii_digits ds ≡ true → list_all is_word_octet ds ≡ true
digits_in_word [] h = refl
digits_in_word (x ∷ ds) h =
    let parts = and_parts (is_ascii_digit x) (all_ascii_digits ds) h in
    ap (λ b. b && list_all is_word_octet ds) (digit_in_word x parts.0) ∙ digits_in_word ds parts.1

pub number_word : (n : ℕ) → n < 2 ^ 64 → IsWord (decimal n)
number_word n h = record { some = decimal_nonempty n h; octets = digits_in_word (decimal n) (digits_told n h) }

pub number_reads : (low high n : ℕ) (tokens rest : Tokens) → low ≤ n → n ≤ high → high < 2 ^ 64 → word_at tokens ≡ Ok (decimal n, rest) → number_at low high tokens ≡ Ok (n, rest)
unfolding number_at
number_reads low high n tokens rest above within small e =
    let fits : n < 2 ^ 64 = omega arith in
    let fault : Result (ℕ × Tokens) ℕ = Err (left_at tokens) in
    ap (λ (r : Result (List ℕ × Tokens) ℕ). r >>= λ read. if is_within low high read.0 then Ok (value_from 0 read.0, read.1) else Err (left_at tokens)) e
    ∙ ap (λ b. if b && nat_le low (value_from 0 (decimal n)) && nat_le (value_from 0 (decimal n)) high then Ok (value_from 0 (decimal n), rest) else fault) (digits_told n fits)
    ∙ ap (λ v. if nat_le low v && nat_le v high then Ok (v, rest) else fault) (value_told n fits)
    ∙ ap (λ b. if b && nat_le n high then Ok (n, rest) else fault) (le-leb low n above)
    ∙ ap (λ b. if b then Ok (n, rest) else fault) (le-leb n high within)

-- a number's first octet is a digit
pub number_begins : (n : ℕ) (rest : Tokens) → n < 2 ^ 64 → begins_number (Ok (decimal n, rest)) ≡ true
number_begins n rest h = in_word (decimal n) (decimal_nonempty n h) (digits_told n h)
  where
    in_word : (ds : List ℕ) → 0 < length ds → all_ascii_digits ds ≡ true → begins_number (Ok (ds, rest)) ≡ true
    in_word [] some digits = absurd (omega arith)
    in_word (x ∷ ds) some digits = (and_parts (is_ascii_digit x) (all_ascii_digits ds) digits).0

-- a number is no word of one letter or more
pub number_is_other : (n x : ℕ) (name : List ℕ) → n < 2 ^ 64 → is_ascii_digit x ≡ false → bytes_eq (decimal n) (x ∷ name) ≡ false
number_is_other n x name h letter = in_word (decimal n) (decimal_nonempty n h) (digits_told n h)
  where
    distinct : (d : ℕ) → is_ascii_digit d ≡ true → (d == x) ≡ false
    distinct d h = grind (arith, nat_tests)

    in_word : (ds : List ℕ) → 0 < length ds → all_ascii_digits ds ≡ true → bytes_eq ds (x ∷ name) ≡ false
    in_word [] some digits = absurd (omega arith)
    in_word (d ∷ ds) some digits = ap (λ b. b && bytes_eq ds name) (distinct d (and_parts (is_ascii_digit d) (all_ascii_digits ds) digits).0)
