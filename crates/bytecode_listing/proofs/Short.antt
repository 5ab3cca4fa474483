-- Comments are short.
use Rattle.std.proofs.Common.{◌≡◌, ℕ, zero, suc, ◌/◌, ◌%◌, ◌+◌, ◌*◌, ◌^◌, ◌<◌, ◌≤◌, ◌==◌, Bool, true, false, if◌then◌else◌, List, [], ◌∷◌, ◌++◌, length, take, Option, Some, None, refl, arith, leb-true, codes}
use Rattle.std.specs.Prelude.{nat_lt, nat_le, slice_get, option_map, option_and_then}
use Rattle.std.specs.List.{flat_map, list_all, filter_map, cons_option, enumerate_from}
use Rattle.std.specs.Fmt.{decimal, digit_glyph, digits, digits_onto}
use Rattle.std.proofs.lemmas.Bool.{and_parts}
use Rattle.std.proofs.lemmas.Fmt.{length-decimal-le}
use Rattle.std.proofs.lemmas.List.{length-append, length-take}
use Rattle.std.proofs.lemmas.List.Sums.{length-filter, count_by-le-length}
use Rattle.bytecode_format.specs.Code.{Code}
use Rattle.bytecode_format.specs.Operations.{operation_of}
use Rattle.bytecode_format.specs.declared.instruction.Instruction.{Instruction}
use Rattle.bytecode_format.specs.declared.operation.Operation.{Operation}
use Rattle.bytecode_format.specs.Spelling.{IsProgram}
use Rattle.bytecode_verifier.specs.Budget.{share_at}
use Rattle.bytecode_verifier.specs.Rows.{row_of}
use Rattle.bytecode_verifier.specs.declared.row.Range.{Range}
use Rattle.bytecode_verifier.specs.declared.row.Range.TheVariants as ranges
use Rattle.bytecode_verifier.specs.Loops.{Loop as Pair, is_open, loop_from, loops, open_loops}
use Rattle.bytecode_verifier.specs.declared.error.Refusal.{Refusal}
use Rattle.bytecode_verifier.specs.declared.error.Refusal.TheVariants.{Memory, Index, Form, End, Loop, Jump, NoPart, Stack}
use Rattle.bytecode_verifier.specs.declared.share.Share.{Share}
use Rattle.bytecode_verifier.proofs.Budgets.{cap_at_fits}
use Rattle.bytecode_listing.specs.declared.wording.Facet.TheVariants.{Match, Comparator, Scope, Selector}
use Rattle.bytecode_listing.specs.Wording.{words, word_of, both, match_words, scope_words, selection_words, counts_words, said_a}
use Rattle.bytecode_listing.specs.declared.comments.Table.{Table}
use Rattle.bytecode_listing.specs.declared.comments.Table.TheVariants.{Strings, Numbers, Instructions}
use Rattle.bytecode_listing.specs.Listing.{shown, table_of, entry_text, in_words, told, meant, comment, added, scaled_text, share_notes, refused_at, refusal_notes}
use Rattle.readable_text.specs.Quoted.{escaped_octet, is_plain, quoted, two_digits}

abbrev IsShort : Option (List ℕ) → Type 0
IsShort None = Unit {0}
IsShort (Some text) = length text ≤ 125

escaped_length : (octet : ℕ) → length (escaped_octet octet) ≤ 3
escaped_length octet = by_class (is_plain octet)
  where
    by_class : (b : Bool) → length (if b then octet ∷ [] else 92 ∷ two_digits octet) ≤ 3
    by_class true = omega arith
    by_class false = omega arith

octets_length : (octets : List ℕ) → length (flat_map escaped_octet octets) ≤ 3 * length octets
octets_length [] = omega arith
octets_length (octet ∷ octets) = omega (arith, length-append (escaped_octet octet) (flat_map escaped_octet octets), escaped_length octet, octets_length octets)

quoted_length : (octets : List ℕ) → length (quoted octets) ≤ 3 * length octets + 2
quoted_length octets = omega (arith, length-append (flat_map escaped_octet octets) (34 ∷ []), octets_length octets)

shown_length : (text : List ℕ) → length (shown text) ≤ 125
shown_length text = by_size (nat_le (length text) 40) refl
  where
    by_size : (b : Bool) → nat_le (length text) 40 ≡ b → length (if b then quoted text else quoted (take 40 text) ++ codes "...") ≤ 125
    by_size true e = omega (arith, quoted_length text, leb-true (length text) 40 e)
    by_size false e = omega (arith, length-append (quoted (take 40 text)) (codes "..."), quoted_length (take 40 text), length-take 40 text)

digits_length : (k n : ℕ) (text : List ℕ) → length (digits_onto k 10 false n text) ≤ k + length text
digits_length zero n text = omega arith
digits_length (suc k) n text = by_rest (n / 10 == 0) (digits_length k (n / 10) (digit_glyph false (n % 10) ∷ text))
  where
    by_rest : (b : Bool) → length (digits_onto k 10 false (n / 10) (digit_glyph false (n % 10) ∷ text)) ≤ k + length (digit_glyph false (n % 10) ∷ text)
        → length (if b then digit_glyph false (n % 10) ∷ text else digits_onto k 10 false (n / 10) (digit_glyph false (n % 10) ∷ text)) ≤ suc k + length text
    by_rest true h = omega arith
    by_rest false h = omega arith

decimal_length : (n : ℕ) → length (decimal n) ≤ 64
unfolding digits
decimal_length n = omega (arith, digits_length 64 n [])

entry_length : (code : Code) (place : ℕ) (table : Table) → IsShort (entry_text code place table)
entry_length code place Strings = found (slice_get code.strings place)
  where
    found : (o : Option (List ℕ)) → IsShort (option_map shown o)
    found None = tt
    found (Some text) = shown_length text
entry_length code place Numbers = found (slice_get code.numbers place)
  where
    found : (o : Option ℕ) → IsShort (option_map decimal o)
    found None = tt
    found (Some n) = omega (arith, decimal_length n)
entry_length code place Instructions = found (nat_lt place (length code.instructions))
  where
    found : (b : Bool) → IsShort (if b then Some (codes "to " ++ decimal place) else None)
    found true = omega (arith, decimal_length place)
    found false = tt

-- words
abbrev IsWithin : ℕ → Option (List ℕ) → Type 0
IsWithin most None = Unit {0}
IsWithin most (Some text) = length text ≤ most

one_of : (most : ℕ) (listed : List (List ℕ)) (n : ℕ) → list_all (λ word. nat_le (length word) most) listed ≡ true → IsWithin most (slice_get listed n)
one_of most [] n h = tt
one_of most (word ∷ listed) zero h = leb-true (length word) most (and_parts (nat_le (length word) most) (list_all (λ word. nat_le (length word) most) listed) h).0
one_of most (word ∷ listed) (suc n) h = one_of most listed n (and_parts (nat_le (length word) most) (list_all (λ word. nat_le (length word) most) listed) h).1

both_length : (m n : ℕ) (first second : Option (List ℕ)) → IsWithin m first → IsWithin n second → IsWithin (m + n + 1) (both first second)
both_length m n None second h k = tt
both_length m n (Some first) None h k = tt
both_length m n (Some first) (Some second) h k = omega (arith, length-append (first ++ codes " ") second, length-append first (codes " "))

match_length : (a : ℕ) → IsWithin 16 (match_words a)
match_length a = both_length 8 7 (word_of Match (a % 4)) (word_of Comparator (a / 4)) (one_of 8 (words Match) (a % 4) refl) (one_of 7 (words Comparator) (a / 4) refl)

scope_length : (a : ℕ) → IsWithin 19 (scope_words a)
scope_length a = both_length 7 11 (word_of Scope (a / 8 % 4)) (word_of Selector (a / 32)) (one_of 7 (words Scope) (a / 8 % 4) refl) (one_of 11 (words Selector) (a / 32) refl)

counts_length : (c : ℕ) → length (counts_words c) ≤ 85
counts_length c =
    let keys : c % 65536 < 65536 = omega arith in
    let few : length (decimal (c % 65536)) ≤ 5 = length-decimal-le 5 (c % 65536) (omega arith) (omega arith) (omega arith) in
    omega (
      arith,
      few,
      decimal_length (c / 65536),
      length-append (codes " c ") (decimal (c / 65536)),
      length-append (codes " c " ++ decimal (c / 65536)) (codes " params "),
      length-append (codes " c " ++ decimal (c / 65536) ++ codes " params ") (decimal (c % 65536)),
      length-append (codes " c " ++ decimal (c / 65536) ++ codes " params " ++ decimal (c % 65536)) (codes " keys"),
    )

with_rest : (most : ℕ) (text : Option (List ℕ)) (rest : List ℕ) → IsWithin most text → 2 + most + length rest ≤ 125 → IsShort (option_map (λ words. said_a words ++ rest) text)
with_rest most None rest h k = tt
with_rest most (Some words) rest h k = omega (arith, length-append (said_a words) rest)

words_length : (i : Instruction) (range : Range) → IsShort (in_words range i)
words_length i ranges.FieldTest = with_rest 36 (selection_words i.a) (counts_words i.c) (both_length 16 19 (match_words (i.a % 8)) (scope_words i.a) (match_length (i.a % 8)) (scope_length i.a)) (omega (arith, counts_length i.c))
words_length i ranges.Scope = with_rest 7 (word_of Scope i.a) [] (one_of 7 (words Scope) i.a refl) (omega arith)
words_length i ranges.Match = with_rest 16 (match_words i.a) [] (match_length i.a) (omega arith)
words_length i _ = tt

meant_length : (code : Code) (i : Instruction) → IsShort (meant code i)
meant_length code i = by_operation (operation_of i.op)
  where
    by_table : (operation : Operation) (table : Option Table) → IsShort (told code i operation table)
    by_table operation None = words_length i (row_of operation).a
    by_table operation (Some table) = entry_length code i.c table

    by_operation : (operation : Option Operation) → IsShort (option_and_then (λ o. told code i o (table_of o)) operation)
    by_operation None = tt
    by_operation (Some operation) = by_table operation (table_of operation)

pub comment_length : (code : Code) (i : Instruction) → length (comment (meant code i)) ≤ 128
comment_length code i = by_text (meant code i) (meant_length code i)
  where
    by_text : (text : Option (List ℕ)) → IsShort text → length (comment text) ≤ 128
    by_text None h = omega arith
    by_text (Some text) h = omega arith

-- ---- notes

-- no more loops are open than there are instructions
found_few : (f : ℕ × Instruction → Option Pair) (n : ℕ) (xs : List Instruction) → length (filter_map f (enumerate_from n xs)) ≤ length xs
found_few f n [] = omega arith
found_few f n (x ∷ xs) = by_found (f (n, x)) (filter_map f (enumerate_from (n + 1) xs)) (found_few f (n + 1) xs)
  where
    by_found : (o : Option Pair) (rest : List Pair) → length rest ≤ length xs → length (cons_option o rest) ≤ suc (length xs)
    by_found None rest h = omega arith
    by_found (Some y) rest h = omega arith

open_few : (code : Code) (place : ℕ) → length (open_loops code place) ≤ length code.instructions
open_few code place =
    omega (arith, length-filter (is_open place) (loops code), count_by-le-length (is_open place) (loops code), found_few (λ at. loop_from code.instructions at.0 at.1) 0 code.instructions)

added_length : (letter : List ℕ) (loops number : ℕ) → length letter ≡ 1 → loops < 10 ^ 5 → number < 10 ^ 15 → length (added letter loops number) ≤ 22
added_length letter loops number one few small =
    omega (
      arith,
      one,
      length-decimal-le 5 loops (omega arith) few (omega (arith, few)),
      length-decimal-le 15 number (omega arith) small (omega (arith, small)),
      length-append letter (decimal loops),
      length-append (letter ++ decimal loops) (codes "+"),
      length-append (letter ++ decimal loops ++ codes "+") (decimal number),
    )

scaled_length : (loops number : ℕ) → loops < 10 ^ 5 → number < 10 ^ 15 → length (scaled_text loops number) ≤ 23
scaled_length loops number few small = by_zero (number == 0) (added_length (codes "B") loops number refl few small)
  where
    by_zero : (b : Bool) → length (added (codes "B") loops number) ≤ 22 → length (if b then [] else codes " " ++ added (codes "B") loops number) ≤ 23
    by_zero true h = omega arith
    by_zero false h = omega (arith, h)

pub share_length : (code : Code) (place : ℕ) → IsProgram code → length (comment (share_notes code place)) ≤ 64
share_length code place program =
    let share : Share = share_at code place in
    let fits = cap_at_fits code program place in
    let few : share.loops < 10 ^ 5 = omega (arith, open_few code place, program.instructions) in
    omega (
      arith,
      length-append (added (codes "A") share.loops share.cap.fixed) (scaled_text share.loops share.cap.scaled),
      added_length (codes "A") share.loops share.cap.fixed refl few (omega (arith, fits.0)),
      scaled_length share.loops share.cap.scaled few (omega (arith, fits.1)),
    )

kind_brief : (number : ℕ) (name : List ℕ) → number < 10 ^ 2 → length name ≤ 10 → length (codes "refused " ++ decimal number ++ codes " " ++ name) ≤ 61
kind_brief number name few short =
    omega (
      arith,
      short,
      length-decimal-le 2 number (omega arith) few (omega (arith, few)),
      length-append (codes "refused ") (decimal number),
      length-append (codes "refused " ++ decimal number) (codes " "),
      length-append (codes "refused " ++ decimal number ++ codes " ") name,
    )

pub refusal_length : (refusal : Refusal) (place : ℕ) → length (comment (refusal_notes refusal place)) ≤ 64
refusal_length refusal place = by_place (refused_at refusal) (words_brief refusal)
  where
    AreBrief : Option (ℕ × List ℕ) → Type 0
    AreBrief None = Unit {0}
    AreBrief (Some at) = length at.1 ≤ 61

    words_brief : (refusal : Refusal) → AreBrief (refused_at refusal)
    words_brief Memory = tt
    words_brief (Index at) = kind_brief 21 (codes "Index") (omega arith) (omega arith)
    words_brief (Form at) = kind_brief 22 (codes "Form") (omega arith) (omega arith)
    words_brief (End at) = kind_brief 23 (codes "End") (omega arith) (omega arith)
    words_brief (Loop at) = kind_brief 24 (codes "Loop") (omega arith) (omega arith)
    words_brief (Jump at) = kind_brief 25 (codes "Jump") (omega arith) (omega arith)
    words_brief (NoPart at) = kind_brief 26 (codes "NoPart") (omega arith) (omega arith)
    words_brief (Stack at) = kind_brief 27 (codes "Stack") (omega arith) (omega arith)

    by_place : (o : Option (ℕ × List ℕ)) → AreBrief o → length (comment (option_and_then (λ at. if at.0 == place then Some at.1 else None) o)) ≤ 64
    by_place None h = omega arith
    by_place (Some at) h = chosen (at.0 == place)
      where
        chosen : (b : Bool) → length (comment (if b then Some at.1 else None)) ≤ 64
        chosen true = omega (arith, h)
        chosen false = omega arith
