-- Comments are skipped: what they say stands on one line.
use Rattle.std.proofs.Common.{◌≡◌, ℕ, zero, suc, ◌/◌, ◌%◌, ◌+◌, ◌==◌, ◌&&◌, ◌<◌, Bool, true, false, if◌then◌else◌, List, [], ◌∷◌, ◌++◌, length, take, Option, Some, None, refl, sym, ap, ◌∙◌, append_assoc, arith, codes}
use Rattle.std.specs.Prelude.{not, nat_lt, nat_le, slice_get, option_map, option_and_then}
use Rattle.std.specs.List.{flat_map, list_all}
use Rattle.std.specs.Fmt.{decimal, digit_glyph, digits, digits_onto}
use Rattle.std.proofs.lemmas.Bool.{and_parts}
use Rattle.std.proofs.lemmas.Bool.Decides.{nat_tests}
use Rattle.std.proofs.lemmas.List.Folds.{list_all-append}
use Rattle.bytecode_format.specs.Code.{Code}
use Rattle.bytecode_format.specs.Operations.{operation_of}
use Rattle.bytecode_format.specs.declared.instruction.Instruction.{Instruction}
use Rattle.bytecode_format.specs.declared.operation.Operation.{Operation}
use Rattle.bytecode_verifier.specs.Budget.{share_at}
use Rattle.bytecode_verifier.specs.Rows.{row_of}
use Rattle.bytecode_verifier.specs.declared.row.Range.{Range}
use Rattle.bytecode_verifier.specs.declared.row.Range.TheVariants as ranges
use Rattle.bytecode_verifier.specs.declared.error.Refusal.{Refusal}
use Rattle.bytecode_verifier.specs.declared.error.Refusal.TheVariants.{Memory, Index, Form, End, Loop, Jump, NoPart, Stack}
use Rattle.bytecode_verifier.specs.declared.share.Share.{Share}
use Rattle.bytecode_listing.specs.declared.wording.Facet.{Facet}
use Rattle.bytecode_listing.specs.declared.wording.Facet.TheVariants.{Match, Comparator, Scope, Selector}
use Rattle.bytecode_listing.specs.Wording.{words, word_of, both, match_words, scope_words, selection_words, counts_words, said_a}
use Rattle.bytecode_listing.specs.declared.comments.Table.{Table}
use Rattle.bytecode_listing.specs.declared.comments.Table.TheVariants.{Strings, Numbers, Instructions}
use Rattle.bytecode_listing.specs.Listing.{max_shown, shown, table_of, entry_text, in_words, told, meant, comment, added, scaled_text, share_text, share_notes, refused_at, refusal_notes}
use Rattle.readable_text.specs.Quoted.{escaped_octet, is_plain, quoted, two_digits}
use Rattle.bytecode_listing.specs.Tokens.{Comment, tokens_from, tokens_of}
use Rattle.bytecode_listing.proofs.Lexing.{after_white, after_semicolon, comment_ends, comment_goes_on}
use Rattle.bytecode_listing.proofs.Words.{Stops}

-- no LF
abbrev goes_on : ℕ → Bool
goes_on octet = not (octet == 10)

abbrev pub IsLine : List ℕ → Type 0
IsLine text = list_all goes_on text ≡ true

abbrev pub AreLines : Option (List ℕ) → Type 0
AreLines None = Unit {0}
AreLines (Some text) = IsLine text

appended : (x y : List ℕ) → IsLine x → IsLine y → IsLine (x ++ y)
appended x y h k = list_all-append goes_on x y ∙ ap (λ b. b && list_all goes_on y) h ∙ k

glyph : (d : ℕ) → goes_on (digit_glyph false d) ≡ true
glyph d = by_size (nat_lt d 10)
  where
    high : (n : ℕ) → 10 < n → goes_on n ≡ true
    high n h = grind (arith, nat_tests)

    by_size : (b : Bool) → goes_on (if b then 48 + d else 87 + d) ≡ true
    by_size true = high (48 + d) (omega arith)
    by_size false = high (87 + d) (omega arith)

escaped : (octet : ℕ) → IsLine (escaped_octet octet)
escaped octet = by_class (is_plain octet) refl
  where
    plain : is_plain octet ≡ true → goes_on octet ≡ true
    plain h = grind (arith, nat_tests)

    by_class : (b : Bool) → is_plain octet ≡ b → IsLine (if b then octet ∷ [] else 92 ∷ two_digits octet)
    by_class true e = ap (λ b. b && true) (plain e)
    by_class false e = ap (λ b. b && (goes_on (digit_glyph false (octet % 16)) && true)) (glyph (octet / 16)) ∙ ap (λ b. b && true) (glyph (octet % 16))

all_escaped : (octets : List ℕ) → IsLine (flat_map escaped_octet octets)
all_escaped [] = refl
all_escaped (octet ∷ octets) = appended (escaped_octet octet) (flat_map escaped_octet octets) (escaped octet) (all_escaped octets)

quoted_line : (octets : List ℕ) → IsLine (quoted octets)
quoted_line octets = appended (flat_map escaped_octet octets) (34 ∷ []) (all_escaped octets) refl

shown_line : (text : List ℕ) → IsLine (shown text)
shown_line text = by_size (nat_le (length text) max_shown)
  where
    by_size : (b : Bool) → IsLine (if b then quoted text else quoted (take max_shown text) ++ codes "...")
    by_size true = quoted_line text
    by_size false = appended (quoted (take max_shown text)) (codes "...") (quoted_line (take max_shown text)) refl

digits_line : (k n : ℕ) (text : List ℕ) → IsLine text → IsLine (digits_onto k 10 false n text)
digits_line zero n text h = h
digits_line (suc k) n text h =
    let more : IsLine (digit_glyph false (n % 10) ∷ text) = ap (λ b. b && list_all goes_on text) (glyph (n % 10)) ∙ h in
    by_rest (n / 10 == 0) more (digits_line k (n / 10) (digit_glyph false (n % 10) ∷ text) more)
  where
    by_rest : (b : Bool) → IsLine (digit_glyph false (n % 10) ∷ text) → IsLine (digits_onto k 10 false (n / 10) (digit_glyph false (n % 10) ∷ text))
        → IsLine (if b then digit_glyph false (n % 10) ∷ text else digits_onto k 10 false (n / 10) (digit_glyph false (n % 10) ∷ text))
    by_rest true h k = h
    by_rest false h k = k

decimal_line : (n : ℕ) → IsLine (decimal n)
unfolding digits
decimal_line n = digits_line 64 n [] refl

entry_line : (code : Code) (place : ℕ) (table : Table) → AreLines (entry_text code place table)
entry_line code place Strings = found (slice_get code.strings place)
  where
    found : (o : Option (List ℕ)) → AreLines (option_map shown o)
    found None = tt
    found (Some text) = shown_line text
entry_line code place Numbers = found (slice_get code.numbers place)
  where
    found : (o : Option ℕ) → AreLines (option_map decimal o)
    found None = tt
    found (Some n) = decimal_line n
entry_line code place Instructions = found (nat_lt place (length code.instructions))
  where
    found : (b : Bool) → AreLines (if b then Some (codes "to " ++ decimal place) else None)
    found true = decimal_line place
    found false = tt

-- words
one_of : (listed : List (List ℕ)) (n : ℕ) → list_all (list_all goes_on) listed ≡ true → AreLines (slice_get listed n)
one_of [] n h = tt
one_of (word ∷ listed) zero h = (and_parts (list_all goes_on word) (list_all (list_all goes_on) listed) h).0
one_of (word ∷ listed) (suc n) h = one_of listed n (and_parts (list_all goes_on word) (list_all (list_all goes_on) listed) h).1

word_line : (facet : Facet) (n : ℕ) → AreLines (word_of facet n)
word_line Match n = one_of (words Match) n refl
word_line Comparator n = one_of (words Comparator) n refl
word_line Scope n = one_of (words Scope) n refl
word_line Selector n = one_of (words Selector) n refl

both_line : (first second : Option (List ℕ)) → AreLines first → AreLines second → AreLines (both first second)
both_line None second h k = tt
both_line (Some first) None h k = tt
both_line (Some first) (Some second) h k = appended (first ++ codes " ") second (appended first (codes " ") h refl) k

match_line : (a : ℕ) → AreLines (match_words a)
match_line a = both_line (word_of Match (a % 4)) (word_of Comparator (a / 4)) (word_line Match (a % 4)) (word_line Comparator (a / 4))

scope_line : (a : ℕ) → AreLines (scope_words a)
scope_line a = both_line (word_of Scope (a / 8 % 4)) (word_of Selector (a / 32)) (word_line Scope (a / 8 % 4)) (word_line Selector (a / 32))

counts_line : (c : ℕ) → IsLine (counts_words c)
counts_line c =
    appended (codes " c " ++ decimal (c / 65536) ++ codes " params " ++ decimal (c % 65536)) (codes " keys")
    (appended (codes " c " ++ decimal (c / 65536) ++ codes " params ") (decimal (c % 65536))
    (appended (codes " c " ++ decimal (c / 65536)) (codes " params ") (appended (codes " c ") (decimal (c / 65536)) refl (decimal_line (c / 65536))) refl)
    (decimal_line (c % 65536)))
    refl

with_rest : (text : Option (List ℕ)) (rest : List ℕ) → AreLines text → IsLine rest → AreLines (option_map (λ words. said_a words ++ rest) text)
with_rest None rest h k = tt
with_rest (Some words) rest h k = appended (said_a words) rest (appended (codes "a ") words refl h) k

words_line : (i : Instruction) (range : Range) → AreLines (in_words range i)
words_line i ranges.FieldTest = with_rest (selection_words i.a) (counts_words i.c) (both_line (match_words (i.a % 8)) (scope_words i.a) (match_line (i.a % 8)) (scope_line i.a)) (counts_line i.c)
words_line i ranges.Scope = with_rest (word_of Scope i.a) [] (word_line Scope i.a) refl
words_line i ranges.Match = with_rest (match_words i.a) [] (match_line i.a) refl
words_line i _ = tt

meant_line : (code : Code) (i : Instruction) → AreLines (meant code i)
meant_line code i = by_operation (operation_of i.op)
  where
    by_table : (operation : Operation) (table : Option Table) → AreLines (told code i operation table)
    by_table operation None = words_line i (row_of operation).a
    by_table operation (Some table) = entry_line code i.c table

    by_operation : (operation : Option Operation) → AreLines (option_and_then (λ o. told code i o (table_of o)) operation)
    by_operation None = tt
    by_operation (Some operation) = by_table operation (table_of operation)

-- what follows a comment's LF
in_comment : (text rest : List ℕ) → IsLine text → tokens_from Comment (text ++ 10 ∷ rest) ≡ tokens_of rest
in_comment [] rest h = comment_ends rest
in_comment (x ∷ text) rest h =
    let parts = and_parts (goes_on x) (list_all goes_on text) h in
    comment_goes_on x (text ++ 10 ∷ rest) (other (x == 10) parts.0) ∙ in_comment text rest parts.1
  where
    other : (b : Bool) → not b ≡ true → b ≡ false
    other true h = absurd cc
    other false h = refl

skipped : (text : Option (List ℕ)) (rest : List ℕ) → AreLines text → tokens_of (comment text ++ 10 ∷ rest) ≡ tokens_of rest
skipped None rest h = after_white 10 rest refl
skipped (Some text) rest h =
    let said : List ℕ = 32 ∷ (text ++ 10 ∷ rest) in
    after_white 32 (59 ∷ said) refl ∙ after_semicolon said ∙ in_comment (32 ∷ text) rest h

comment_line : (text : Option (List ℕ)) → AreLines text → IsLine (comment text)
comment_line None h = refl
comment_line (Some text) h = h

-- two comments are one, since the second stands on the line of the first
both_skipped : (first second : Option (List ℕ)) (rest : List ℕ) → AreLines first → AreLines second → tokens_of (comment first ++ (comment second ++ 10 ∷ rest)) ≡ tokens_of rest
both_skipped None second rest h k = skipped second rest k
both_skipped (Some text) second rest h k =
    ap (λ (t : List ℕ). tokens_of (codes " ; " ++ t)) (sym (append_assoc text (comment second) (10 ∷ rest)))
    ∙ skipped (Some (text ++ comment second)) rest (appended text (comment second) h (comment_line second k))

pub comments_skipped : (code : Code) (i : Instruction) (note : Option (List ℕ)) (rest : List ℕ) → AreLines note → tokens_of (comment (meant code i) ++ (comment note ++ 10 ∷ rest)) ≡ tokens_of rest
comments_skipped code i note rest one = both_skipped (meant code i) note rest (meant_line code i) one

pub comments_stop : (first second : Option (List ℕ)) (rest : List ℕ) → Stops (comment first ++ (comment second ++ 10 ∷ rest))
comments_stop None None rest = refl
comments_stop None (Some text) rest = refl
comments_stop (Some text) second rest = refl

-- ---- notes

added_line : (letter : List ℕ) (loops number : ℕ) → IsLine letter → IsLine (added letter loops number)
added_line letter loops number h =
    appended (letter ++ decimal loops ++ codes "+") (decimal number)
    (appended (letter ++ decimal loops) (codes "+") (appended letter (decimal loops) h (decimal_line loops)) refl)
    (decimal_line number)

scaled_line : (loops number : ℕ) → IsLine (scaled_text loops number)
scaled_line loops number = by_zero (number == 0)
  where
    by_zero : (b : Bool) → IsLine (if b then [] else codes " " ++ added (codes "B") loops number)
    by_zero true = refl
    by_zero false = added_line (codes "B") loops number refl

pub share_text_line : (share : Share) → IsLine (share_text share)
share_text_line share =
    appended (added (codes "A") share.loops share.cap.fixed) (scaled_text share.loops share.cap.scaled)
    (added_line (codes "A") share.loops share.cap.fixed refl) (scaled_line share.loops share.cap.scaled)

pub share_line : (code : Code) (place : ℕ) → AreLines (share_notes code place)
share_line code place = share_text_line (share_at code place)

kind_line : (number : ℕ) (name : List ℕ) → IsLine name → IsLine (codes "refused " ++ decimal number ++ codes " " ++ name)
kind_line number name h =
    appended (codes "refused " ++ decimal number ++ codes " ") name
    (appended (codes "refused " ++ decimal number) (codes " ") (appended (codes "refused ") (decimal number) refl (decimal_line number)) refl)
    h

pub refusal_line : (refusal : Refusal) (place : ℕ) → AreLines (refusal_notes refusal place)
refusal_line refusal place = by_place (refused_at refusal) (words_line_of refusal)
  where
    AreWords : Option (ℕ × List ℕ) → Type 0
    AreWords None = Unit {0}
    AreWords (Some at) = IsLine at.1

    words_line_of : (refusal : Refusal) → AreWords (refused_at refusal)
    words_line_of Memory = tt
    words_line_of (Index at) = kind_line _ (codes "Index") refl
    words_line_of (Form at) = kind_line _ (codes "Form") refl
    words_line_of (End at) = kind_line _ (codes "End") refl
    words_line_of (Loop at) = kind_line _ (codes "Loop") refl
    words_line_of (Jump at) = kind_line _ (codes "Jump") refl
    words_line_of (NoPart at) = kind_line _ (codes "NoPart") refl
    words_line_of (Stack at) = kind_line _ (codes "Stack") refl

    by_place : (o : Option (ℕ × List ℕ)) → AreWords o → AreLines (option_and_then (λ at. if at.0 == place then Some at.1 else None) o)
    by_place None h = tt
    by_place (Some at) h = chosen (at.0 == place)
      where
        chosen : (b : Bool) → AreLines (if b then Some at.1 else None)
        chosen true = h
        chosen false = tt
