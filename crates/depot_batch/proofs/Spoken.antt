-- A line of texts that write words has these words.
use Rattle.std.proofs.Common.{◌≡◌, ◌∙◌, ◌<◌, ◌/◌, ◌%◌, ◌==◌, ◌&&◌, ◌||◌, ap, refl, sym, subst, ℕ, Bool, true, false, List, [], ◌∷◌, ◌++◌, Some, inl, inr, map, if◌then◌else◌, append_assoc, append-nil, arith}
use Rattle.std.specs.Prelude.{not, nat_le}
use Rattle.std.specs.List.{All, list_any}
use Rattle.std.specs.Fmt.{digit_glyph}
use Rattle.std.proofs.lemmas.List.Concat.{flat_map-cons}
use Rattle.std.proofs.lemmas.List.Elements.{All-append, All-cons, All-head, All-nil, All-tail}
use Rattle.std.proofs.lemmas.Bool.{agree_below_at}
use Rattle.octets.specs.Escapes.{octet_of_digits}
use Rattle.octets.proofs.Digits.{both_digits}
use Rattle.printing.specs.Printed.{escaped, escaped_octet, is_plain, quoted}
use Rattle.printing.specs.declared.piece.Setting.TheVariants.{Quotes}
use Rattle.depot_batch.specs.Words.{IsBare, Plain, Writes, before_first, is_gap, is_quote, is_quoted_after, said_before, said_from, spaced, texts_from, texts_of, with_word, word_in, words_in, words_of}
use Rattle.depot_batch.proofs.WordLemmas.{said_end, step, words_none, words_step}

-- ---- texts

joined_once : (octet : ℕ) (text : List ℕ) (texts : List (List ℕ)) → before_first (octet ∷ []) (before_first text texts) ≡ before_first (octet ∷ text) texts
joined_once octet text [] = refl
joined_once octet text (next ∷ texts) = refl

nothing_first : (text : List ℕ) (texts : List (List ℕ)) → before_first [] (before_first text texts) ≡ before_first text texts
nothing_first text [] = refl
nothing_first text (next ∷ texts) = refl

empty_first : (quoted : Bool) (octets : List ℕ) → before_first [] (texts_from quoted octets) ≡ texts_from quoted octets
unfolding texts_from
empty_first quoted [] = refl
empty_first quoted (octet ∷ rest) = by_gap (is_gap octet quoted)
  where
    by_gap : (b : Bool) → before_first [] (if b then [] ∷ texts_from false rest else before_first (octet ∷ []) (texts_from (is_quoted_after octet quoted) rest))
        ≡ (if b then [] ∷ texts_from false rest else before_first (octet ∷ []) (texts_from (is_quoted_after octet quoted) rest))
    by_gap true = refl
    by_gap false = nothing_first (octet ∷ []) (texts_from (is_quoted_after octet quoted) rest)

no_gap : (b : Bool) → (b && not true) ≡ false
no_gap true = refl
no_gap false = refl

stays_quoted : (octet : ℕ) → is_quote octet ≡ false → is_quoted_after octet true ≡ true
stays_quoted octet h = rw h refl

stays_bare : (octet : ℕ) → is_quote octet ≡ false → is_quoted_after octet false ≡ false
stays_bare octet h = rw h refl

-- octets in quotes that are no quotation mark
in_quotes : (text rest : List ℕ) → All (λ octet. is_quote octet ≡ false) text → texts_from true (text ++ rest) ≡ before_first text (texts_from true rest)
in_quotes [] rest all = sym (empty_first true rest)
in_quotes (octet ∷ text) rest all =
    step true octet (text ++ rest) (no_gap (octet == 32))
    ∙ ap (λ q. before_first (octet ∷ []) (texts_from q (text ++ rest))) (stays_quoted octet (All-head (λ o. is_quote o ≡ false) octet text all))
    ∙ ap (before_first (octet ∷ [])) (in_quotes text rest (All-tail (λ o. is_quote o ≡ false) octet text all))
    ∙ joined_once octet text (texts_from true rest)

-- octets in no quotes that are neither a space nor a quotation mark
abbrev IsBareOctet : ℕ → Type 0
IsBareOctet octet = ((octet == 32) ≡ false) × (is_quote octet ≡ false)

in_no_quotes : (text rest : List ℕ) → All IsBareOctet text → texts_from false (text ++ rest) ≡ before_first text (texts_from false rest)
in_no_quotes [] rest all = sym (empty_first false rest)
in_no_quotes (octet ∷ text) rest all =
    let bare = All-head IsBareOctet octet text all in
    step false octet (text ++ rest) (ap (λ b. b && not false) bare.0)
    ∙ ap (λ q. before_first (octet ∷ []) (texts_from q (text ++ rest))) (stays_bare octet bare.1)
    ∙ ap (before_first (octet ∷ [])) (in_no_quotes text rest (All-tail IsBareOctet octet text all))
    ∙ joined_once octet text (texts_from false rest)

-- ---- digits

denied : (b : Bool) → not b ≡ true → b ≡ false
denied true h = absurd cc
denied false h = refl

is_unquoted_glyph : ℕ → Bool
is_unquoted_glyph d = not (is_quote (digit_glyph false d))

unquoted_glyph : (d : ℕ) → d < 16 → is_quote (digit_glyph false d) ≡ false
unfolding is_unquoted_glyph
unquoted_glyph d h = denied (is_quote (digit_glyph false d)) (agree_below_at is_unquoted_glyph (λ _. true) 16 d refl h)

-- ---- what is said

-- what an octet that is printed as it is, is not
neither : (a b : Bool) → (let c : Bool = a && not b in c) ≡ true → b ≡ false
neither true true h = absurd cc
neither true false h = refl
neither false b h = absurd cc

either_false : (a b : Bool) → (a || b) ≡ false → (a ≡ false) × (b ≡ false)
either_false true b h = absurd cc
either_false false true h = absurd cc
either_false false false h = (refl, refl)

plain_octet : (octet : ℕ) → is_plain Quotes octet ≡ true → (is_quote octet ≡ false) × ((octet == 92) ≡ false)
plain_octet octet h = either_false (octet == 34) (octet == 92) (neither (nat_le 32 octet && nat_le octet 126) (octet == 34 || octet == 92) h)

-- the octets of an escape are no quotation marks
escaped_apart : (octet : ℕ) → octet < 256 → All (λ o. is_quote o ≡ false) (escaped_octet Quotes octet)
escaped_apart octet h = by_plain (is_plain Quotes octet) refl
  where
    by_plain : (b : Bool) → is_plain Quotes octet ≡ b
        → All (λ o. is_quote o ≡ false) (if b then octet ∷ [] else 92 ∷ digit_glyph false (octet / 16) ∷ digit_glyph false (octet % 16) ∷ [])
    by_plain true e = All-cons (λ o. is_quote o ≡ false) octet [] (plain_octet octet e).0 (All-nil (λ o. is_quote o ≡ false))
    by_plain false e =
        All-cons (λ o. is_quote o ≡ false) 92 (digit_glyph false (octet / 16) ∷ digit_glyph false (octet % 16) ∷ []) refl
        (All-cons (λ o. is_quote o ≡ false) (digit_glyph false (octet / 16)) (digit_glyph false (octet % 16) ∷ []) (unquoted_glyph (octet / 16) (omega arith))
        (All-cons (λ o. is_quote o ≡ false) (digit_glyph false (octet % 16)) [] (unquoted_glyph (octet % 16) (omega arith)) (All-nil (λ o. is_quote o ≡ false))))

all_apart : (word : List ℕ) → All (λ octet. octet < 256) word → All (λ o. is_quote o ≡ false) (escaped Quotes word)
all_apart [] h = All-nil (λ o. is_quote o ≡ false)
all_apart (octet ∷ word) h =
    subst (All (λ o. is_quote o ≡ false)) (sym (flat_map-cons (escaped_octet Quotes) octet word))
    (All-append (λ o. is_quote o ≡ false) (escaped_octet Quotes octet) (escaped Quotes word)
    (escaped_apart octet (All-head (λ o. o < 256) octet word h)) (all_apart word (All-tail (λ o. o < 256) octet word h)))

no_quote : (octet : ℕ) (rest : List ℕ) → is_quote octet ≡ false → (octet == 92) ≡ false → said_from Plain (octet ∷ rest) ≡ said_before (Some octet) (said_from Plain rest)
unfolding said_from
no_quote octet rest quote slash = rw (quote, slash) refl

slash_first : (high low : ℕ) (rest : List ℕ) → said_from Plain (92 ∷ high ∷ low ∷ rest) ≡ said_before (octet_of_digits high low) (said_from Plain rest)
unfolding said_from
slash_first high low rest = refl

-- an octet among others says itself
said_one : (octet : ℕ) (rest : List ℕ) → octet < 256 → said_from Plain (escaped_octet Quotes octet ++ rest) ≡ said_before (Some octet) (said_from Plain rest)
said_one octet rest h = by_plain (is_plain Quotes octet) refl
  where
    by_plain : (b : Bool) → is_plain Quotes octet ≡ b
        → said_from Plain ((if b then octet ∷ [] else 92 ∷ digit_glyph false (octet / 16) ∷ digit_glyph false (octet % 16) ∷ []) ++ rest) ≡ said_before (Some octet) (said_from Plain rest)
    by_plain true e = let plain = plain_octet octet e in no_quote octet rest plain.0 plain.1
    by_plain false e =
        slash_first (digit_glyph false (octet / 16)) (digit_glyph false (octet % 16)) rest
        ∙ ap (λ o. said_before o (said_from Plain rest)) (both_digits octet h)

said_all : (word : List ℕ) → All (λ octet. octet < 256) word → said_from Plain (escaped Quotes word ++ 34 ∷ []) ≡ Some word
said_all [] h = said_end []
said_all (octet ∷ word) h =
    ap (λ t. said_from Plain (t ++ 34 ∷ [])) (flat_map-cons (escaped_octet Quotes) octet word)
    ∙ ap (said_from Plain) (append_assoc (escaped_octet Quotes octet) (escaped Quotes word) (34 ∷ []))
    ∙ said_one octet (escaped Quotes word ++ 34 ∷ []) (All-head (λ o. o < 256) octet word h)
    ∙ ap (said_before (Some octet)) (said_all word (All-tail (λ o. o < 256) octet word h))

none_any : (word : List ℕ) → All IsBareOctet word → list_any is_quote word ≡ false
none_any [] h = refl
none_any (octet ∷ word) h = rw ((All-head IsBareOctet octet word h).1, none_any word (All-tail IsBareOctet octet word h)) refl

bare_says : (word : List ℕ) → IsBare word → word_in word ≡ Some word
bare_says [] bare = absurd (bare.some refl)
bare_says (octet ∷ word) bare =
    rw ((All-head IsBareOctet octet word bare.plain).1, none_any word (All-tail IsBareOctet octet word bare.plain)) refl

-- a text says the word that it writes
word_says : (text word : List ℕ) → Writes text word → All (λ octet. octet < 256) word → word_in text ≡ Some word
word_says text word (inl is) h = ap word_in is ∙ said_all word h
word_says text word (inr bare) h = ap word_in bare.0 ∙ bare_says word bare.1

-- ---- lines

between : (text : List ℕ) (texts : List (List ℕ)) → before_first (34 ∷ []) (before_first text (before_first (34 ∷ []) texts)) ≡ before_first (34 ∷ (text ++ 34 ∷ [])) texts
between text [] = refl
between text (next ∷ texts) = ap (λ (t : List ℕ). (34 ∷ t) ∷ texts) (sym (append_assoc text (34 ∷ []) next))

quoted_text : (word rest : List ℕ) → All (λ octet. octet < 256) word → texts_from false (quoted word ++ rest) ≡ before_first (quoted word) (texts_from false rest)
quoted_text word rest h =
    step false 34 ((escaped Quotes word ++ 34 ∷ []) ++ rest) refl
    ∙ ap (λ (t : List ℕ). before_first (34 ∷ []) (texts_from true t)) (append_assoc (escaped Quotes word) (34 ∷ []) rest)
    ∙ ap (before_first (34 ∷ [])) (in_quotes (escaped Quotes word) (34 ∷ rest) (all_apart word h) ∙ ap (before_first (escaped Quotes word)) (step true 34 rest refl))
    ∙ between (escaped Quotes word) (texts_from false rest)

written_text : (text word rest : List ℕ) → Writes text word → All (λ octet. octet < 256) word → texts_from false (text ++ rest) ≡ before_first text (texts_from false rest)
written_text text word rest (inl is) h =
    ap (λ (t : List ℕ). texts_from false (t ++ rest)) is ∙ quoted_text word rest h ∙ ap (λ t. before_first t (texts_from false rest)) (sym is)
written_text text word rest (inr bare) h =
    in_no_quotes text rest (subst (All IsBareOctet) (sym bare.0) bare.1.plain)

at_space : (rest : List ℕ) → texts_from false (32 ∷ rest) ≡ [] ∷ texts_from false rest
unfolding texts_from
at_space rest = refl

at_end : texts_from false [] ≡ [] ∷ []
unfolding texts_from
at_end = refl

abbrev IsWritten : List ℕ × List ℕ → Type 0
IsWritten w = Writes w.0 w.1 × All (λ octet. octet < 256) w.1

spaced_step : (text next : List ℕ) (texts : List (List ℕ)) → spaced text (next ∷ texts) ≡ text ++ 32 ∷ spaced next texts
unfolding spaced
spaced_step text next texts = refl

spaced_last : (text : List ℕ) → spaced text [] ≡ text
unfolding spaced
spaced_last text = refl

texts_are : (first : List ℕ × List ℕ) (others : List (List ℕ × List ℕ)) → All IsWritten (first ∷ others)
    → texts_of (spaced first.0 (map (λ w. w.0) others)) ≡ map (λ w. w.0) (first ∷ others)
texts_are first [] h =
    let written = All-head IsWritten first [] h in
    ap texts_of (spaced_last first.0 ∙ sym (append-nil first.0))
    ∙ written_text first.0 first.1 [] written.0 written.1
    ∙ ap (before_first first.0) at_end
    ∙ ap (λ (t : List ℕ). t ∷ []) (append-nil first.0)
texts_are first (next ∷ others) h =
    let written = All-head IsWritten first (next ∷ others) h in
    ap texts_of (spaced_step first.0 next.0 (map (λ w. w.0) others))
    ∙ written_text first.0 first.1 (32 ∷ spaced next.0 (map (λ w. w.0) others)) written.0 written.1
    ∙ ap (before_first first.0) (at_space (spaced next.0 (map (λ w. w.0) others)))
    ∙ ap (λ (t : List ℕ). t ∷ texts_of (spaced next.0 (map (λ w. w.0) others))) (append-nil first.0)
    ∙ ap (λ (ts : List (List ℕ)). first.0 ∷ ts) (texts_are next others (All-tail IsWritten first (next ∷ others) h))

words_are : (written : List (List ℕ × List ℕ)) → All IsWritten written → words_in (map (λ w. w.0) written) ≡ Some (map (λ w. w.1) written)
words_are [] h = words_none
words_are (first ∷ others) h =
    let written = All-head IsWritten first others h in
    words_step first.0 (map (λ w. w.0) others)
    ∙ ap (λ w. with_word w (words_in (map (λ w. w.0) others))) (word_says first.0 first.1 written.0 written.1)
    ∙ ap (with_word (Some first.1)) (words_are others (All-tail IsWritten first others h))

-- a line of texts that write words has these words
pub line_says : (first : List ℕ × List ℕ) (others : List (List ℕ × List ℕ)) → All IsWritten (first ∷ others)
    → words_of (spaced first.0 (map (λ w. w.0) others)) ≡ Some (map (λ w. w.1) (first ∷ others))
line_says first others h = ap words_in (texts_are first others h) ∙ words_are (first ∷ others) h
