-- How texts and words are read, octet by octet.
use Rattle.std.proofs.Common.{arith, ◌≡◌, ◌∙◌, ◌<◌, ◌≤◌, ap, refl, sym, subst, ℕ, suc, ◌+◌, Bool, true, false, List, [], ◌∷◌, ◌++◌, ◌==◌, Option, Some, None, map, take, drop, length, if◌then◌else◌}
use Rattle.std.proofs.lemmas.List.{drop_all, drop_more}
use Rattle.std.proofs.Math.ListN.{get_or}
use Rattle.std.proofs.lemmas.List.{append-nil, append_assoc}
use Rattle.std.specs.Borrow.{Bor}
use Rattle.std.proofs.lemmas.Bool.Decides.{nat_tests}
use Rattle.std.specs.Option.{option_map}
use Rattle.octets.specs.Escapes.{escape_at, octet_of_digits, said_at}
use Rattle.depot_batch.specs.Words.{Escape, Plain, before_first, ending, is_gap, is_quoted_after, said_before, said_from, texts_from, texts_of, with_word, word_in, words_in, words_of}
use Rattle.depot_batch.specs.Private.{parted, parted_at}

-- octets that begin with what ends a text
pub at_gap : (quoted : Bool) (octet : ℕ) (rest : List ℕ) → is_gap octet quoted ≡ true → texts_from quoted (octet ∷ rest) ≡ parted_at 0 (octet ∷ rest)
unfolding texts_from
at_gap quoted octet rest is = rw is refl

-- no more octets
pub at_end : (quoted : Bool) (rest : List ℕ) → rest ≡ [] → texts_from quoted rest ≡ parted_at 0 rest
unfolding texts_from
at_end quoted rest is = rw is refl

joined : (octet : ℕ) (text rest : List ℕ) → before_first (octet ∷ []) (parted text rest) ≡ parted (octet ∷ text) rest
joined octet text [] = refl
joined octet text (space ∷ rest) = refl

pub step : (quoted : Bool) (octet : ℕ) (rest : List ℕ) → is_gap octet quoted ≡ false
    → texts_from quoted (octet ∷ rest) ≡ before_first (octet ∷ []) (texts_from (is_quoted_after octet quoted) rest)
unfolding texts_from
step quoted octet rest other = rw other refl

-- one octet more before it
pub one_more : (quoted : Bool) (octet : ℕ) (rest : List ℕ) (len : ℕ) → is_gap octet quoted ≡ false
    → texts_from (is_quoted_after octet quoted) rest ≡ parted_at len rest
    → texts_from quoted (octet ∷ rest) ≡ parted_at (suc len) (octet ∷ rest)
one_more quoted octet rest len other later =
    step quoted octet rest other ∙ ap (before_first (octet ∷ [])) later ∙ joined octet (take len rest) (drop len rest)

-- what holds of the octets from a place on, with the octet there apart
pub from_place : (P : List ℕ → Type 0) (octets : List ℕ) (place : ℕ) → place < length octets
    → P (get_or octets place 0 ∷ drop (place + 1) octets) → P (drop place octets)
from_place P octets place within holds = subst P (sym (drop_more octets place 0 within)) holds

pub unequal : (a b : ℕ) → (a ≡ b → ⊥) → (a == b) ≡ false
unequal a b h = grind (arith, nat_tests)

-- ---- what texts say

-- what was said before what else is said
abbrev pub after_said : List ℕ → Option (List ℕ) → Option (List ℕ)
after_said said more = option_map (λ others. said ++ others) more

-- words before others
abbrev pub after_words : List (List ℕ) → Option (List (List ℕ)) → Option (List (List ℕ))
after_words words more = option_map (λ others. words ++ others) more

pub said_none : (rest : List ℕ) → rest ≡ [] → said_from Plain rest ≡ None
unfolding said_from
said_none rest is = rw is refl

pub said_end : (rest : List ℕ) → said_from Plain (34 ∷ rest) ≡ ending rest
unfolding said_from
said_end rest = refl

-- an octet that is said, if one is, before what the octets after it say
abbrev pub said_first : Option (ℕ × List ℕ) → Option (List ℕ)
said_first None = None
said_first (Some x) = said_before (Some x.0) (said_from Plain x.1)

by_digits : (octet : Option ℕ) (rest : List ℕ) → said_before octet (said_from Plain rest) ≡ said_first (option_map (λ o. (o, rest)) octet)
by_digits None rest = refl
by_digits (Some o) rest = refl

escape_said : (octets : List ℕ) → said_from Escape octets ≡ said_first (escape_at octets)
unfolding said_from
escape_said [] = refl
escape_said (one ∷ []) = refl
escape_said (high ∷ low ∷ rest) = by_digits (octet_of_digits high low) rest

by_octet : (slash : Bool) (octet : ℕ) (rest : List ℕ) → (if slash then said_from Escape rest else said_before (Some octet) (said_from Plain rest)) ≡ said_first (if slash then escape_at rest else Some (octet, rest))
by_octet true octet rest = escape_said rest
by_octet false octet rest = refl

no_quote : (octet : ℕ) (rest : List ℕ) → (octet == 34) ≡ false
    → said_from Plain (octet ∷ rest) ≡ (if octet == 92 then said_from Escape rest else said_before (Some octet) (said_from Plain rest))
unfolding said_from
no_quote octet rest quote = rw quote refl

-- what is said by an octet that is no quotation mark and by those after it
pub said_step : (octet : ℕ) (rest : List ℕ) → (octet ≡ 34 → ⊥) → said_from Plain (octet ∷ rest) ≡ said_first (said_at octet rest)
said_step octet rest other = no_quote octet rest (unequal octet 34 other) ∙ by_octet (octet == 92) octet rest

-- one octet more was said
pub said_one_more : (said : List ℕ) (octet : ℕ) (more : Option (List ℕ)) → after_said said (said_before (Some octet) more) ≡ after_said (said ++ octet ∷ []) more
said_one_more said octet None = refl
said_one_more said octet (Some others) = ap Some (sym (append_assoc said (octet ∷ []) others))

-- after what was said, an octet
pub said_goes_on : (said : List ℕ) (octets rest : List ℕ) (octet one : ℕ) (after later : List ℕ) → rest ≡ octet ∷ after → (octet ≡ 34 → ⊥)
    → Some (one, later) ≡ said_at octet after
    → said_from Plain octets ≡ after_said said (said_from Plain rest) → said_from Plain octets ≡ after_said (said ++ one ∷ []) (said_from Plain later)
said_goes_on said octets rest octet one after later is other says before =
    before ∙ ap (λ r. after_said said (said_from Plain r)) is ∙ ap (after_said said) (said_step octet after other ∙ ap said_first (sym says))
    ∙ said_one_more said one (said_from Plain later)

-- after what was said, what says nothing
pub said_stops : (said : List ℕ) (octets rest : List ℕ) (octet : ℕ) (after : List ℕ) → rest ≡ octet ∷ after → (octet ≡ 34 → ⊥) → None ≡ said_at octet after
    → said_from Plain octets ≡ after_said said (said_from Plain rest) → None ≡ said_from Plain octets
said_stops said octets rest octet after is other says before =
    sym (before ∙ ap (λ r. after_said said (said_from Plain r)) is ∙ ap (after_said said) (said_step octet after other ∙ ap said_first (sym says)))

-- after what was said, the quotation mark
pub said_ends : (said : List ℕ) (octets rest : List ℕ) (octet : ℕ) (after : List ℕ) → rest ≡ octet ∷ after → octet ≡ 34
    → said_from Plain octets ≡ after_said said (said_from Plain rest) → said_from Plain octets ≡ after_said said (ending after)
said_ends said octets rest octet after is quote before =
    before ∙ ap (λ r. after_said said (said_from Plain r)) (is ∙ ap (λ o. o ∷ after) quote) ∙ ap (after_said said) (said_end after)

-- after what was said, nothing
pub said_breaks : (said : List ℕ) (octets rest : List ℕ) → rest ≡ [] → said_from Plain octets ≡ after_said said (said_from Plain rest) → None ≡ said_from Plain octets
said_breaks said octets rest is before = sym (before ∙ ap (after_said said) (said_none rest is))

-- the quotation mark is the last octet, or another comes after it
pub ended : (said : List ℕ) (after : List ℕ) → length after ≡ 0 → after_said said (ending after) ≡ Some said
ended said [] none = ap Some (append-nil said)
ended said (o ∷ rest) none = absurd (omega (arith, none))

pub not_ended : (said : List ℕ) (after : List ℕ) → (length after ≡ 0 → ⊥) → after_said said (ending after) ≡ None
not_ended said [] some = absurd (some refl)
not_ended said (o ∷ rest) some = refl

-- one word more
pub word_one_more : (words : List (List ℕ)) (word : List ℕ) (more : Option (List (List ℕ))) → after_words words (with_word (Some word) more) ≡ after_words (words ++ word ∷ []) more
word_one_more words word None = refl
word_one_more words word (Some others) = ap Some (sym (append_assoc words (word ∷ []) others))

-- nothing is left after the end
pub nothing_from : (octets : List ℕ) (place : ℕ) → length octets ≤ place → drop place octets ≡ []
nothing_from octets place past = drop_all place octets past

pub words_step : (text : List ℕ) (texts : List (List ℕ)) → words_in (text ∷ texts) ≡ with_word (word_in text) (words_in texts)
unfolding words_in
words_step text texts = refl

pub words_none : words_in [] ≡ Some []
unfolding words_in
words_none = refl

-- what borrowed texts say, from a place on
abbrev pub words_from : List (Bor (List ℕ)) → ℕ → Option (List (List ℕ))
words_from texts place = words_in (map (λ t. t.now) (drop place texts))

-- after words, one that is one
pub words_go_on : (words : List (List ℕ)) (texts : List (Bor (List ℕ))) (place : ℕ) (d : Bor (List ℕ)) (word : List ℕ) → place < length texts → Some word ≡ word_in (get_or texts place d).now
    → (found : Option (List (List ℕ))) → found ≡ after_words words (words_from texts place) → found ≡ after_words (words ++ word ∷ []) (words_from texts (place + 1))
words_go_on words texts place d word within says found before =
    before ∙ ap (λ (r : List (Bor (List ℕ))). after_words words (words_in (map (λ t. t.now) r))) (drop_more texts place d within)
    ∙ ap (after_words words) (words_step (get_or texts place d).now (map (λ t. t.now) (drop (place + 1) texts)) ∙ ap (λ w. with_word w (words_from texts (place + 1))) (sym says))
    ∙ word_one_more words word (words_from texts (place + 1))

-- after words, a text that says none
pub words_stop : (words : List (List ℕ)) (texts : List (Bor (List ℕ))) (place : ℕ) (d : Bor (List ℕ)) → place < length texts → None ≡ word_in (get_or texts place d).now
    → (found : Option (List (List ℕ))) → found ≡ after_words words (words_from texts place) → None ≡ found
words_stop words texts place d within says found before = sym (
    before ∙ ap (λ (r : List (Bor (List ℕ))). after_words words (words_in (map (λ t. t.now) r))) (drop_more texts place d within)
    ∙ ap (after_words words) (words_step (get_or texts place d).now (map (λ t. t.now) (drop (place + 1) texts)) ∙ ap (λ w. with_word w (words_from texts (place + 1))) (sym says)))

-- after all words
pub words_end : (words : List (List ℕ)) (texts : List (Bor (List ℕ))) (place : ℕ) → length texts ≤ place
    → (found : Option (List (List ℕ))) → found ≡ after_words words (words_from texts place) → Some words ≡ found
words_end words texts place past found before =
    sym (before ∙ ap (λ (r : List (Bor (List ℕ))). after_words words (words_in (map (λ t. t.now) r))) (drop_all place texts past) ∙ ap (after_words words) words_none ∙ ap Some (append-nil words))

pub empty_len : (xs : List ℕ) → (length xs == 0) ≡ true → length xs ≡ 0
empty_len xs is = grind (arith, nat_tests, is)

pub some_len : (xs : List ℕ) → (length xs == 0) ≡ false → length xs ≡ 0 → ⊥
some_len xs is none = grind (arith, nat_tests, is, none)

same_words : (found : Option (List (List ℕ))) → after_words [] found ≡ found
same_words None = refl
same_words (Some words) = refl

-- before all words
pub words_begin : (words : List (List ℕ)) (texts : List (Bor (List ℕ))) (line : List ℕ) → words ≡ [] → map (λ t. t.now) texts ≡ texts_of line → words_of line ≡ after_words words (words_from texts 0)
words_begin words texts line none are = rw (none, are) (sym (same_words (words_in (texts_of line))))
