-- The definitions at small texts, by computation.
use Rattle.std.proofs.Common.{◌≡◌, true, false, List, [], ◌∷◌, ◌++◌, ℕ, refl, replicate}
use Rattle.std.specs.Prelude.{codes}
use Rattle.quoted_printable.specs.Pieces.{is_held}
use Rattle.quoted_printable.specs.Private.{goes_on}
use Rattle.quoted_printable.specs.QuotedPrintable.{decoding_of, encoding_of, soft_break}

crlf : List ℕ
crlf = 13 ∷ 10 ∷ []

-- ---- decoding

escapes_blanks_and_breaks : decoding_of (codes "a=3Db" ++ (32 ∷ 9 ∷ []) ++ crlf ++ codes "c=" ++ crlf ++ codes "d=4") ≡ codes "a=b" ++ crlf ++ codes "cd=4"
unfolding decoding_of crlf
escapes_blanks_and_breaks = refl

digits_of_either_case : decoding_of (codes "=c3=A4=C3=a4") ≡ 195 ∷ 164 ∷ 195 ∷ 164 ∷ []
unfolding decoding_of
digits_of_either_case = refl

other_equals_are_literal : decoding_of (codes "=G0 =0G ==41 =4=41 =4") ≡ codes "=G0 =0G =A =4A =4"
unfolding decoding_of
other_equals_are_literal = refl

-- a lone CR ends no line: blanks before it stay, and a `=` is literal
lone_cr_after_blank : decoding_of (codes "a " ++ (13 ∷ [])) ≡ codes "a " ++ (13 ∷ [])
unfolding decoding_of
lone_cr_after_blank = refl

lone_cr_after_equals : decoding_of (codes "a=" ++ (13 ∷ []) ++ codes "b") ≡ codes "a=" ++ (13 ∷ []) ++ codes "b"
unfolding decoding_of
lone_cr_after_equals = refl

-- blanks go first, so a soft break is one also with blanks behind it, while blanks before its `=` stay
blanks_after_soft_break : decoding_of (codes "a= " ++ (9 ∷ 10 ∷ []) ++ codes "b") ≡ codes "ab"
unfolding decoding_of
blanks_after_soft_break = refl

blanks_before_soft_break : decoding_of (codes "a =" ++ crlf ++ codes "b") ≡ codes "a b"
unfolding decoding_of crlf
blanks_before_soft_break = refl

-- a blank that was written with digits stays
written_blank_stays : decoding_of (codes "a=20" ++ (10 ∷ [])) ≡ codes "a " ++ (10 ∷ [])
unfolding decoding_of
written_blank_stays = refl

-- at the end of the text a soft break has no line break to go with; only the last `=` is one
soft_break_at_the_end : decoding_of (codes "a=") ≡ codes "a"
unfolding decoding_of
soft_break_at_the_end = refl

two_equals_at_the_end : decoding_of (codes "==") ≡ codes "="
unfolding decoding_of
two_equals_at_the_end = refl

blanks_at_the_end : decoding_of (codes "a  ") ≡ codes "a"
unfolding decoding_of
blanks_at_the_end = refl

breaks_stay : decoding_of (codes "a" ++ (10 ∷ []) ++ crlf ++ codes " " ++ (10 ∷ [])) ≡ codes "a" ++ (10 ∷ []) ++ crlf ++ (10 ∷ [])
unfolding decoding_of crlf
breaks_stay = refl

-- ---- encoding

a_line_of_76 : encoding_of (replicate 76 97) ≡ replicate 76 97
unfolding encoding_of
a_line_of_76 = refl

one_octet_more : encoding_of (replicate 77 97) ≡ replicate 75 97 ++ soft_break ++ codes "aa"
unfolding encoding_of
one_octet_more = refl

last_blank : encoding_of (codes "a ") ≡ codes "a=20"
unfolding encoding_of
last_blank = refl

-- only the last octet of all
two_last_blanks : encoding_of (codes "a" ++ (9 ∷ 32 ∷ [])) ≡ codes "a" ++ (9 ∷ []) ++ codes "=20"
unfolding encoding_of
two_last_blanks = refl

breaks_are_escaped : encoding_of crlf ≡ codes "=0D=0A"
unfolding encoding_of crlf
breaks_are_escaped = refl

every_kind : encoding_of (codes "a b=~!" ++ (127 ∷ 0 ∷ 255 ∷ [])) ≡ codes "a b=3D~!=7F=00=FF"
unfolding encoding_of
every_kind = refl

-- what fits is counted in octets of tokens
token_that_fits : encoding_of (replicate 73 97 ++ (32 ∷ [])) ≡ replicate 73 97 ++ codes "=20"
unfolding encoding_of
token_that_fits = refl

token_that_does_not_fit : encoding_of (replicate 74 97 ++ (32 ∷ [])) ≡ replicate 74 97 ++ soft_break ++ codes "=20"
unfolding encoding_of
token_that_does_not_fit = refl

-- no token is cut
token_for_the_next_line : encoding_of (replicate 73 97 ++ (61 ∷ 97 ∷ [])) ≡ replicate 73 97 ++ soft_break ++ codes "=3Da"
unfolding encoding_of
token_for_the_next_line = refl

nothing : encoding_of [] ≡ []
unfolding encoding_of
nothing = refl

-- ---- pieces

held_escape : is_held (codes "=3") ≡ true
held_escape = refl

held_soft_break : is_held (codes "= " ++ (9 ∷ 13 ∷ [])) ≡ true
held_soft_break = refl

held_blanks : is_held (32 ∷ 9 ∷ 13 ∷ []) ≡ true
held_blanks = refl

-- of these some octets are known: CR alone, a whole escape, octets before `=`, and what follows a CR or a digit
known_return : is_held (13 ∷ []) ≡ false
known_return = refl

known_escape : is_held (codes "=3D") ≡ false
known_escape = refl

known_blank : is_held (codes " =") ≡ false
known_blank = refl

known_after_return : goes_on (32 ∷ 13 ∷ []) 13 ≡ false
known_after_return = refl

known_after_digit : goes_on (codes "=3") 32 ≡ false
known_after_digit = refl
