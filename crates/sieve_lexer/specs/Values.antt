-- What numbers and strings stand for (RFC 5228, sections 2.4.1 and 2.4.2).
use Rattle.std.specs.Prelude.{ℕ, ◌+◌, ◌-◌, ◌*◌, ◌^◌, Bool, ◌==◌, ◌||◌, ◌&&◌, if◌then◌else◌, List, [], ◌∷◌, length, take, drop, nat_lt, Option, Some, None, fold, flat_map}
use Rattle.std.specs.List.{prefix_len}
use Rattle.std.specs.Char.{is_ascii_digit, to_ascii_lowercase}
use Rattle.sieve_lexer.specs.declared.token.TokenKind.{TokenKind}
use Rattle.sieve_lexer.specs.declared.token.TokenKind.TheVariants.{MultiLineString}

-- K, M or G, in either case
abbrev pub is_unit : ℕ → Bool
is_unit octet = (to_ascii_lowercase octet == 107)
    || ((to_ascii_lowercase octet == 109) || (to_ascii_lowercase octet == 103))

-- what K, M and G multiply by
abbrev pub unit_value : ℕ → ℕ
unit_value octet = if to_ascii_lowercase octet == 107 then 2 ^ 10 else (if to_ascii_lowercase octet == 109 then 2 ^ 20 else
    (if to_ascii_lowercase octet == 103 then 2 ^ 30 else 1))

-- the number that decimal digits spell, the highest digit first
abbrev pub decimal_value : List ℕ → ℕ
decimal_value digits = fold (λ n d. 10 * n + (d - 48)) 0 digits

-- what a number's suffix multiplies by
abbrev pub suffix_value : List ℕ → ℕ
suffix_value [] = 1
suffix_value (c ∷ cs) = unit_value c

-- the value of a number's text: its digits times its suffix
abbrev pub number_value : List ℕ → ℕ
number_value text = let n = prefix_len is_ascii_digit text in decimal_value (take n text) * suffix_value (drop n text)

-- a number that 64 bits hold, or nothing
abbrev pub below_limit : ℕ → Option ℕ
below_limit n = if nat_lt n (2 ^ 64) then Some n else None

-- a list without its first and its last element
abbrev pub inner : {A : Type 0} → List A → List A
inner xs = take (length xs - 2) (drop 1 xs)

-- the octets, where a backslash stands for the octet after it
abbrev pub unescaped : List ℕ → List ℕ
unescaped [] = []
unescaped (c ∷ []) = c ∷ []
unescaped (c ∷ d ∷ rest) = if c == 92 then d ∷ unescaped rest else c ∷ unescaped (d ∷ rest)

-- the lines of a text, each with its break, and what stands after the last break where there is something
abbrev pub onto_first : ℕ → List (List ℕ) → List (List ℕ)
onto_first c [] = (c ∷ []) ∷ []
onto_first c (line ∷ lines) = (c ∷ line) ∷ lines

abbrev pub lines_of : List ℕ → List (List ℕ)
lines_of [] = []
lines_of (c ∷ rest) = if c == 10 then (c ∷ []) ∷ lines_of rest else onto_first c (lines_of rest)

-- a line without its first dot, where another dot follows
abbrev pub unstuffed : List ℕ → List ℕ
unstuffed [] = []
unstuffed (c ∷ []) = c ∷ []
unstuffed (c ∷ d ∷ rest) = if (c == 46) && (d == 46) then d ∷ rest else c ∷ d ∷ rest

-- the value of a string's text: of a multi-line string the lines between the first and the last one, unstuffed;
-- of a quoted string what stands between the quotes, unescaped
abbrev pub string_value : TokenKind → List ℕ → List ℕ
string_value MultiLineString text = flat_map unstuffed (inner (lines_of text))
string_value _ text = unescaped (inner text)
