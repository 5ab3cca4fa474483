-- A string's token has at least two octets more than its value.
use Rattle.std.proofs.Common.{◌≡◌, ℕ, zero, suc, ◌+◌, ◌-◌, ◌≤◌, ◌==◌, ◌&&◌, Bool, true, false, if◌then◌else◌, List, [], ◌∷◌, inl, inr, refl, arith, length, take, drop, length-append, length-drop}
use Rattle.std.specs.List.{slice_range, flat_map}
use Rattle.std.proofs.lemmas.List.{length-take}
use Rattle.sieve_lexer.specs.Chain.{Chain}
use Rattle.sieve_lexer.specs.Strings.{IsCharacter, IsOpeningEnd, IsContentLine, IsClosingLine}
use Rattle.sieve_lexer.specs.Texts.{IsQuotedString, IsMultiLineString}
use Rattle.sieve_lexer.specs.Values.{inner, unescaped, onto_first, lines_of, unstuffed, string_value}
use Rattle.sieve_lexer.specs.declared.token.TokenKind.TheVariants.{QuotedString, MultiLineString}

-- ---- quoted strings

unescaped_fits : (text : List ℕ) → length (unescaped text) ≤ length text
unescaped_fits [] = omega arith
unescaped_fits (c ∷ []) = omega arith
unescaped_fits (c ∷ d ∷ rest) = step (c == 92) (unescaped_fits rest) (unescaped_fits (d ∷ rest))
  where
    step : (b : Bool) → length (unescaped rest) ≤ length rest → length (unescaped (d ∷ rest)) ≤ suc (length rest) → length (if b then d ∷ unescaped rest else c ∷ unescaped (d ∷ rest)) ≤ suc (suc (length rest))
    step true h k = omega (arith, h)
    step false h k = omega (arith, k)

inner_fits : (text : List ℕ) → length (inner text) ≤ length text - 2
inner_fits text = omega (arith, length-take (length text - 2) (drop 1 text))

-- ---- multi-line strings

-- the octets of lines
abbrev octets_of : List (List ℕ) → ℕ
octets_of [] = 0
octets_of (line ∷ lines) = length line + octets_of lines

-- no line is empty
abbrev AreSome : List (List ℕ) → Type 0
AreSome [] = Unit {0}
AreSome (line ∷ lines) = (1 ≤ length line) × AreSome lines

first_octets : (c : ℕ) (lines : List (List ℕ)) → octets_of (onto_first c lines) ≡ suc (octets_of lines)
first_octets c [] = refl
first_octets c (line ∷ lines) = omega arith

first_some : (c : ℕ) (lines : List (List ℕ)) → AreSome lines → AreSome (onto_first c lines)
first_some c [] h = (omega arith, tt)
first_some c (line ∷ lines) h = (omega arith, h.1)

lines_octets : (text : List ℕ) → octets_of (lines_of text) ≡ length text
lines_octets [] = refl
lines_octets (c ∷ rest) = step (c == 10) (lines_octets rest)
  where
    step : (b : Bool) → octets_of (lines_of rest) ≡ length rest → octets_of (if b then (c ∷ []) ∷ lines_of rest else onto_first c (lines_of rest)) ≡ suc (length rest)
    step true h = omega (arith, h)
    step false h = omega (arith, h, first_octets c (lines_of rest))

lines_some : (text : List ℕ) → AreSome (lines_of text)
lines_some [] = tt
lines_some (c ∷ rest) = step (c == 10) (lines_some rest)
  where
    step : (b : Bool) → AreSome (lines_of rest) → AreSome (if b then (c ∷ []) ∷ lines_of rest else onto_first c (lines_of rest))
    step true h = (omega arith, h)
    step false h = first_some c (lines_of rest) h

unstuffed_fits : (line : List ℕ) → length (unstuffed line) ≤ length line
unstuffed_fits [] = omega arith
unstuffed_fits (c ∷ []) = omega arith
unstuffed_fits (c ∷ d ∷ rest) = step ((c == 46) && (d == 46))
  where
    step : (b : Bool) → length (if b then d ∷ rest else c ∷ d ∷ rest) ≤ suc (suc (length rest))
    step true = omega arith
    step false = omega arith

all_unstuffed_fit : (lines : List (List ℕ)) → length (flat_map unstuffed lines) ≤ octets_of lines
all_unstuffed_fit [] = omega arith
all_unstuffed_fit (line ∷ lines) = omega (arith, length-append (unstuffed line) (flat_map unstuffed lines), unstuffed_fits line, all_unstuffed_fit lines)

-- each line that is left out was at least one octet
count_fits : (lines : List (List ℕ)) → AreSome lines → length lines ≤ octets_of lines
count_fits [] h = omega arith
count_fits (line ∷ lines) h = omega (arith, h.0, count_fits lines h.1)

front_fits : (n : ℕ) (lines : List (List ℕ)) → AreSome lines → octets_of (take n lines) + (length lines - n) ≤ octets_of lines
front_fits zero lines h = omega (arith, count_fits lines h)
front_fits (suc n) [] h = omega arith
front_fits (suc n) (line ∷ lines) h = omega (arith, front_fits n lines h.1)

inner_lines_fit : (lines : List (List ℕ)) (all : ℕ) → AreSome lines → octets_of lines ≡ all → 2 ≤ all → octets_of (inner lines) + 2 ≤ all
inner_lines_fit [] all h is some = omega (arith, some)
inner_lines_fit (line ∷ []) all h is some = omega (arith, some)
inner_lines_fit (line ∷ next ∷ lines) all h is some = omega (arith, is, h.0, front_fits (length (line ∷ next ∷ lines) - 2) (next ∷ lines) h.1)

-- ---- both

chain_forward : (Step : ℕ → ℕ → Type 0) → ((a b : ℕ) → Step a b → a ≤ b) → (ms : List ℕ) (a b : ℕ) → Chain Step ms a b → a ≤ b
chain_forward Step on [] a b h = omega (arith, h)
chain_forward Step on (m ∷ ms) a b h = omega (arith, on a m h.0, chain_forward Step on ms m b h.1)

module _ (s : List ℕ) where
  character_forward : (a b : ℕ) → IsCharacter s a b → a ≤ b
  character_forward a b (inl h) = omega (arith, h.0)
  character_forward a b (inr h) = omega (arith, h.0)

  line_forward : (a b : ℕ) → IsContentLine s a b → a ≤ b
  line_forward a b h = omega (arith, h.0.break, h.0.from)

  opening_forward : (a b : ℕ) → IsOpeningEnd s a b → a ≤ b
  opening_forward a b (inl h) = omega (arith, h.0)
  opening_forward a b (inr (inl h)) = omega (arith, h.0)
  opening_forward a b (inr (inr h)) = omega (arith, h.1.0, h.1.2.1.from)

  closing_forward : (a b : ℕ) → IsClosingLine s a b → a + 2 ≤ b
  closing_forward a b (_, inl h) = omega (arith, h.0)
  closing_forward a b (_, inr h) = omega (arith, h.0)

  pub quoted_fits : (a b : ℕ) → b ≤ length s → IsQuotedString s a b → a + (2 + length (string_value QuotedString (slice_range s a b))) ≤ b
  quoted_fits a b within h =
      let text = slice_range s a b in
      let size : length text ≡ b - a = omega (arith, length-take (b - a) (drop a s), length-drop a s) in
      let rest = h.1 in
      let forward : a + 1 ≤ rest.0 = chain_forward (IsCharacter s) character_forward rest.1.1.0 (a + 1) rest.0 rest.1.1.1 in
      omega (arith, size, forward, rest.1.0, unescaped_fits (inner text), inner_fits text)

  pub multi_line_fits : (a b : ℕ) → b ≤ length s → IsMultiLineString s a b → a + (2 + length (string_value MultiLineString (slice_range s a b))) ≤ b
  multi_line_fits a b within h =
      let text = slice_range s a b in
      let size : length text ≡ b - a = omega (arith, length-take (b - a) (drop a s), length-drop a s) in
      let opening = h.1.0 in
      let opened : opening.0 ≤ h.0 = opening_forward opening.0 h.0 opening.1.3 in
      let rest = h.1.1 in
      let lines : h.0 ≤ rest.0 = chain_forward (IsContentLine s) line_forward rest.1.0.0 h.0 rest.0 rest.1.0.1 in
      let closed : rest.0 + 2 ≤ b = closing_forward rest.0 b rest.1.1 in
      let some : 2 ≤ length text = omega (arith, size, opening.1.1, opened, lines, closed) in
      omega (arith, size, some, all_unstuffed_fit (inner (lines_of text)), inner_lines_fit (lines_of text) (length text) (lines_some text) (lines_octets text) some)
