-- A script has at least as many octets as its tree stands for.
use Rattle.std.proofs.Common.{◌≡◌, ℕ, ◌+◌, ◌<◌, ◌≤◌, List, [], ◌∷◌, ◌++◌, refl, ◌∙◌, ap, inl, inr, arith, length}
use Rattle.std.specs.List.{slice_range}
use Rattle.sieve_lexer.specs.Chain.{Chain}
use Rattle.sieve_lexer.specs.Separators.{IsSeparator, IsGap}
use Rattle.sieve_lexer.specs.Tokens.{TokensUpTo, AreTokens}
use Rattle.sieve_lexer.specs.Texts.{IsTextOf}
use Rattle.sieve_lexer.specs.declared.token.Token.{Token}
use Rattle.sieve_lexer.specs.declared.token.TokenKind.{TokenKind}
use Rattle.sieve_lexer.specs.declared.token.TokenKind.TheVariants.{QuotedString, MultiLineString}
use Rattle.sieve_lexer.proofs.Extent.{quoted_fits, multi_line_fits}
use Rattle.sieve_parser.specs.Grammar.{Placed, commands_spelled, lexemes_placed}
use Rattle.sieve_parser.specs.Lexemes.{Lexeme, identifier, tag, number, string, semicolon, comma, opening_brace, closing_brace, opening_parenthesis, closing_parenthesis, opening_bracket, closing_bracket, lexeme_of, lexemes_from, lexemes}
use Rattle.sieve_parser.specs.Scripts.{IsParsed}
use Rattle.sieve_parser.specs.Tree.{CommandsTree}

-- how many octets a lexeme stands for, at least: a string those of its value and two more, anything else one
abbrev pub lexeme_octets : Lexeme → ℕ
lexeme_octets (string s) = 2 + length s
lexeme_octets (identifier n name) = 1
lexeme_octets (tag name) = 1
lexeme_octets (number n) = 1
lexeme_octets semicolon = 1
lexeme_octets comma = 1
lexeme_octets opening_brace = 1
lexeme_octets closing_brace = 1
lexeme_octets opening_parenthesis = 1
lexeme_octets closing_parenthesis = 1
lexeme_octets opening_bracket = 1
lexeme_octets closing_bracket = 1

abbrev lexemes_octets : List Lexeme → ℕ
lexemes_octets [] = 0
lexemes_octets (l ∷ ls) = lexeme_octets l + lexemes_octets ls

module _ (s : List ℕ) where
  separator_forward : (a b : ℕ) → IsSeparator s a b → a ≤ b
  separator_forward a b (inl h) = omega (arith, h.0)
  separator_forward a b (inr (inl h)) = h.1.from
  separator_forward a b (inr (inr (c, h))) = omega (arith, h.0, h.1)

  chain_forward : (ms : List ℕ) (a b : ℕ) → Chain (IsSeparator s) ms a b → a ≤ b
  chain_forward [] a b h = omega (arith, h)
  chain_forward (m ∷ ms) a b h = omega (arith, separator_forward a m h.0, chain_forward ms m b h.1)

  gap_forward : (a b : ℕ) → IsGap s a b → a ≤ b
  gap_forward a b h = chain_forward h.0 a b h.1

  other_fits : (a b : ℕ) → a < b → a + 1 ≤ b
  other_fits a b some = omega (arith, some)

  -- what is read of a token
  lexeme_fits : (kind : TokenKind) (n a b : ℕ) → a < b → b ≤ length s → IsTextOf kind s a b → a + lexeme_octets (lexeme_of kind n (slice_range s a b)) ≤ b
  lexeme_fits QuotedString n a b some within h = quoted_fits s a b within h
  lexeme_fits MultiLineString n a b some within h = multi_line_fits s a b within h
  lexeme_fits _ n a b some within h = other_fits a b some

  tokens_forward : (ts : List Token) (n a b : ℕ) → TokensUpTo s a ts b → a + lexemes_octets (lexemes_from s n ts) ≤ b
  tokens_forward [] n a b h = omega (arith, h)
  tokens_forward (t ∷ ts) n a b h =
      omega (arith, gap_forward a t.start h.0, lexeme_fits t.kind n t.start t.end h.1.some h.1.within h.1.text, tokens_forward ts (n + 1) t.end b h.2)

  pub tokens_fit : (ts : List Token) → AreTokens s ts → lexemes_octets (lexemes s ts) ≤ length s
  tokens_fit ts h = omega (arith, tokens_forward ts 0 0 h.0 h.1.0, gap_forward h.0 (length s) h.1.1)

-- each stands for an octet
octet_some : (l : Lexeme) → 1 ≤ lexeme_octets l
octet_some (string s) = omega arith
octet_some (identifier n name) = omega arith
octet_some (tag name) = omega arith
octet_some (number n) = omega arith
octet_some semicolon = omega arith
octet_some comma = omega arith
octet_some opening_brace = omega arith
octet_some closing_brace = omega arith
octet_some opening_parenthesis = omega arith
octet_some closing_parenthesis = omega arith
octet_some opening_bracket = omega arith
octet_some closing_bracket = omega arith

octets_number : (ls : List Lexeme) → length ls ≤ lexemes_octets ls
octets_number [] = omega arith
octets_number (l ∷ ls) = omega (arith, octet_some l, octets_number ls)

pub few_lexemes : (s : List ℕ) (ts : List Token) → AreTokens s ts → length (lexemes s ts) ≤ length s
few_lexemes s ts h = omega (arith, tokens_fit s ts h, octets_number (lexemes s ts))

-- what lexemes with their depths stand for
abbrev pub octets_of : List Placed → ℕ
octets_of [] = 0
octets_of (x ∷ xs) = lexeme_octets x.lexeme + octets_of xs

pub octets-append : (xs ys : List Placed) → octets_of (xs ++ ys) ≡ octets_of xs + octets_of ys
octets-append [] ys = omega arith
octets-append (x ∷ xs) ys = omega (arith, octets-append xs ys)

octets_placed : (xs : List Placed) → lexemes_octets (lexemes_placed xs) ≡ octets_of xs
octets_placed [] = refl
octets_placed (x ∷ xs) = ap (λ n. lexeme_octets x.lexeme + n) (octets_placed xs)

pub octets_fit : (s : List ℕ) (cs : CommandsTree) → IsParsed s cs → octets_of (commands_spelled 0 cs) ≤ length s
octets_fit s cs h =
    let ts = h.1.0 in
    let same : lexemes_octets (lexemes s ts) ≡ octets_of (commands_spelled 0 cs) = ap lexemes_octets h.1.1.1 ∙ octets_placed (commands_spelled 0 cs) in
    omega (arith, tokens_fit s ts h.1.1.0, same)

length_within : (xs : List Placed) → length xs ≤ octets_of xs
length_within [] = omega arith
length_within (x ∷ xs) = omega (arith, octet_some x.lexeme, length_within xs)

pub tree_fits : (s : List ℕ) (cs : CommandsTree) → IsParsed s cs → length (commands_spelled 0 cs) ≤ length s
tree_fits s cs h = omega (arith, octets_fit s cs h, length_within (commands_spelled 0 cs))
