-- What the grammar reads at a token's number.
use Rattle.std.proofs.Common.{◌≡◌, ◌≢◌, ℕ, zero, suc, ◌+◌, ◌<◌, ◌≤◌, List, [], ◌∷◌, refl, sym, ◌∙◌, ap, subst, ◌⊎◌, inl, inr, arith, length}
use Rattle.std.specs.Prelude.{Option, Some, None, option_map, slice_range}
use Rattle.std.specs.List.{slice_get}
use Rattle.sieve_lexer.specs.Tokens.{IsToken, TokensUpTo, AreTokens}
use Rattle.sieve_lexer.specs.Values.{string_value}
use Rattle.sieve_lexer.specs.declared.token.Token.{Token}
use Rattle.sieve_lexer.specs.declared.token.TokenKind.{TokenKind}
use Rattle.sieve_lexer.specs.declared.token.TokenKind.TheVariants.{Identifier, Tag, Number, QuotedString, MultiLineString, Semicolon, Comma, OpeningBrace, ClosingBrace, OpeningParenthesis, ClosingParenthesis, OpeningBracket, ClosingBracket}
use Rattle.sieve_parser.specs.Lexemes.{Lexeme, identifier, tag, number, string, semicolon, comma, opening_brace, closing_brace, opening_parenthesis, closing_parenthesis, opening_bracket, closing_bracket, lexeme, lexeme_of, lexemes}
use Rattle.sieve_parser.specs.Parsing.{IsStringAt, IsIdentifierAt, lexeme_at, kind_at}
use Rattle.sieve_parser.proofs.Walk.{lexeme_get, length-lexemes}

-- a script's tokens stand in it
token_in : (s : List ℕ) (a b : ℕ) (ts : List Token) → TokensUpTo s a ts b → (i : ℕ) (t : Token) → slice_get ts i ≡ Some t → IsToken s t
token_in s a b [] p i t e = absurd (cc)
token_in s a b (u ∷ ts) p zero t e = let same : u ≡ t = cc in subst (λ (w : Token). IsToken s w) same p.1
token_in s a b (u ∷ ts) p (suc i) t e = token_in s u.end b ts p.2 i t e

pub token_here : (s : List ℕ) (ts : List Token) → AreTokens s ts → (i : ℕ) (t : Token) → slice_get ts i ≡ Some t → IsToken s t
token_here s ts p i t e = token_in s 0 p.0 ts p.1.0 i t e

get_inside : (ts : List Token) (i : ℕ) (t : Token) → slice_get ts i ≡ Some t → i < length ts
get_inside [] i t e = absurd (cc)
get_inside (u ∷ ts) zero t e = omega arith
get_inside (u ∷ ts) (suc i) t e = omega (arith, get_inside ts i t e)

get_outside : (ts : List Token) (i : ℕ) → slice_get ts i ≡ None → length ts ≤ i
get_outside [] i e = omega arith
get_outside (u ∷ ts) zero e = absurd (cc)
get_outside (u ∷ ts) (suc i) e = omega (arith, get_outside ts i e)

pub here : (s : List ℕ) (ts : List Token) (i : ℕ) (t : Token) → slice_get ts i ≡ Some t → (i < length (lexemes s ts)) × (lexeme_at (lexemes s ts) i ≡ lexeme s i t)
here s ts i t e = let z : 0 + i ≡ i = omega arith in
    (omega (arith, get_inside ts i t e, length-lexemes s 0 ts), lexeme_get s ts 0 i t e ∙ ap (λ n. lexeme s n t) z)

pub nothing_here : (s : List ℕ) (ts : List Token) (i : ℕ) → slice_get ts i ≡ None → length (lexemes s ts) ≤ i
nothing_here s ts i e = omega (arith, get_outside ts i e, length-lexemes s 0 ts)

-- the kind that a lexeme tells
abbrev pub kind_of : Lexeme → TokenKind
kind_of (identifier n name) = Identifier
kind_of (tag name) = Tag
kind_of (number n) = Number
kind_of (string s) = QuotedString
kind_of semicolon = Semicolon
kind_of comma = Comma
kind_of opening_brace = OpeningBrace
kind_of closing_brace = ClosingBrace
kind_of opening_parenthesis = OpeningParenthesis
kind_of closing_parenthesis = ClosingParenthesis
kind_of opening_bracket = OpeningBracket
kind_of closing_bracket = ClosingBracket

pub kind_told : (k : TokenKind) (n : ℕ) (octets : List ℕ) → (k ≡ kind_of (lexeme_of k n octets)) ⊎ ((k ≡ MultiLineString) × (kind_of (lexeme_of k n octets) ≡ QuotedString))
kind_told MultiLineString n octets = inr (refl, refl)
kind_told _ n octets = inl refl

-- a lexeme that isn't of a kind, where the token isn't
pub other_kind : (s : List ℕ) (ts : List Token) (i : ℕ) (t : Token) (l : Lexeme) → slice_get ts i ≡ Some t → t.kind ≢ kind_of l → (t.kind ≡ MultiLineString → kind_of l ≢ QuotedString)
    → lexeme_at (lexemes s ts) i ≡ l → ⊥
other_kind s ts i t l e ne multi is =
    let told : lexeme s i t ≡ l = sym (here s ts i t e).1 ∙ is in
    elim (kind_told t.kind i (slice_range s t.start t.end)) [
      | inl k ↦ ne (k ∙ ap kind_of told)
      | inr k ↦ multi k.0 (sym (ap kind_of told) ∙ k.1)
    ]

pub no_identifier : (s : List ℕ) (ts : List Token) (i : ℕ) (t : Token) → slice_get ts i ≡ Some t → t.kind ≢ Identifier → IsIdentifierAt (lexemes s ts) i None
no_identifier s ts i t e ne = λ n name lt is. other_kind s ts i t (identifier n name) e ne (λ m q. cc) is

pub no_string : (s : List ℕ) (ts : List Token) (i : ℕ) (t : Token) → slice_get ts i ≡ Some t → t.kind ≢ QuotedString → t.kind ≢ MultiLineString → IsStringAt (lexemes s ts) i None
no_string s ts i t e ne multi = λ v lt is. other_kind s ts i t (string v) e ne (λ m. absurd (multi m)) is

pub identifier_here : (s : List ℕ) (ts : List Token) (i : ℕ) (t : Token) → slice_get ts i ≡ Some t → t.kind ≡ Identifier → IsIdentifierAt (lexemes s ts) i (Some (slice_range s t.start t.end))
identifier_here s ts i t e k = let h = here s ts i t e in (h.0, h.1 ∙ ap (λ m. lexeme_of m i (slice_range s t.start t.end)) k)

pub string_here : (s : List ℕ) (ts : List Token) (i : ℕ) (t : Token) → slice_get ts i ≡ Some t → (t.kind ≡ QuotedString) ⊎ (t.kind ≡ MultiLineString)
    → IsStringAt (lexemes s ts) i (Some (string_value t.kind (slice_range s t.start t.end)))
string_here s ts i t e (inl k) = let h = here s ts i t e in (h.0, h.1 ∙ ap (λ m. lexeme_of m i (slice_range s t.start t.end)) k ∙ ap (λ m. string (string_value m (slice_range s t.start t.end))) (sym k))
string_here s ts i t e (inr k) = let h = here s ts i t e in (h.0, h.1 ∙ ap (λ m. lexeme_of m i (slice_range s t.start t.end)) k ∙ ap (λ m. string (string_value m (slice_range s t.start t.end))) (sym k))

kind_of_some : (o : Option Token) (k : TokenKind) → option_map (λ (t : Token). t.kind) o ≡ Some k → (t : Token) × ((o ≡ Some t) × (t.kind ≡ k))
kind_of_some None k e = absurd (cc)
kind_of_some (Some t) k e = (t, (refl, cc))

-- a token of a kind, as the grammar reads it
pub kind_here : (s : List ℕ) (ts : List Token) (i : ℕ) (k : TokenKind) → kind_at ts i ≡ Some k
    → (i < length (lexemes s ts)) × ((octets : List ℕ) × (lexeme_at (lexemes s ts) i ≡ lexeme_of k i octets))
kind_here s ts i k e =
    let t = kind_of_some (slice_get ts i) k e in
    let h = here s ts i t.0 t.1.0 in
    (h.0, (slice_range s t.0.start t.0.end, h.1 ∙ ap (λ m. lexeme_of m i (slice_range s t.0.start t.0.end)) t.1.1))

other_here : (s : List ℕ) (ts : List Token) (i : ℕ) (l : Lexeme) (o : Option Token) → slice_get ts i ≡ o → i < length (lexemes s ts)
    → (option_map (λ (t : Token). t.kind) o ≡ Some (kind_of l) → ⊥) → kind_of l ≢ QuotedString → lexeme_at (lexemes s ts) i ≡ l → ⊥
other_here s ts i l None e lt ne quoted is = let past = nothing_here s ts i e in absurd (omega arith)
other_here s ts i l (Some t) e lt ne quoted is = other_kind s ts i t l e (λ k. ne (ap Some k)) (λ m. quoted) is

-- a token that isn't of a kind, as the grammar reads it
pub not_here : (s : List ℕ) (ts : List Token) (i : ℕ) (l : Lexeme) → i < length (lexemes s ts) → (kind_at ts i ≡ Some (kind_of l) → ⊥) → kind_of l ≢ QuotedString
    → lexeme_at (lexemes s ts) i ≡ l → ⊥
not_here s ts i l lt ne quoted is = other_here s ts i l (slice_get ts i) refl lt ne quoted is
