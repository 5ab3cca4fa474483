-- How tokens of each kind are written (RFC 5228, section 8.1).
use Rattle.std.specs.Prelude.{◌≡◌, ◌⊎◌, ℕ, ◌+◌, ◌<◌, ◌≤◌, List, length, slice_index, IsTrue, Option, Some, None}
use Rattle.std.specs.Char.{is_ascii_digit}
use Rattle.sieve_lexer.specs.Classes.{begins_identifier, continues_identifier}
use Rattle.sieve_lexer.specs.Strings.{IsQuotedRest, IsOpeningLine, IsMultiLineRest}
use Rattle.sieve_lexer.specs.Values.{is_unit}
use Rattle.sieve_lexer.specs.declared.token.TokenKind.{TokenKind}
use Rattle.sieve_lexer.specs.declared.token.TokenKind.TheVariants.{Identifier, Tag, Number, QuotedString, MultiLineString, Semicolon, Comma, OpeningBrace, ClosingBrace, OpeningParenthesis, ClosingParenthesis, OpeningBracket, ClosingBracket}

-- from place a to place b stands an identifier: a letter or `_`, then letters, digits and `_`
pub record IsIdentifier (script : List ℕ) (a b : ℕ) : Type 0 where
  pub some : a < b
  pub within : b ≤ length script
  pub first : IsTrue (begins_identifier (slice_index script a))
  pub all : (i : ℕ) → a ≤ i → i < b → IsTrue (continues_identifier (slice_index script i))

-- from place a to place b stands a tag: a colon and an identifier
abbrev pub IsTag : List ℕ → ℕ → ℕ → Type 0
IsTag script a b = (slice_index script a ≡ 58) × IsIdentifier script (a + 1) b

-- from place a to place b stand decimal digits, at least one
pub record AreDigits (script : List ℕ) (a b : ℕ) : Type 0 where
  pub some : a < b
  pub within : b ≤ length script
  pub all : (i : ℕ) → a ≤ i → i < b → IsTrue (is_ascii_digit (slice_index script i))

-- from place a to place b stands nothing, or K, M or G
abbrev pub IsSuffix : List ℕ → ℕ → ℕ → Type 0
IsSuffix script a b = (b ≡ a) ⊎ ((b ≡ a + 1) × IsTrue (is_unit (slice_index script a)))

-- from place a to place b stands a number: digits, then perhaps K, M or G
abbrev pub IsNumber : List ℕ → ℕ → ℕ → Type 0
IsNumber script a b = (c : ℕ) × (AreDigits script a c × IsSuffix script c b)

-- from place a to place b stands a quoted string
abbrev pub IsQuotedString : List ℕ → ℕ → ℕ → Type 0
IsQuotedString script a b = (slice_index script a ≡ 34) × IsQuotedRest script (a + 1) b

-- from place a to place b stands a multi-line string: the line that opens it, its lines, and the line that closes it
abbrev pub IsMultiLineString : List ℕ → ℕ → ℕ → Type 0
IsMultiLineString script a b = (c : ℕ) × (IsOpeningLine script a c × IsMultiLineRest script c b)

-- the octet of a kind that has one text of one octet
abbrev pub sign_octet : TokenKind → Option ℕ
sign_octet Semicolon = Some 59
sign_octet Comma = Some 44
sign_octet OpeningBrace = Some 123
sign_octet ClosingBrace = Some 125
sign_octet OpeningParenthesis = Some 40
sign_octet ClosingParenthesis = Some 41
sign_octet OpeningBracket = Some 91
sign_octet ClosingBracket = Some 93
sign_octet _ = None

-- from place a to place b stands the one octet of the kind
abbrev pub IsSign : TokenKind → List ℕ → ℕ → ℕ → Type 0
IsSign kind script a b = (b ≡ a + 1) × (sign_octet kind ≡ Some (slice_index script a))

-- from place a to place b stands the text of a token of the kind
abbrev pub IsTextOf : TokenKind → List ℕ → ℕ → ℕ → Type 0
IsTextOf Identifier = IsIdentifier
IsTextOf Tag = IsTag
IsTextOf Number = IsNumber
IsTextOf QuotedString = IsQuotedString
IsTextOf MultiLineString = IsMultiLineString
IsTextOf kind = IsSign kind
