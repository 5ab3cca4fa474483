-- What the grammar reads of tokens.
use Rattle.std.specs.Prelude.{ℕ, ◌+◌, List, [], ◌∷◌, slice_range, drop}
use Rattle.sieve_lexer.specs.Values.{number_value, string_value}
use Rattle.sieve_lexer.specs.declared.token.Token.{Token}
use Rattle.sieve_lexer.specs.declared.token.TokenKind.{TokenKind}
use Rattle.sieve_lexer.specs.declared.token.TokenKind.TheVariants.{Identifier, Tag, Number, QuotedString, MultiLineString, Semicolon, Comma, OpeningBrace, ClosingBrace, OpeningParenthesis, ClosingParenthesis, OpeningBracket, ClosingBracket}

-- what the grammar reads of a token: an identifier with the number of its token, a value, or a sign
pub data Lexeme : Type 0 where
  identifier : ℕ → List ℕ → Lexeme
  tag : List ℕ → Lexeme
  number : ℕ → Lexeme
  string : List ℕ → Lexeme
  semicolon : Lexeme
  comma : Lexeme
  opening_brace : Lexeme
  closing_brace : Lexeme
  opening_parenthesis : Lexeme
  closing_parenthesis : Lexeme
  opening_bracket : Lexeme
  closing_bracket : Lexeme

-- what the grammar reads of a token's kind and text, n being the token's number
abbrev pub lexeme_of : TokenKind → ℕ → List ℕ → Lexeme
lexeme_of Identifier n octets = identifier n octets
lexeme_of Tag n octets = tag (drop 1 octets)
lexeme_of Number n octets = number (number_value octets)
lexeme_of QuotedString n octets = string (string_value QuotedString octets)
lexeme_of MultiLineString n octets = string (string_value MultiLineString octets)
lexeme_of Semicolon n octets = semicolon
lexeme_of Comma n octets = comma
lexeme_of OpeningBrace n octets = opening_brace
lexeme_of ClosingBrace n octets = closing_brace
lexeme_of OpeningParenthesis n octets = opening_parenthesis
lexeme_of ClosingParenthesis n octets = closing_parenthesis
lexeme_of OpeningBracket n octets = opening_bracket
lexeme_of ClosingBracket n octets = closing_bracket

-- what the grammar reads of a token of a script
abbrev pub lexeme : List ℕ → ℕ → Token → Lexeme
lexeme script n token = lexeme_of token.kind n (slice_range script token.start token.end)

-- what the grammar reads of a script's tokens, the first of which has the number n
abbrev pub lexemes_from : List ℕ → ℕ → List Token → List Lexeme
lexemes_from script n [] = []
lexemes_from script n (token ∷ tokens) = lexeme script n token ∷ lexemes_from script (n + 1) tokens

-- what the grammar reads of all tokens of a script
abbrev pub lexemes : List ℕ → List Token → List Lexeme
lexemes script tokens = lexemes_from script 0 tokens
