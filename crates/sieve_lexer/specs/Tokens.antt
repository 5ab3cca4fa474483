-- The tokens of a script, and where a script has none.
use Rattle.std.specs.Prelude.{◌≡◌, ℕ, ◌<◌, ◌≤◌, ◌^◌, List, [], ◌∷◌, length, slice_range}
use Rattle.sieve_lexer.specs.Chain.{Stops}
use Rattle.sieve_lexer.specs.Separators.{IsSeparator, IsGap}
use Rattle.sieve_lexer.specs.Strings.{IsOpeningLine}
use Rattle.sieve_lexer.specs.Texts.{IsTextOf}
use Rattle.sieve_lexer.specs.Values.{number_value}
use Rattle.octets.specs.Limits.{max_script}
use Rattle.sieve_lexer.specs.declared.error.LexicalError.{LexicalError}
use Rattle.sieve_lexer.specs.declared.error.LexicalError.TheVariants.{Memory, ScriptTooLong, Lexical}
use Rattle.sieve_lexer.specs.declared.token.Token.{Token}
use Rattle.sieve_lexer.specs.declared.token.TokenKind.TheVariants.{Number, MultiLineString}

-- the token stands in the script: its octets are a text of its kind, no text of a token that begins there is longer,
-- a number is below 2 ^ 64, and what opens a multi-line string is nothing else
pub record IsToken (script : List ℕ) (token : Token) : Type 0 where
  pub some : token.start < token.end
  pub within : token.end ≤ length script
  pub text : IsTextOf token.kind script token.start token.end
  pub longest : (kind : _) (end : ℕ) → IsTextOf kind script token.start end → end ≤ token.end
  pub fits : token.kind ≡ Number → number_value (slice_range script token.start token.end) < 2 ^ 64
  pub opened : (b : ℕ) → IsOpeningLine script token.start b → token.kind ≡ MultiLineString

-- at the place begins no token
abbrev pub NoToken : List ℕ → ℕ → Type 0
NoToken script place = (token : Token) → token.start ≡ place → IsToken script token → ⊥

-- from place a to place b stand the tokens, with nothing but white space and comments before each
abbrev pub TokensUpTo : List ℕ → ℕ → List Token → ℕ → Type 0
TokensUpTo script a [] b = a ≡ b
TokensUpTo script a (token ∷ tokens) b = IsGap script a token.start × IsToken script token
    × TokensUpTo script token.end tokens b

-- the script is these tokens, with nothing else but white space and comments
abbrev pub AreTokens : List ℕ → List Token → Type 0
AreTokens script tokens = (b : ℕ) × (TokensUpTo script 0 tokens b × IsGap script b (length script))

-- at the place, after some tokens and what separates them, begins neither a token nor a separator
pub record IsFault (script : List ℕ) (place : ℕ) : Type 0 where
  pub tokens : List Token
  pub end : ℕ
  pub before : TokensUpTo script 0 tokens end
  pub gap : IsGap script end place
  pub within : place < length script
  pub no_separator : Stops (IsSeparator script) place
  pub no_token : NoToken script place

-- what each refusal says of the script
abbrev pub IsLexicalRefusal : List ℕ → LexicalError → Type 0
IsLexicalRefusal script Memory = Unit {0}
IsLexicalRefusal script ScriptTooLong = max_script < length script
IsLexicalRefusal script (Lexical place) = (length script ≤ max_script) × IsFault script place
