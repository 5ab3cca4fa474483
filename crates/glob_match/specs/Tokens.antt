-- The tokens of a key of `:matches` (RFC 5228, section 2.7.1).
use Rattle.std.specs.Prelude.{ℕ, ◌+◌, ◌==◌, List, [], ◌∷◌, if◌then◌else◌}
use Rattle.glob_match.specs.declared.token.Token.{Token}
use Rattle.glob_match.specs.declared.token.Token.TheVariants.{Literal, AnyOctet, Star}

-- `\`, `*` and `?`
abbrev pub backslash : ℕ
backslash = 92

abbrev pub star : ℕ
star = 42

abbrev pub question_mark : ℕ
question_mark = 63

-- what an octet other than the backslash is
abbrev pub token_of : ℕ → Token
token_of octet = if octet == star then Star else (if octet == question_mark then AnyOctet else Literal octet)

-- A backslash makes a literal of the octet after it; a last one is itself.
abbrev mutual
  -- the tokens of a key
  pub tokens_of : List ℕ → List Token
  tokens_of [] = []
  tokens_of (octet ∷ key) = if octet == backslash then tokens_escaped key else (token_of octet ∷ tokens_of key)

  -- the tokens of a backslash and what follows it
  pub tokens_escaped : List ℕ → List Token
  tokens_escaped [] = Literal backslash ∷ []
  tokens_escaped (octet ∷ key) = Literal octet ∷ tokens_of key

-- how many of the tokens are literal
abbrev pub literals : List Token → ℕ
literals [] = 0
literals (Literal _ ∷ key) = 1 + literals key
literals (_ ∷ key) = literals key
