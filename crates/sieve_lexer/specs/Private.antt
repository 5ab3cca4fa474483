-- Private: what the reading of one token gives.
use Rattle.std.specs.Prelude.{◌≡◌, ℕ, List, Option, MatchOption}
use Rattle.sieve_lexer.specs.declared.token.Token.{Token}
use Rattle.sieve_lexer.specs.Tokens.{IsToken, NoToken}

-- the token that begins at the place, or nothing where none does
abbrev pub IsTokenAt : List ℕ → ℕ → Option Token → Type 0
IsTokenAt script place answer = MatchOption answer (NoToken script place)
    (λ token. (token.start ≡ place) × IsToken script token)
