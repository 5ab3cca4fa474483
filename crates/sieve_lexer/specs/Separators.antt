-- What stands between tokens: white space and comments (RFC 5228, sections 2.2 and 2.3).
use Rattle.std.specs.Prelude.{◌≡◌, ◌⊎◌, ℕ, ◌+◌, ◌<◌, ◌≤◌, List, length, slice_index, IsTrue}
use Rattle.sieve_lexer.specs.Classes.{is_white_space, is_not_line_feed}
use Rattle.sieve_lexer.specs.Chain.{IsRun, Leads}

-- from place a to place b stands one octet of white space
abbrev pub IsWhiteSpace : List ℕ → ℕ → ℕ → Type 0
IsWhiteSpace script a b = (b ≡ a + 1) × (a < length script) × IsTrue (is_white_space (slice_index script a))

-- from place a to place b stands a `#` with the rest of its line
abbrev pub IsHashComment : List ℕ → ℕ → ℕ → Type 0
IsHashComment script a b = (slice_index script a ≡ 35) × IsRun is_not_line_feed script a b

-- at place i stands `*/`
abbrev pub IsCommentEnd : List ℕ → ℕ → Type 0
IsCommentEnd script i = (slice_index script i ≡ 42) × (slice_index script (i + 1) ≡ 47)

-- from place a to place b stands `/*` with what follows, through the first `*/`
abbrev pub IsBracketComment : List ℕ → ℕ → ℕ → Type 0
IsBracketComment script a b = (c : ℕ)
    × ((b ≡ c + 2) × (a + 2 ≤ c) × (slice_index script a ≡ 47) × (slice_index script (a + 1) ≡ 42)
    × IsCommentEnd script c × ((i : ℕ) → a + 2 ≤ i → i < c → IsCommentEnd script i → ⊥))

-- what may stand between tokens, piece by piece
abbrev pub IsSeparator : List ℕ → ℕ → ℕ → Type 0
IsSeparator script a b = IsWhiteSpace script a b ⊎ (IsHashComment script a b ⊎ IsBracketComment script a b)

-- from place a to place b stands nothing but white space and comments
abbrev pub IsGap : List ℕ → ℕ → ℕ → Type 0
IsGap script a b = Leads (IsSeparator script) a b
