-- Quoted and multi-line strings as they are written (RFC 5228, section 2.4.2).
use Rattle.std.specs.Prelude.{◌≡◌, ◌≢◌, ◌⊎◌, ℕ, ◌+◌, ◌<◌, ◌≤◌, List, length, slice_index, slice_range, IsTrue, codes, map}
use Rattle.std.specs.Char.{to_ascii_lowercase}
use Rattle.octets.specs.Blank.{is_blank}
use Rattle.sieve_lexer.specs.Chain.{Leads}
use Rattle.sieve_lexer.specs.Separators.{IsHashComment}

-- from place a to place b stands a character of a quoted string: an octet that is no quote and no
-- backslash, or a backslash with the octet after it
abbrev pub IsCharacter : List ℕ → ℕ → ℕ → Type 0
IsCharacter script a b = ((b ≡ a + 1) × (a < length script) × (slice_index script a ≢ 34) × (slice_index script a ≢ 92))
    ⊎ ((b ≡ a + 2) × (a + 1 < length script) × (slice_index script a ≡ 92))

-- from place a to place b stand characters and the quote that closes them
abbrev pub IsQuotedRest : List ℕ → ℕ → ℕ → Type 0
IsQuotedRest script a b = (c : ℕ) × ((b ≡ c + 1) × Leads (IsCharacter script) a c × (slice_index script c ≡ 34))

-- from place a to place b stands a line's end after the blanks of `text:`: a line break, or a `#`
-- comment and its line break
abbrev pub IsOpeningEnd : List ℕ → ℕ → ℕ → Type 0
IsOpeningEnd script a b = ((b ≡ a + 1) × (slice_index script a ≡ 10))
    ⊎ (((b ≡ a + 2) × (slice_index script a ≡ 13) × (slice_index script (a + 1) ≡ 10))
    ⊎ ((c : ℕ) × ((b ≡ c + 1) × (c < length script) × IsHashComment script a c)))

-- from place a to place b stands the line that opens a multi-line string: `text:`, then blanks, then its end
abbrev pub IsOpeningLine : List ℕ → ℕ → ℕ → Type 0
IsOpeningLine script a b = (c : ℕ)
    × ((map to_ascii_lowercase (slice_range script a (a + 5)) ≡ codes "text:") × (a + 5 ≤ c)
    × ((i : ℕ) → a + 5 ≤ i → i < c → IsTrue (is_blank (slice_index script i))) × IsOpeningEnd script c b)

-- from place a to place b stands a line with its break
pub record IsLine (script : List ℕ) (a b : ℕ) : Type 0 where
  pub last : ℕ
  pub break : b ≡ last + 1
  pub from : a ≤ last
  pub within : last < length script
  pub same_line : (i : ℕ) → a ≤ i → i < last → slice_index script i ≢ 10
  pub ended : slice_index script last ≡ 10

-- from place a to place b stands the line that closes a multi-line string: a lone dot and its line break
abbrev pub IsClosingLine : List ℕ → ℕ → ℕ → Type 0
IsClosingLine script a b = (slice_index script a ≡ 46) × (((b ≡ a + 2) × (slice_index script (a + 1) ≡ 10))
    ⊎ ((b ≡ a + 3) × (slice_index script (a + 1) ≡ 13) × (slice_index script (a + 2) ≡ 10)))

-- from place a to place b stands a line that doesn't close the string
abbrev pub IsContentLine : List ℕ → ℕ → ℕ → Type 0
IsContentLine script a b = IsLine script a b × (IsClosingLine script a b → ⊥)

-- from place a to place b stand lines and the one that closes them
abbrev pub IsMultiLineRest : List ℕ → ℕ → ℕ → Type 0
IsMultiLineRest script a b = (c : ℕ) × (Leads (IsContentLine script) a c × IsClosingLine script c b)
