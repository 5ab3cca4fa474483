-- Private: the set of a text's bigrams, each two octets that stand side by side.
use Rattle.std.specs.Prelude.{◌≡◌, ℕ, ◌+◌, ◌%◌, ◌<◌, ◌==◌, ◌||◌, Bool, List, length, slice_index}
use Rattle.std.specs.Int.{bit_at}
use Rattle.glob_match.specs.Tokens.{backslash, question_mark, star}

-- the bit of a bigram: in the row of its first octet, that of its second, each by its last five bits
abbrev pub bit_of : List ℕ → ℕ → ℕ → ℕ
bit_of rows first second = bit_at (slice_index rows (first % 32)) (second % 32)

-- the bits of all bigrams of the text are set, and perhaps others
pub record Covers (rows text : List ℕ) : Type 0 where
  pub sets : (place : ℕ) → place + 1 < length text → bit_of rows (slice_index text place) (slice_index text (place + 1)) ≡ 1

-- an octet that isn't always literal in a key with wildcards
abbrev pub is_special : ℕ → Bool
is_special octet = ((octet == star) || (octet == question_mark)) || (octet == backslash)
