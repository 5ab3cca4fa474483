-- Private: how octets are kept, and what a text begins with.
use Rattle.std.specs.Prelude.{ℕ, suc, ◌+◌, ◌<◌, ◌≤◌, ◌≡◌, ◌≢◌, Bool, true, false, List, [], ◌∷◌, ◌++◌, length, take, drop, slice_index}
use Rattle.octets.specs.Escapes.{is_hex}
use Rattle.quoted_printable.specs.QuotedPrintable.{decoding_of, unescaped}
use Rattle.quoted_printable.specs.Pieces.{begins, follows, is_held}

-- the last of an octet and those after it
abbrev pub last_of : ℕ → List ℕ → ℕ
last_of octet [] = octet
last_of octet (following ∷ rest) = last_of following rest

-- whether an octet is kept, too, after those that are kept
abbrev pub goes_on : List ℕ → ℕ → Bool
goes_on [] octet = begins octet
goes_on (first ∷ rest) octet = follows (last_of first rest) octet

-- the text's first octet isn't kept after those that are
abbrev pub Stops : List ℕ → List ℕ → Type 0
Stops held [] = Unit {0}
Stops held (octet ∷ rest) = goes_on held octet ≡ false

-- octets are those before, and perhaps more after them
abbrev pub Extends : List ℕ → List ℕ → Type 0
Extends was now = take (length was) now ≡ was

-- What was appended after octets, and what is left, together stand for what a text stands for, whatever comes after it.
abbrev pub Reads : List ℕ → List ℕ → List ℕ → List ℕ → Type 0
Reads was text now left = (after : List ℕ) → now ++ decoding_of (left ++ after) ≡ was ++ decoding_of (text ++ after)

-- whether a hexadecimal digit stands after the first octet
abbrev pub has_digit : List ℕ → Bool
has_digit [] = false
has_digit (first ∷ []) = false
has_digit (first ∷ digit ∷ rest) = is_hex digit

-- no octet is LF
abbrev pub HasNoFeed : List ℕ → Type 0
HasNoFeed line = (k : ℕ) → k < length line → slice_index line k ≢ 10

-- From this place on each octet may follow the one before it, and from no earlier place.
pub record IsChainFrom (line : List ℕ) (start : ℕ) : Type 0 where
  pub within : start < length line
  pub follow : (k : ℕ) → start ≤ k → suc k < length line → follows (slice_index line k) (slice_index line (suc k)) ≡ true
  pub begun : (k : ℕ) → suc k ≡ start → follows (slice_index line k) (slice_index line start) ≡ false

-- The octets from this place on are the longest end of the line that may be kept.
pub record IsPendingFrom (line : List ℕ) (start : ℕ) : Type 0 where
  pub within : start ≤ length line
  pub held : is_held (drop start line) ≡ true
  pub longest : (k : ℕ) → k < start → is_held (drop k line) ≡ false

-- A text begins with an octet, as it is or with digits, and this is left after it.
pub record Decodes (text : List ℕ) (octet : ℕ) (rest : List ℕ) : Type 0 where
  pub line : unescaped text ≡ octet ∷ unescaped rest
  pub shorter : length rest < length text

-- The same of several octets.
pub record AreFor (text octets rest : List ℕ) : Type 0 where
  pub line : unescaped text ≡ octets ++ unescaped rest
  pub shorter : length rest + length octets ≤ length text
