-- The case of ASCII letters.
use Rattle.std.specs.Prelude.{◌≡◌, ℕ, Bool, List, bytes_eq, map}
use Rattle.std.specs.Char.{to_ascii_uppercase, to_ascii_lowercase}

-- the text with a to z as A to Z, every other octet as it is
abbrev pub uppercase_of : List ℕ → List ℕ
uppercase_of text = map to_ascii_uppercase text

-- the text with A to Z as a to z, every other octet as it is
abbrev pub lowercase_of : List ℕ → List ℕ
lowercase_of text = map to_ascii_lowercase text

-- equal but for the case of ASCII letters
abbrev pub EqualIgnoringCase : List ℕ → List ℕ → Type 0
EqualIgnoringCase a b = lowercase_of a ≡ lowercase_of b

-- a name that is this word, but for the case of ASCII letters
abbrev pub is_word : List ℕ → List ℕ → Bool
is_word name word = bytes_eq (lowercase_of name) (lowercase_of word)
