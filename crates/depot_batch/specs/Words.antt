-- The words of a line.
use Rattle.std.specs.Prelude.{ℕ, ◌==◌, ◌&&◌, ◌≡◌, ◌≢◌, ◌⊎◌, Bool, false, not, List, [], ◌∷◌, ◌++◌, Option, Some, None, if◌then◌else◌}
use Rattle.std.specs.Option.{option_map}
use Rattle.std.specs.List.{All, list_any}
use Rattle.printing.specs.Printed.{quoted}
use Rattle.octets.specs.Escapes.{octet_of_digits}

-- a quotation mark
abbrev pub is_quote : ℕ → Bool
is_quote octet = octet == 34

-- ---- the texts of the words

-- octets before those of the first text
abbrev pub before_first : List ℕ → List (List ℕ) → List (List ℕ)
before_first octets [] = octets ∷ []
before_first octets (text ∷ texts) = (octets ++ text) ∷ texts

-- a space in no quotes, which ends a text
abbrev pub is_gap : ℕ → Bool → Bool
is_gap octet quoted = (octet == 32) && not quoted

-- whether what comes after an octet stands in quotes
abbrev pub is_quoted_after : ℕ → Bool → Bool
is_quoted_after octet quoted = if is_quote octet then not quoted else quoted

-- the texts between the spaces in no quotes; whether the octets begin in quotes is told
unfoldable pub texts_from : Bool → List ℕ → List (List ℕ)
texts_from quoted [] = [] ∷ []
texts_from quoted (octet ∷ rest) =
    if is_gap octet quoted then [] ∷ texts_from false rest
    else before_first (octet ∷ []) (texts_from (is_quoted_after octet quoted) rest)

-- the texts of a line's words
abbrev pub texts_of : List ℕ → List (List ℕ)
texts_of line = texts_from false line

-- ---- what they say

-- nothing more is said, if nothing comes after
abbrev pub ending : List ℕ → Option (List ℕ)
ending [] = Some []
ending (octet ∷ rest) = None

-- an octet before what else is said
abbrev pub said_before : Option ℕ → Option (List ℕ) → Option (List ℕ)
said_before None said = None
said_before (Some octet) said = option_map (λ others. octet ∷ others) said

-- Where the reading of a text in quotes stands: after an octet; after a backslash; after that and one octet.
pub data Stand : Type 0 where
  Plain : Stand
  Escape : Stand
  Half : ℕ → Stand

-- What is said up to the quotation mark that ends the text: an octet says itself, and a backslash
-- with two hexadecimal digits the octet of that value.
unfoldable pub said_from : Stand → List ℕ → Option (List ℕ)
said_from stand [] = None
said_from Plain (octet ∷ rest) =
    if is_quote octet then ending rest
    else if octet == 92 then said_from Escape rest
    else said_before (Some octet) (said_from Plain rest)
said_from Escape (high ∷ rest) = said_from (Half high) rest
said_from (Half high) (low ∷ rest) = said_before (octet_of_digits high low) (said_from Plain rest)

-- what a text says: one in quotes what is between them; one without quotes itself
abbrev pub word_in : List ℕ → Option (List ℕ)
word_in [] = None
word_in (octet ∷ rest) =
    if is_quote octet then said_from Plain rest
    else if list_any is_quote rest then None
    else Some (octet ∷ rest)

-- a word and those after it, where all are words
abbrev pub with_word : Option (List ℕ) → Option (List (List ℕ)) → Option (List (List ℕ))
with_word None words = None
with_word (Some word) words = option_map (λ others. word ∷ others) words

-- what texts say, one after another, if each says something
unfoldable pub words_in : List (List ℕ) → Option (List (List ℕ))
words_in [] = Some []
words_in (text ∷ texts) = with_word (word_in text) (words_in texts)

-- the words of a line, if it is made of words
abbrev pub words_of : List ℕ → Option (List (List ℕ))
words_of line = words_in (texts_of line)

-- ---- how words are written

-- texts with one space between two
unfoldable pub spaced : List ℕ → List (List ℕ) → List ℕ
spaced text [] = text
spaced text (next ∷ texts) = text ++ 32 ∷ spaced next texts

-- a word that may stand without quotes: it has an octet at least, and no space and no quotation mark
pub record IsBare (word : List ℕ) : Type 0 where
  pub some : word ≢ []
  pub plain : All (λ octet. ((octet == 32) ≡ false) × (is_quote octet ≡ false)) word

-- a text that writes a word: the word between quotes as it is printed, or the word itself
abbrev pub Writes : List ℕ → List ℕ → Type 0
Writes text word = (text ≡ quoted word) ⊎ ((text ≡ word) × IsBare word)
