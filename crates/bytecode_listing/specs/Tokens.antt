-- The tokens of a listing: words and strings, with blanks and comments between them.
use Rattle.std.specs.Prelude.{ℕ, suc, ◌+◌, ◌*◌, ◌==◌, ◌||◌, Bool, List, [], ◌∷◌, ◌++◌, length, if◌then◌else◌}
use Rattle.std.specs.Char.{digit_value, is_ascii_alphanumeric}
use Rattle.octets.specs.Escapes.{is_hex}

-- a token; Wrong is what begins like none, or a string that doesn't end well
pub data Token : Type 0 where
  Word : List ℕ → Token
  Text : List ℕ → Token
  Wrong : Token

-- a token, and how many octets of the listing are left where it begins
pub record Placed : Type 0 where
  pub token : Token
  pub left : ℕ

-- SP, TAB, LF and CR
abbrev pub is_white : ℕ → Bool
is_white octet = (octet == 32) || (octet == 9) || (octet == 10) || (octet == 13)

-- a letter, a digit or `_`
abbrev pub is_word_octet : ℕ → Bool
is_word_octet octet = is_ascii_alphanumeric octet || (octet == 95)

-- Where the reading of a listing stands: between tokens; in a comment; in a word; in a string;
-- after a backslash in a string; after that and a digit; after what is no token. Within a token: how
-- many octets were left where it began, and what it says so far.
pub data Stand : Type 0 where
  Between : Stand
  Comment : Stand
  InWord : ℕ → List ℕ → Stand
  InText : ℕ → List ℕ → Stand
  Escape : ℕ → List ℕ → Stand
  Digit : ℕ → List ℕ → ℕ → Stand
  Stopped : ℕ → Stand

-- after an octet between tokens, where so many octets were left
abbrev pub begun : ℕ → ℕ → Stand
begun left octet =
    if is_white octet then Between else
    if octet == 59 then Comment else
    if octet == 34 then InText left [] else
    if is_word_octet octet then InWord left (octet ∷ []) else
    Stopped left

-- after an octet
abbrev pub after : Stand → ℕ → ℕ → Stand
after Between left octet = begun left octet
after Comment left octet = if octet == 10 then Between else Comment
after (InWord start said) left octet =
    if is_word_octet octet then InWord start (said ++ octet ∷ []) else begun left octet
after (InText start said) left octet =
    if octet == 34 then Between else
    if octet == 92 then Escape start said else
    InText start (said ++ octet ∷ [])
after (Escape start said) left octet =
    if is_hex octet then Digit start said (digit_value octet) else Stopped start
after (Digit start said high) left octet =
    if is_hex octet
    then InText start (said ++ (16 * high + digit_value octet) ∷ [])
    else Stopped start
after (Stopped start) left octet = Stopped start

-- a token that begins where so many octets are left, alone
abbrev pub one : Token → ℕ → List Placed
one token left = (record { token = token; left = left }) ∷ []

-- the token that an octet ends: of a word it is the first octet after it, of a string its quote
abbrev pub ended : Stand → ℕ → List Placed
ended (InWord start said) octet = if is_word_octet octet then [] else one (Word said) start
ended (InText start said) octet = if octet == 34 then one (Text said) start else []
ended _ octet = []

-- the token that the end of the listing ends
abbrev pub ended_last : Stand → List Placed
ended_last Between = []
ended_last Comment = []
ended_last (InWord start said) = one (Word said) start
ended_last (InText start said) = one Wrong start
ended_last (Escape start said) = one Wrong start
ended_last (Digit start said high) = one Wrong start
ended_last (Stopped start) = one Wrong start

-- the tokens of what is left
unfoldable pub tokens_from : Stand → List ℕ → List Placed
tokens_from stand [] = ended_last stand
tokens_from stand (octet ∷ rest) =
    ended stand octet ++ tokens_from (after stand (suc (length rest)) octet) rest

-- the tokens of a listing; a Wrong one is the last
abbrev pub tokens_of : List ℕ → List Placed
tokens_of listing = tokens_from Between listing
