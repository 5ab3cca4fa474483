-- Quoted-printable texts read in pieces: the octets that are kept until it is known what they stand for.
use Rattle.std.specs.Prelude.{ℕ, ◌≡◌, ◌==◌, ◌&&◌, ◌||◌, Bool, true, List, [], ◌∷◌, ◌++◌}
use Rattle.octets.specs.Blank.{is_blank}
use Rattle.octets.specs.Escapes.{is_hex}
use Rattle.quoted_printable.specs.QuotedPrintable.{decoding_of, equals}

-- an octet that may be the first one kept: `=`, SP or TAB
abbrev pub begins : ℕ → Bool
begins octet = (octet == equals) || is_blank octet

-- whether an octet is kept, too, after one that is kept: a hexadecimal digit after `=`, and a blank or CR after `=` or a blank
abbrev pub follows : ℕ → ℕ → Bool
follows last octet = ((last == equals) && is_hex octet) || (begins last && (is_blank octet || (octet == 13)))

-- whether each octet may follow the one before it
abbrev pub all_follow : ℕ → List ℕ → Bool
all_follow last [] = true
all_follow last (octet ∷ rest) = follows last octet && all_follow octet rest

-- octets that may be kept: none; `=` and a digit; or `=`, blanks and one CR, of which each may be missing, but CR isn't alone
abbrev pub is_held : List ℕ → Bool
is_held [] = true
is_held (octet ∷ rest) = begins octet && all_follow octet rest

-- A piece was read: the octets kept and the piece stand for what was appended and what the octets now kept stand for, whatever comes
-- after the piece.
pub record HasFed (held piece left was now : List ℕ) : Type 0 where
  pub more : List ℕ
  pub appended : now ≡ was ++ more
  pub stands : (after : List ℕ) → decoding_of (held ++ piece ++ after) ≡ more ++ decoding_of (left ++ after)
  pub kept : is_held left ≡ true

-- pieces were read, one after another
abbrev pub HaveFed : List ℕ → List (List ℕ) → List ℕ → List ℕ → List ℕ → Type 0
HaveFed held [] left was now = (left ≡ held) × (now ≡ was)
HaveFed held (piece ∷ pieces) left was now =
    (held_next : List ℕ) × (next : List ℕ) × HasFed held piece held_next was next × HaveFed held_next pieces left next now
