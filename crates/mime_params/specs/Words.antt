-- The words of a value (RFC 2045, section 5.1).
use Rattle.std.specs.Prelude.{ℕ, Bool, ◌==◌, ◌&&◌, ◌||◌, not, List, [], ◌∷◌, Option, Some, None, length, drop, codes, option_map, if◌then◌else◌}
use Rattle.std.specs.List.{take_while, list_any}
use Rattle.std.specs.Char.{is_ascii_graphic}
use Rattle.octets.specs.Blank.{is_blank}

-- one of ()<>@,;:\"/[]?=
abbrev pub is_special : ℕ → Bool
is_special c = list_any (λ s. s == c) (codes "()<>@,;:\\\"/[]?=")

-- an octet of a token: 33 to 126, and no special
abbrev pub is_token_octet : ℕ → Bool
is_token_octet c = is_ascii_graphic c && not (is_special c)

-- an octet of a value without quotes
abbrev pub is_value_octet : ℕ → Bool
is_value_octet c = not (is_blank c || ((c == 59) || ((c == 34) || (c == 40))))

-- a word and what follows it
pub record Word : Type 0 where
  pub octets : List ℕ
  pub rest : List ℕ

-- the longest run of one or more octets that pass the test
abbrev pub word : (ℕ → Bool) → List ℕ → Option Word
word passes text = let octets = take_while passes text in if length octets == 0 then None else Some (record { octets = octets; rest = drop (length octets) text })

abbrev pub with_octet : ℕ → Word → Word
with_octet c w = record w { octets = c ∷ w.octets }

-- a quoted string after its opening quote, up to the closing one; `\x` stands for x
abbrev pub quoted : List ℕ → Option Word
quoted [] = None
quoted (c ∷ []) = if c == 34 then Some (record { octets = []; rest = [] }) else None
quoted (c ∷ d ∷ rest) =
    if c == 34 then Some (record { octets = []; rest = d ∷ rest })
    else if c == 92 then option_map (with_octet d) (quoted rest)
    else option_map (with_octet c) (quoted (d ∷ rest))

-- the value of a parameter: a quoted string, or a run of other octets
abbrev pub value : List ℕ → Option Word
value [] = None
value (c ∷ rest) = if c == 34 then quoted rest else word is_value_octet (c ∷ rest)

-- the octets of a word, or none
abbrev pub octets_of : Option Word → List ℕ
octets_of None = []
octets_of (Some w) = w.octets

-- those of the value that a text begins with
abbrev pub value_octets : List ℕ → List ℕ
value_octets text = octets_of (value text)
