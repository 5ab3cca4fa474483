-- References to variables and captures in a string (RFC 5229, section 3): `${`, a name or a number, `}`.
use Rattle.std.specs.Prelude.{ℕ, zero, suc, ◌+◌, ◌-◌, ◌*◌, Bool, false, ◌&&◌, ◌||◌, ◌==◌, nat_le, List, [], ◌∷◌, length, flat_map, Option, Some, None, if◌then◌else◌}
use Rattle.std.specs.List.{list_all}
use Rattle.std.specs.Option.{option_and_then, option_map, option_map_or}
use Rattle.std.specs.Char.{is_ascii_digit}
use Rattle.octets.specs.Ascii.{lowercase_of}
use Rattle.sieve_lexer.specs.Classes.{begins_identifier, continues_identifier}

-- what a string consists of: a stretch of octets as they stand, or a reference, which is to a
-- variable by its name as it is written, to a capture, to a capture after the last one, or into a
-- namespace
pub data Segment : Type 0 where
  stretch : List ℕ → Segment
  variable : List ℕ → Segment
  capture : ℕ → Segment
  beyond : Segment
  foreign : Segment

-- as the grammar of scripts has it: a letter or `_`, then letters, digits and `_` (RFC 5228, section 8.1)
abbrev pub is_identifier : List ℕ → Bool
is_identifier [] = false
is_identifier (x ∷ xs) = begins_identifier x && list_all continues_identifier xs

-- one or more digits
abbrev pub is_number : List ℕ → Bool
is_number [] = false
is_number (x ∷ xs) = is_ascii_digit x && list_all is_ascii_digit xs

-- the value of digits, after others of that value
abbrev pub value_after : ℕ → List ℕ → ℕ
value_after n [] = n
value_after n (digit ∷ digits) = value_after (n * 10 + (digit - 48)) digits

-- the last capture
abbrev pub last_capture : ℕ
last_capture = 9

-- the capture of that number
abbrev pub capture_of : ℕ → Segment
capture_of n = if nat_le n last_capture then capture n else beyond

-- the reference of the words between its braces, which dots separate: one word is a name or a
-- number; of more the first is the name of a namespace
abbrev pub reference_of : List (List ℕ) → Option Segment
reference_of [] = None
reference_of (word ∷ []) =
    if is_identifier word then Some (variable word)
    else if is_number word then Some (capture_of (value_after 0 word))
    else None
reference_of (word ∷ another ∷ others) =
    if is_identifier word && list_all (λ w. is_identifier w || is_number w) (another ∷ others) then Some foreign else None

-- the words, with one more octet in the first
abbrev pub with_octet : ℕ → List (List ℕ) → List (List ℕ)
with_octet x [] = (x ∷ []) ∷ []
with_octet x (word ∷ others) = (x ∷ word) ∷ others

-- the words that dots separate
abbrev pub words : List ℕ → List (List ℕ)
words [] = [] ∷ []
words (x ∷ xs) = if x == 46 then [] ∷ words xs else with_octet x (words xs)

-- what stands before the first closing brace, if there is one
abbrev pub before_brace : List ℕ → Option (List ℕ)
before_brace [] = None
before_brace (x ∷ xs) = if x == 125 then Some [] else option_map (λ inside. x ∷ inside) (before_brace xs)

-- a reference, and how many octets stand after its first one
pub record Reference : Type 0 where
  pub segment : Segment
  pub rest : ℕ

abbrev pub with_rest : ℕ → Segment → Reference
with_rest n segment = record { segment = segment; rest = n }

-- the reference that a text begins with, if it does: `${`, the words, `}`
abbrev pub reference_at : List ℕ → Option Reference
reference_at (x ∷ y ∷ rest) =
    if (x == 36) && (y == 123)
    then option_and_then (λ inside. option_map (with_rest (length inside + 2)) (reference_of (words inside)))
    (before_brace rest)
    else None
reference_at _ = None

-- one octet, before segments: the stretch that they begin with is longer by it
abbrev pub with_one : ℕ → List Segment → List Segment
with_one x (stretch octets ∷ segments) = stretch (x ∷ octets) ∷ segments
with_one x segments = stretch (x ∷ []) ∷ segments

-- the segments of a text without so many octets, which belong to the reference before it
abbrev pub segments_after : ℕ → List ℕ → List Segment
segments_after n [] = []
segments_after (suc n) (x ∷ xs) = segments_after n xs
segments_after zero (x ∷ xs) =
    option_map_or (λ (found : Reference). found.segment ∷ segments_after found.rest xs) (reference_at (x ∷ xs))
    (with_one x (segments_after zero xs))

-- the segments of a string: its references, from left to right, and the longest stretches between them
abbrev pub segments : List ℕ → List Segment
segments string = segments_after 0 string

-- the names of the variables that a segment refers to, in lower case
abbrev pub names_of : Segment → List (List ℕ)
names_of (variable name) = lowercase_of name ∷ []
names_of _ = []

-- the names in a string, in lower case, as they stand in it
abbrev pub names_in : List ℕ → List (List ℕ)
names_in string = flat_map names_of (segments string)

-- with how many octets a segment is written, at least
abbrev pub extent_of : Segment → ℕ
extent_of (stretch octets) = length octets
extent_of (variable name) = 3 + length name
extent_of (capture n) = 4
extent_of beyond = 4
extent_of foreign = 4
