-- A text that comes in pieces.
use Rattle.std.specs.Prelude.{◌||◌, Bool, false, List, [], ◌∷◌, ◌++◌, ℕ, if◌then◌else◌}
use Rattle.octet_lanes.specs.declared.alphabet.Alphabet.TheVariants.{Base64}
use Rattle.octet_lanes.specs.Encoding.{contains_padding, left_over, octets_of, text_bits}

-- what a decoder keeps between pieces: bits that make no octet yet, and whether a `=` came
pub record Kept : Type 0 where
  pub bits : List ℕ
  pub ended : Bool

-- what is kept before a text
abbrev pub nothing_kept : Kept
nothing_kept = record { bits = []; ended = false }

-- the bits that are kept, then those of a piece; none of these once a `=` came
abbrev pub bits_with : Kept → List ℕ → List ℕ
bits_with kept piece = kept.bits ++ (if kept.ended then [] else text_bits Base64 piece)

-- what is kept after a piece, whose whole octets are given out
abbrev pub kept_with : Kept → List ℕ → Kept
kept_with kept piece = record { bits = left_over 8 (bits_with kept piece); ended = kept.ended || contains_padding piece }

-- what is given out for pieces in turn
abbrev pub octets_in_turn : Kept → List (List ℕ) → List ℕ
octets_in_turn kept [] = []
octets_in_turn kept (piece ∷ pieces) = octets_of (bits_with kept piece) ++ octets_in_turn (kept_with kept piece) pieces

-- what is kept after pieces in turn
abbrev pub kept_in_turn : Kept → List (List ℕ) → Kept
kept_in_turn kept [] = kept
kept_in_turn kept (piece ∷ pieces) = kept_in_turn (kept_with kept piece) pieces
