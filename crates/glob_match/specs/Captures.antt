-- Captures as stretches of a value: their texts, and where they stand.
use Rattle.std.specs.Prelude.{ℕ, ◌+◌, ◌-◌, ◌≤◌, List, [], ◌∷◌, length, map, min, slice_range, take, Option}
use Rattle.std.specs.Option.{option_map}
use Rattle.glob_match.specs.Matching.{least_fit, max_capture, max_captures}
use Rattle.glob_match.specs.Tokens.{tokens_of}
use Rattle.glob_match.specs.declared.captures.Stretch.{Stretch}
use Rattle.glob_match.specs.declared.comparator.Comparator.{Comparator}
use Rattle.glob_match.specs.declared.token.Token.{Token}
use Rattle.glob_match.specs.declared.token.Token.TheVariants.{Literal, AnyOctet, Star}

-- the texts of stretches of a value
abbrev pub texts : List ℕ → List Stretch → List (List ℕ)
texts value = map (λ stretch. slice_range value stretch.start stretch.end)

-- a stretch of so many octets from a place on
abbrev pub stretch_at : ℕ → ℕ → Stretch
stretch_at place octets = record { start = place; end = place + octets }

-- Where the texts stand that are put in place of the wildcards, where the first token stands at this place: a literal takes
-- one octet and a wildcard those of its text, so that each begins where what stands before it ends.
abbrev pub places_from : ℕ → List Token → List (List ℕ) → List Stretch
places_from place [] stretches = []
places_from place (Literal octet ∷ key) stretches = places_from (place + 1) key stretches
places_from place (AnyOctet ∷ key) [] = []
places_from place (AnyOctet ∷ key) (stretch ∷ stretches) = stretch_at place (length stretch) ∷ places_from (place + length stretch) key stretches
places_from place (Star ∷ key) [] = []
places_from place (Star ∷ key) (stretch ∷ stretches) = stretch_at place (length stretch) ∷ places_from (place + length stretch) key stretches

-- the first octets of a stretch, as many as are kept
abbrev pub cut : Stretch → Stretch
cut stretch = stretch_at stretch.start (min (stretch.end - stretch.start) max_capture)

-- the stretch that is the whole value
abbrev pub whole : List ℕ → Stretch
whole value = record { start = 0; end = length value }

-- where the captures of a value stand that fits the tokens with these texts
abbrev pub capture_places : List ℕ → List Token → List (List ℕ) → List Stretch
capture_places value key stretches = map cut (take max_captures (whole value ∷ places_from 0 key stretches))

-- where the captures of a value that fits the key stand, and None where it doesn't fit
abbrev pub places_of_match : Comparator → List ℕ → List ℕ → Option (List Stretch)
places_of_match comparator value key = option_map (capture_places value (tokens_of key)) (least_fit comparator (tokens_of key) value)

-- stretches of a text of so many octets
abbrev pub LieWithin : ℕ → List Stretch → Type 0
LieWithin size [] = Unit {0}
LieWithin size (stretch ∷ stretches) = (stretch.start ≤ stretch.end) × (stretch.end ≤ size) × LieWithin size stretches
