-- Private: how the search goes. Segments of a key between its stars, marks of places, and captures one after another.
use Rattle.std.specs.Prelude.{ℕ, ◌+◌, ◌==◌, Bool, List, [], ◌∷◌, ◌++◌, drop, map, take, Option, if◌then◌else◌}
use Rattle.std.specs.Option.{option_map}
use Rattle.glob_match.specs.declared.captures.Stretch.{Stretch}
use Rattle.glob_match.specs.declared.comparator.Comparator.{Comparator}
use Rattle.glob_match.specs.declared.token.Token.{Token}
use Rattle.glob_match.specs.declared.token.Token.TheVariants.{Literal, AnyOctet, Star}
use Rattle.glob_match.specs.Captures.{cut, places_from, stretch_at}
use Rattle.glob_match.specs.Matching.{least_fit, max_captures}
use Rattle.glob_match.specs.Tokens.{tokens_of}

-- none of the tokens is a star
abbrev pub NoStar : List Token → Type 0
NoStar [] = Unit {0}
NoStar (Literal octet ∷ key) = NoStar key
NoStar (AnyOctet ∷ key) = NoStar key
NoStar (Star ∷ key) = ⊥

-- what the wildcards among tokens without stars stand for, where the value begins with octets that the tokens stand for
abbrev pub any_octets : List Token → List ℕ → List (List ℕ)
any_octets [] value = []
any_octets (token ∷ key) [] = []
any_octets (AnyOctet ∷ key) (x ∷ xs) = (x ∷ []) ∷ any_octets key xs
any_octets (token ∷ key) (x ∷ xs) = any_octets key xs

-- the mark of a lane, and 0 where it isn't the octet
abbrev pub kept_if : ℕ → ℕ → ℕ → ℕ
kept_if octet x mark = if x == octet then mark else 0

-- the marks of the places from which on the text passes, and 0 for the others
abbrev pub marked : (List ℕ → Bool) → List ℕ → List ℕ → List ℕ
marked test [] text = []
marked test (mark ∷ marks) text = (if test text then mark else 0) ∷ marked test marks (drop 1 text)

-- where the wildcards of tokens without stars stand, of which the first stands at this place
abbrev pub any_places : ℕ → List Token → List Stretch
any_places place [] = []
any_places place (Literal octet ∷ key) = any_places (place + 1) key
any_places place (AnyOctet ∷ key) = stretch_at place 1 ∷ any_places (place + 1) key
any_places place (Star ∷ key) = any_places (place + 1) key

-- captures with those of further stretches, as far as there is room
abbrev pub with_stretches : List Stretch → List Stretch → List Stretch
with_stretches captures stretches = take max_captures (captures ++ map cut stretches)

-- the captures so far with those of the wildcards of tokens, of which the first stands at this place
abbrev pub with_places : List Stretch → ℕ → List Token → List (List ℕ) → List Stretch
with_places captures place key texts = with_stretches captures (places_from place key texts)

-- the captures so far with those of a star and what follows it in a key, where the value from the place on fits these
abbrev pub captures_after_star : Comparator → List ℕ → ℕ → List ℕ → List Stretch → Option (List Stretch)
captures_after_star comparator value start key captures =
    option_map (with_places captures start (Star ∷ tokens_of key)) (least_fit comparator (Star ∷ tokens_of key) (drop start value))
