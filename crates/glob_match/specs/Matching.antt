-- Matching with wildcards (RFC 5228, section 2.7.1; RFC 5229, section 3.2).
use Rattle.std.specs.Prelude.{◌≡◌, ◌⊎◌, ℕ, ◌<◌, IsTrue, List, [], ◌∷◌, ◌++◌, map, length, take, Option, Some, None, if◌then◌else◌}
use Rattle.std.specs.Option.{option_map, option_or}
use Rattle.glob_match.specs.declared.comparator.Comparator.{Comparator}
use Rattle.glob_match.specs.declared.token.Token.{Token}
use Rattle.glob_match.specs.declared.token.Token.TheVariants.{Literal, AnyOctet, Star}
use Rattle.glob_match.specs.Comparison.{same_octet}
use Rattle.glob_match.specs.Tokens.{tokens_of}

-- ---- what fits

-- The value fits the tokens with the stretches, one for each wildcard in order: with the stretches in place of the
-- wildcards, and each literal equal under the comparator, they are the value.
abbrev pub Fits : Comparator → List Token → List (List ℕ) → List ℕ → Type 0
Fits comparator [] stretches value = (stretches ≡ []) × (value ≡ [])
Fits comparator (Literal octet ∷ key) stretches value =
    (x : ℕ) × (rest : List ℕ) × (value ≡ x ∷ rest) × IsTrue (same_octet comparator x octet) × Fits comparator key stretches rest
Fits comparator (AnyOctet ∷ key) stretches value =
    (x : ℕ) × (rest : List ℕ) × (others : List (List ℕ)) × (value ≡ x ∷ rest) × (stretches ≡ (x ∷ []) ∷ others) × Fits comparator key others rest
Fits comparator (Star ∷ key) stretches value =
    (stretch rest : List ℕ) × (others : List (List ℕ)) × (value ≡ stretch ++ rest) × (stretches ≡ stretch ∷ others) × Fits comparator key others rest

-- numbers compared from the left: at the first that differs the former list has the lesser
abbrev pub IsAtMost : List ℕ → List ℕ → Type 0
IsAtMost [] others = Unit {0}
IsAtMost (a ∷ lengths) [] = ⊥
IsAtMost (a ∷ lengths) (b ∷ others) = (a < b) ⊎ ((a ≡ b) × IsAtMost lengths others)

-- of all lists of stretches that the value fits with, the one with the least lengths, compared from the left
pub record IsLeastFit (comparator : Comparator) (key : List Token) (value : List ℕ) (stretches : List (List ℕ)) : Type 0 where
  pub fits : Fits comparator key stretches value
  pub least : (others : List (List ℕ)) → Fits comparator key others value → IsAtMost (map length stretches) (map length others)

-- ---- captures

-- how many captures there are: the whole value, and the stretches of the first wildcards
abbrev pub max_captures : ℕ
max_captures = 10

-- how many octets of a capture are kept
abbrev pub max_capture : ℕ
max_capture = 4096

-- the captures of a value and its stretches
abbrev pub captures_of : List ℕ → List (List ℕ) → List (List ℕ)
captures_of value stretches = map (take max_capture) (take max_captures (value ∷ stretches))

-- the captures of a value that fits the key
abbrev pub Captured : Comparator → List ℕ → List ℕ → List (List ℕ) → Type 0
Captured comparator value key captures =
    (stretches : List (List ℕ)) × IsLeastFit comparator (tokens_of key) value stretches × (captures ≡ captures_of value stretches)

-- ---- the same as a function

-- the stretches that a value fits with, where it does
abbrev pub Fit : Type 0
Fit = List ℕ → Option (List (List ℕ))

-- no token: the empty value alone
abbrev pub empty_fit : Fit
empty_fit [] = Some []
empty_fit (x ∷ xs) = None

-- a literal, and then what `fit` takes
abbrev pub literal_fit : Comparator → ℕ → Fit → Fit
literal_fit comparator octet fit [] = None
literal_fit comparator octet fit (x ∷ xs) = if same_octet comparator x octet then fit xs else None

-- any octet, and then what `fit` takes
abbrev pub any_fit : Fit → Fit
any_fit fit [] = None
any_fit fit (x ∷ xs) = option_map (λ others. (x ∷ []) ∷ others) (fit xs)

-- the first stretch with an octet before it
abbrev pub lengthened : ℕ → List (List ℕ) → List (List ℕ)
lengthened x [] = []
lengthened x (stretch ∷ others) = (x ∷ stretch) ∷ others

-- the shortest stretch after which `fit` takes the rest, and then that
abbrev pub star_fit : Fit → Fit
star_fit fit [] = option_map (λ others. [] ∷ others) (fit [])
star_fit fit (x ∷ xs) = option_or (option_map (λ others. [] ∷ others) (fit (x ∷ xs))) (option_map (lengthened x) (star_fit fit xs))

-- the least stretches that the value fits the tokens with
abbrev pub least_fit : Comparator → List Token → Fit
least_fit comparator [] = empty_fit
least_fit comparator (Literal octet ∷ key) = literal_fit comparator octet (least_fit comparator key)
least_fit comparator (AnyOctet ∷ key) = any_fit (least_fit comparator key)
least_fit comparator (Star ∷ key) = star_fit (least_fit comparator key)

-- the captures of a value that fits the key, and None where it doesn't
abbrev pub match_of : Comparator → List ℕ → List ℕ → Option (List (List ℕ))
match_of comparator value key = option_map (captures_of value) (least_fit comparator (tokens_of key) value)
