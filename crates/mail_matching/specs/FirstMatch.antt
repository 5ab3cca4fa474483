-- The first value that matches a key, and the captures after it (RFC 5228, sections 2.7.1 and 5.7;
-- RFC 5229, section 3.2).
use Rattle.std.specs.Prelude.{◌≡◌, ◌⊎◌, ℕ, ◌-◌, List, [], ◌∷◌, ◌++◌, length, replicate, Option, None, Some, if◌then◌else◌}
use Rattle.std.specs.Option.{option_map, option_or}
use Rattle.glob_match.specs.Comparison.{is_match}
use Rattle.glob_match.specs.Containment.{contains_match}
use Rattle.glob_match.specs.Matching.{match_of, max_captures}
use Rattle.glob_match.specs.declared.comparator.Comparator.{Comparator}
use Rattle.glob_match.specs.declared.match_type.Match.{Match}
use Rattle.glob_match.specs.declared.match_type.MatchType.{MatchType}
use Rattle.glob_match.specs.declared.match_type.MatchType.TheVariants.{Is, Contains, Matches}

-- ten empty captures
abbrev pub no_captures : List (List ℕ)
no_captures = replicate max_captures []

-- captures with empty ones after them, so that there are ten
abbrev pub ten_of : List (List ℕ) → List (List ℕ)
ten_of captures = captures ++ replicate (max_captures - length captures) []

-- the captures after a value and a key were compared, where the value matches: `:matches` sets all
-- of them, `:is` and `:contains` leave them
abbrev pub after_comparison : MatchType → Comparator → List ℕ → List ℕ → List (List ℕ) → Option (List (List ℕ))
after_comparison Is comparator value key captures = if is_match comparator value key then Some captures else None
after_comparison Contains comparator value key captures = if contains_match comparator value key then Some captures else None
after_comparison Matches comparator value key captures = option_map ten_of (match_of comparator value key)

abbrev pub after_match : Match → List ℕ → List ℕ → List (List ℕ) → Option (List (List ℕ))
after_match how value key captures = after_comparison how.kind how.comparator value key captures

-- the captures after the first of the keys, in order, that the value matches; None where it matches none
abbrev pub first_key : Match → List ℕ → List (List ℕ) → List (List ℕ) → Option (List (List ℕ))
first_key how value [] captures = None
first_key how value (key ∷ keys) captures = option_or (after_match how value key captures)
    (first_key how value keys captures)

-- the captures after the first match of the values, in order, with the keys, for each value in
-- order; None where there is none
abbrev pub first_match : Match → List (List ℕ) → List (List ℕ) → List (List ℕ) → Option (List (List ℕ))
first_match how [] keys captures = None
first_match how (value ∷ values) keys captures = option_or (first_key how value keys captures)
    (first_match how values keys captures)

-- a test that fails or holds, and in neither case sets captures
abbrev pub KeepsCaptures : (List (List ℕ) → Option (List (List ℕ))) → Type 0
KeepsCaptures test = (captures : List (List ℕ)) → (test captures ≡ None) ⊎ (test captures ≡ Some captures)
