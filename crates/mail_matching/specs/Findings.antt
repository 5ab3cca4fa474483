-- The first value and key that match, and what a test finds that compares values with keys.
use Rattle.std.specs.Prelude.{ℕ, Bool, false, true, List, [], ◌∷◌, length, take, Option, None, Some, is_some, if◌then◌else◌}
use Rattle.std.specs.Option.{option_and_then, option_map, option_or}
use Rattle.glob_match.specs.Comparison.{is_match}
use Rattle.glob_match.specs.Containment.{contains_match}
use Rattle.glob_match.specs.Matching.{match_of}
use Rattle.glob_match.specs.declared.comparator.Comparator.{Comparator}
use Rattle.glob_match.specs.declared.match_type.Match.{Match}
use Rattle.glob_match.specs.declared.match_type.MatchType.{MatchType}
use Rattle.glob_match.specs.declared.match_type.MatchType.TheVariants.{Is, Contains, Matches}
use Rattle.mail_matching.specs.FirstMatch.{after_match}
use Rattle.mail_matching.specs.declared.finding.Finding.{Finding}
use Rattle.mail_matching.specs.declared.finding.Finding.TheVariants.{Pair as Matched, NoneOf}

-- whether a value matches a key
abbrev pub is_matched_by : MatchType → Comparator → List ℕ → List ℕ → Bool
is_matched_by Is comparator value key = is_match comparator value key
is_matched_by Contains comparator value key = contains_match comparator value key
is_matched_by Matches comparator value key = is_some (match_of comparator value key)

-- the first of the keys, in order, that the value matches
abbrev pub key_of : Match → List ℕ → List (List ℕ) → Option (List ℕ)
key_of how value [] = None
key_of how value (key ∷ keys) = if is_matched_by how.kind how.comparator value key then Some key else key_of how value keys

-- a value and a key
pub record Pair : Type 0 where
  pub value : List ℕ
  pub key : List ℕ

abbrev pub pair : List ℕ → List ℕ → Pair
pair value key = record { value = value; key = key }

-- the first value and key that match: the values in order, and for each the keys in order
abbrev pub first_pair : Match → List (List ℕ) → List (List ℕ) → Option Pair
first_pair how [] keys = None
first_pair how (value ∷ values) keys = option_or (option_map (pair value) (key_of how value keys)) (first_pair how values keys)

-- the captures after a pair
abbrev pub after_pair : Match → List (List ℕ) → Option Pair → Option (List (List ℕ))
after_pair how captures found = option_and_then (λ p. after_match how p.value p.key captures) found

-- what a test finds: the first pair; or, where there is none, how many values there were
abbrev pub finding_from : ℕ → Option Pair → Finding
finding_from number None = NoneOf number
finding_from number (Some p) = Matched p.value p.key

abbrev pub finding_of : Match → List (List ℕ) → List (List ℕ) → Finding
finding_of how values keys = finding_from (length values) (first_pair how values keys)

-- whether it is a pair
abbrev pub is_pair : Finding → Bool
is_pair (Matched value key) = true
is_pair (NoneOf number) = false

-- the same, with the first octets of the value and of the key, at most so many of each
abbrev pub shortened : ℕ → Finding → Finding
shortened most (Matched value key) = Matched (take most value) (take most key)
shortened most (NoneOf number) = NoneOf number
