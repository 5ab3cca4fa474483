-- Worked values.
use Rattle.std.proofs.Common.{◌≡◌, [], ◌∷◌, Some, None, true, false, refl}
use Rattle.std.specs.Prelude.{ℕ, Bool, List, is_some, codes}
use Rattle.glob_match.specs.declared.comparator.Comparator.TheVariants.{Octet, Casemap}
use Rattle.glob_match.specs.declared.token.Token.TheVariants.{Literal, AnyOctet, Star}
use Rattle.glob_match.specs.Captures.{places_of_match}
use Rattle.glob_match.specs.Comparison.{is_match}
use Rattle.glob_match.specs.Tokens.{tokens_of, literals}
use Rattle.glob_match.specs.Matching.{match_of}
use Rattle.glob_match.specs.Containment.{contains_match}
use Rattle.glob_match.specs.declared.comparator.Comparator.{Comparator}
use Rattle.glob_match.specs.declared.match_type.MatchType.{MatchType}
use Rattle.glob_match.specs.declared.match_type.MatchType.TheVariants.{Is, Contains, Matches}

shortest_first : match_of Octet (codes "aXbXb") (codes "*X*b") ≡ Some (codes "aXbXb" ∷ codes "a" ∷ codes "bX" ∷ [])
shortest_first = refl

list_tag : match_of Casemap (codes "[acme] [fwd] x") (codes "[*] *")
    ≡ Some (codes "[acme] [fwd] x" ∷ codes "acme" ∷ codes "[fwd] x" ∷ [])
list_tag = refl

-- the same by the places, where an empty stretch has one, too
at_places : places_of_match Octet (codes "abXcX") (codes "*b*?c*X") ≡ Some (record { start = 0; end = 5 } ∷ record { start = 0; end = 1 } ∷ record { start = 2; end = 2 } ∷ record { start = 2; end = 3 } ∷ record { start = 4; end = 4 } ∷ [])
at_places = refl

-- the whole value has to fit
unanchored : match_of Octet (codes "abc") (codes "a*b") ≡ None
unanchored = refl

-- `?` takes one octet, no more and no less
any_octets : match_of Octet (codes "abc") (codes "?b?") ≡ Some (codes "abc" ∷ codes "a" ∷ codes "c" ∷ [])
any_octets = refl

no_octet : match_of Octet (codes "ab") (codes "ab?") ≡ None
no_octet = refl

empty : match_of Octet [] (codes "**") ≡ Some ([] ∷ [] ∷ [] ∷ [])
empty = refl

-- a backslash takes any octet literally, and a last one is itself
escaped : tokens_of (92 ∷ 42 ∷ 92 ∷ 97 ∷ 42 ∷ 92 ∷ 92 ∷ 63 ∷ 92 ∷ [])
    ≡ Literal 42 ∷ Literal 97 ∷ Star ∷ Literal 92 ∷ AnyOctet ∷ Literal 92 ∷ []
escaped = refl

escaped_literals : literals (tokens_of (92 ∷ 42 ∷ 92 ∷ 97 ∷ 42 ∷ 92 ∷ 92 ∷ 63 ∷ 92 ∷ [])) ≡ 4
escaped_literals = refl

escaped_star : match_of Octet (codes "ab") (97 ∷ 92 ∷ 42 ∷ []) ≡ None
escaped_star = refl

-- the captures keep the value's case
folded : match_of Casemap (codes "Abc") (codes "a*C") ≡ Some (codes "Abc" ∷ codes "b" ∷ [])
folded = refl

not_folded : match_of Octet (codes "Abc") (codes "a*c") ≡ None
not_folded = refl

equal : is_match Casemap (codes "Sub{ject") (codes "sUB{JECT") ≡ true
equal = refl

-- letters alone have a case
brackets_differ : is_match Casemap (codes "[") (codes "{") ≡ false
brackets_differ = refl

contained : contains_match Casemap (codes "a Key, b") (codes "kEY") ≡ true
contained = refl

empty_contained : contains_match Octet (codes "x") [] ≡ true
empty_contained = refl

-- the key of `:contains` has no wildcards
star_contained : contains_match Octet (codes "abc") (codes "a*c") ≡ false
star_contained = refl

-- whether the value matches the key in each of the three ways (RFC 5228, section 2.7.1)
abbrev matched : MatchType → Comparator → List ℕ → List ℕ → Bool
matched Is = is_match
matched Contains = contains_match
matched Matches = λ comparator value key. is_some (match_of comparator value key)

-- the three match types
matched_is : matched Is Casemap (codes "Key") (codes "kEY") ≡ true
matched_is = refl

matched_part : matched Is Octet (codes "a Key") (codes "Key") ≡ false
matched_part = refl

matched_contains : matched Contains Octet (codes "a Key") (codes "Key") ≡ true
matched_contains = refl

matched_star : matched Contains Octet (codes "a Key") (codes "K*") ≡ false
matched_star = refl

matched_matches : matched Matches Octet (codes "a Key") (codes "*K*") ≡ true
matched_matches = refl

matched_whole : matched Matches Octet (codes "a Key") (codes "K*") ≡ false
matched_whole = refl
