-- Where a value has a stretch that is a key (RFC 5228, section 2.7.1).
use Rattle.std.specs.Prelude.{◌≡◌, ℕ, ◌+◌, Bool, true, false, ◌&&◌, List, [], ◌∷◌, ◌++◌, map, Option, Some, None, is_some, if◌then◌else◌}
use Rattle.std.specs.Option.{option_map}
use Rattle.glob_match.specs.declared.comparator.Comparator.{Comparator}
use Rattle.glob_match.specs.declared.token.Token.{Token}
use Rattle.glob_match.specs.declared.token.Token.TheVariants.{Literal, AnyOctet, Star}
use Rattle.glob_match.specs.Comparison.{compared, same_octet}

-- a stretch of the value is equal to the key under the comparator
abbrev pub HasStretch : Comparator → List ℕ → List ℕ → Type 0
HasStretch comparator value key =
    (before stretch after : List ℕ) × (value ≡ before ++ (stretch ++ after)) × (compared comparator stretch ≡ compared comparator key)

-- whether the token, a star excepted, stands for the octet
abbrev pub takes : Comparator → Token → ℕ → Bool
takes comparator (Literal octet) x = same_octet comparator x octet
takes comparator AnyOctet x = true
takes comparator Star x = false

-- whether the value begins with octets that the tokens stand for
abbrev pub begins_with : Comparator → List Token → List ℕ → Bool
begins_with comparator [] value = true
begins_with comparator (token ∷ key) [] = false
begins_with comparator (token ∷ key) (x ∷ xs) = takes comparator token x && begins_with comparator key xs

-- the first place from which on the value passes the test
abbrev pub first_place : (List ℕ → Bool) → List ℕ → Option ℕ
first_place test [] = if test [] then Some 0 else None
first_place test (x ∷ xs) = if test (x ∷ xs) then Some 0 else option_map (λ place. place + 1) (first_place test xs)

-- whether a stretch of the value is the key under the comparator
abbrev pub contains_match : Comparator → List ℕ → List ℕ → Bool
contains_match comparator value key = is_some (first_place (begins_with comparator (map Literal key)) value)
