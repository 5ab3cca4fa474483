-- What comparators compare (RFC 4790, sections 9.2 and 9.3).
use Rattle.std.specs.Prelude.{ℕ, Bool, ◌==◌, List, map}
use Rattle.std.specs.Char.{to_ascii_uppercase}
use Rattle.std.specs.Cmp.Lexicographic.{pointwise}
use Rattle.glob_match.specs.declared.comparator.Comparator.{Comparator}
use Rattle.glob_match.specs.declared.comparator.Comparator.TheVariants.{Octet, Casemap}

-- the octet that is compared in place of an octet
abbrev pub compared_octet : Comparator → ℕ → ℕ
compared_octet Octet octet = octet
compared_octet Casemap octet = to_ascii_uppercase octet

-- the text that is compared in place of a text
abbrev pub compared : Comparator → List ℕ → List ℕ
compared comparator text = map (compared_octet comparator) text

-- whether the octets are equal under the comparator
abbrev pub same_octet : Comparator → ℕ → ℕ → Bool
same_octet comparator a b = compared_octet comparator a == compared_octet comparator b

-- whether the value is the key under the comparator
abbrev pub is_match : Comparator → List ℕ → List ℕ → Bool
is_match comparator value key = pointwise (same_octet comparator) value key
