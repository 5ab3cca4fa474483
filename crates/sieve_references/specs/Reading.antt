-- Private: references, read word by word.
use Rattle.std.specs.Prelude.{ℕ, suc, Bool, not, ◌||◌, ◌==◌, List, [], ◌∷◌, length, drop, Option, Some, None, is_some, if◌then◌else◌}
use Rattle.std.specs.List.{list_all}
use Rattle.std.specs.Option.{option_and_then, option_map}
use Rattle.sieve_references.specs.References.{Segment, is_identifier, is_number, words, before_brace, reference_of, reference_at}

-- every octet but `$`
abbrev pub is_not_dollar : ℕ → Bool
is_not_dollar octet = not (octet == 36)

-- a name or a number
abbrev pub is_element : List ℕ → Bool
is_element word = is_identifier word || is_number word

-- what stands behind the closing brace, where each of the words before it is a name or a number
abbrev pub elements : List ℕ → Option (List ℕ)
elements text = option_and_then (λ inside. if list_all is_element (words inside) then Some (drop (suc (length inside)) text) else None) (before_brace text)

-- a reference, and what stands after it
pub record Found : Type 0 where
  pub segment : Segment
  pub rest : List ℕ

-- the reference whose `${` stands before a text
abbrev pub reference : List ℕ → Option Found
reference text =
    option_and_then
    (λ inside. option_map (λ segment. record { segment = segment; rest = drop (suc (length inside)) text }) (reference_of (words inside)))
    (before_brace text)

-- the reference whose `$` stands before a text
abbrev pub reference_behind : List ℕ → Option Found
reference_behind [] = None
reference_behind (x ∷ text) = if x == 123 then reference text else None

-- the reference that a text begins with
abbrev pub found_at : List ℕ → Option Found
found_at [] = None
found_at (x ∷ text) = if x == 36 then reference_behind text else None

-- how many octets stand before the first reference
abbrev pub octets_before : List ℕ → ℕ
octets_before [] = 0
octets_before (x ∷ xs) = if is_some (reference_at (x ∷ xs)) then 0 else suc (octets_before xs)
