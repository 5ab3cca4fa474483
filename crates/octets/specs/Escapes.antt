-- Octets written as two hexadecimal digits, after a backslash in a quoted text.
use Rattle.std.specs.Prelude.{ℕ, ◌+◌, ◌*◌, ◌==◌, ◌&&◌, nat_lt, Bool, List, [], ◌∷◌, Option, Some, None, if◌then◌else◌}
use Rattle.std.specs.Char.{digit_value}
use Rattle.std.specs.Option.{option_map}

-- a hexadecimal digit of either case
abbrev pub is_hex : ℕ → Bool
is_hex octet = nat_lt (digit_value octet) 16

-- the octet of two hexadecimal digits
abbrev pub octet_of_digits : ℕ → ℕ → Option ℕ
octet_of_digits high low =
    if is_hex high && is_hex low then Some (16 * digit_value high + digit_value low) else None

-- the octet whose digits stand first, and what is left after them
abbrev pub escape_at : List ℕ → Option (ℕ × List ℕ)
escape_at [] = None
escape_at (high ∷ []) = None
escape_at (high ∷ low ∷ rest) = option_map (λ octet. (octet, rest)) (octet_of_digits high low)

-- what an octet of a quoted text says with those after it, and what is left: itself, or after a
-- backslash the octet of the two digits
abbrev pub said_at : ℕ → List ℕ → Option (ℕ × List ℕ)
said_at octet rest = if octet == 92 then escape_at rest else Some (octet, rest)
