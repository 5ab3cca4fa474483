-- The names of users.
use Rattle.std.specs.Prelude.{ℕ, ◌&&◌, ◌||◌, ◌==◌, Bool, List, length, nat_le}
use Rattle.std.specs.List.{list_all}
use Rattle.octets.specs.Limits.{max_user}

-- a letter from a to z, a digit, a dot, an underscore or a hyphen
abbrev pub is_name_octet : ℕ → Bool
is_name_octet octet = (nat_le 97 octet && nat_le octet 122) || (nat_le 48 octet && nat_le octet 57) || octet == 46
    || octet == 95 || octet == 45

-- a user's name has at least one of them, and no others
abbrev pub is_user_name : List ℕ → Bool
is_user_name name = nat_le 1 (length name) && nat_le (length name) max_user && list_all is_name_octet name
