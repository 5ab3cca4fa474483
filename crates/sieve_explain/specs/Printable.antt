-- What can be printed anywhere.
use Rattle.std.specs.Prelude.{◌≡◌, ℕ, Bool, true, nat_le, nat_lt, not, ◌&&◌, ◌||◌, ◌==◌, List, encode_utf8_all}
use Rattle.std.specs.List.{list_all}
use Rattle.std.specs.Str.{all_scalars}
use Rattle.sieve_explain.specs.Characters.{is_visible}

-- no control character of ASCII, or the end of a line
abbrev pub is_no_control : ℕ → Bool
is_no_control octet = (nat_le 32 octet && not (octet == 127)) || octet == 10

-- octets of which none is a control character of ASCII but the end of a line
abbrev pub have_no_controls : List ℕ → Bool
have_no_controls = list_all is_no_control

-- text in UTF-8 whose characters all pass the test
abbrev pub IsTextOf : (ℕ → Bool) → List ℕ → Type 0
IsTextOf test text = (cs : List ℕ) × (all_scalars cs ≡ true) × (list_all test cs ≡ true) × (encode_utf8_all cs ≡ text)

-- any character of ASCII, or a visible one
abbrev pub is_ascii_or_visible : ℕ → Bool
is_ascii_or_visible c = nat_lt c 128 || is_visible c

-- text in UTF-8 of such characters alone: any octets of ASCII, say, or visible characters alone
abbrev pub IsAsciiOrVisible : List ℕ → Type 0
IsAsciiOrVisible = IsTextOf is_ascii_or_visible

-- a visible character, or the end of a line
abbrev pub is_readable : ℕ → Bool
is_readable c = is_visible c || c == 10

-- text in UTF-8 of visible characters and ends of lines
abbrev pub IsReadable : List ℕ → Type 0
IsReadable = IsTextOf is_readable
