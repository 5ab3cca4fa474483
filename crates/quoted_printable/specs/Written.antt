-- Private: how an octet is written that another follows.
use Rattle.std.specs.Prelude.{ℕ, false, if◌then◌else◌}
use Rattle.quoted_printable.specs.QuotedPrintable.{equals, stands}

-- what is written first: itself, or `=` where it is written with digits
abbrev pub first_of : ℕ → ℕ
first_of octet = if stands octet false then octet else equals

-- how many octets are written
abbrev pub length_of : ℕ → ℕ
length_of octet = if stands octet false then 1 else 3
