-- Private: what is known of a page in memory.
use Rattle.std.specs.Prelude.{ℕ, Bool, true, false, List, Option, None, Some}
use Rattle.std.specs.Coded.{Coded-set, Unit-prop, coded_list, coded_ℕ}
use Rattle.std.specs.Io.KnownBytes.{Appends}

-- how many calls have failed since the page was made, by whether one has
abbrev pub failures : Bool → ℕ
failures false = 0
failures true = 1

-- that known octets grew is a fact with one proof at most
pub Appends-prop : (old new : Option (List ℕ)) (octets : List ℕ) → IsProp (Appends old new octets)
Appends-prop None new octets = Unit-prop
Appends-prop (Some xs) None octets = λ p q. absurd p
Appends-prop (Some xs) (Some ys) octets = Coded-set (coded_list coded_ℕ) _ _
