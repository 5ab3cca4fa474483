-- What the steps of the kernels hold in a lane.
use Rattle.std.specs.Prelude.{ℕ, ◌+◌, ◌%◌, ◌==◌, nat_le, if◌then◌else◌}

-- the sum, less 256 where it is as many
abbrev pub added : ℕ → ℕ → ℕ
added x y = (x + y) % 256

-- the number y from n on
abbrev pub if_from : ℕ → ℕ → ℕ → ℕ
if_from n y x = if nat_le n x then y else 0

-- the number y where x is n
abbrev pub if_equal : ℕ → ℕ → ℕ → ℕ
if_equal n y x = if x == n then y else 0
