-- The limits of the command line.
use Rattle.std.specs.Prelude.{ℕ, ◌^◌}

-- octets that are read of a file, or of standard input: as many as a message may have
abbrev pub max_input : ℕ
max_input = 2 ^ 26
