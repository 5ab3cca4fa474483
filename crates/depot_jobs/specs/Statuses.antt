-- The statuses of the program.
use Rattle.std.specs.Prelude.{ℕ}

-- the status of success, of a refusal or of an answer that broke off, and of words that are no command
abbrev pub success : ℕ
success = 0

abbrev pub refused : ℕ
refused = 1

abbrev pub usage : ℕ
usage = 2
