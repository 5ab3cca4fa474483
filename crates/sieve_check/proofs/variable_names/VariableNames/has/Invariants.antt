use Rattle.std.proofs.Common.{◌≡◌, bytes_eq, drop}
use Rattle.octets.specs.Ascii.{lowercase_of}
use Rattle.octets.specs.Once.{is_listed}
use Rattle.sieve_check.specs.Refusing.{shown}
use Rattle.sieve_check.proofs.variable_names.VariableNames.has.Given as goal

-- what is left has it where all of them have
abbrev pub invariant-loop-known : goal.invariant-loop-known
invariant-loop-known l = is_listed bytes_eq (lowercase_of l.name) (shown (drop l.known-index l.known-items)) ≡ is_listed bytes_eq (lowercase_of l.name) (shown l.known-items)
