use Rattle.std.proofs.Common.{◌≡◌, bytes_eq, flat_map, length}
use Rattle.octets.specs.Once.{with_more}
use Rattle.sieve_references.specs.References.{names_in}
use Rattle.sieve_check.specs.Refusing.{listed}
use Rattle.sieve_check.proofs.variable_names.VariableNames.add_strings.Given as goal

-- the names so far, with those that are left, are those with all of them
abbrev pub invariant-strings : goal.invariant-strings
invariant-strings l = with_more bytes_eq (listed l.self) (flat_map names_in l.strings) ≡ with_more bytes_eq (listed l.fn.self) (flat_map names_in l.fn.strings)

abbrev pub decreases-strings : goal.decreases-strings
decreases-strings l = length l.strings
