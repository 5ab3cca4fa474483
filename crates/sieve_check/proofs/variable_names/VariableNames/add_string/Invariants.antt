use Rattle.std.proofs.Common.{◌≡◌, bytes_eq, length}
use Rattle.octets.specs.Once.{with_more}
use Rattle.sieve_references.specs.References.{names_in}
use Rattle.sieve_check.specs.Refusing.{listed}
use Rattle.sieve_check.proofs.variable_names.VariableNames.add_string.Given as goal

-- the names so far, with those that are left, are those with all of them
abbrev pub invariant-segments : goal.invariant-segments
invariant-segments l = with_more bytes_eq (listed l.self) (names_in l.rest) ≡ with_more bytes_eq (listed l.fn.self) (names_in l.string)

abbrev pub decreases-segments : goal.decreases-segments
decreases-segments l = length l.rest
