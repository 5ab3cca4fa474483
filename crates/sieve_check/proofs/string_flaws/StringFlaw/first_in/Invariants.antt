use Rattle.std.proofs.Common.{◌≡◌, length}
use Rattle.sieve_check.specs.Rules.{string_has}
use Rattle.std.specs.List.{find}
use Rattle.sieve_check.proofs.string_flaws.StringFlaw.first_in.Given as goal

abbrev pub invariant-strings : goal.invariant-strings
invariant-strings l = find (string_has l.self) l.strings ≡ find (string_has l.self) l.fn.strings

abbrev pub decreases-strings : goal.decreases-strings
decreases-strings l = length l.strings
