use Rattle.std.proofs.Common.{◌≡◌, ◌+◌, length}
use Rattle.octets.specs.Limits.{max_test_strings}
use Rattle.sieve_check.specs.Reading.{read_of}
use Rattle.sieve_check.specs.Rules.{lists_read, strings_of}
use Rattle.sieve_check.proofs.string_flaws.has_many_strings.Given as goal

abbrev pub invariant-strings : goal.invariant-strings
invariant-strings l = l.left + length (strings_of (lists_read (read_of l.fn.reading))) ≡ max_test_strings + length l.strings

abbrev pub decreases-strings : goal.decreases-strings
decreases-strings l = length l.strings
