use Rattle.std.proofs.Common.{◌≡◌, drop}
use Rattle.std.specs.List.{find}
use Rattle.octets.specs.Ascii.{is_word}
use Rattle.sieve_check.specs.Rows.{test_word}
use Rattle.sieve_check.proofs.table.first_test.Given as goal

abbrev pub invariant-loop-known : goal.invariant-loop-known
invariant-loop-known l = find (λ known. is_word l.name (test_word known)) (drop l.known-index l.tests) ≡ find (λ known. is_word l.name (test_word known)) l.tests
