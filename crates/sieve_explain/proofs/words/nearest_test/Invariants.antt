use Rattle.std.proofs.Common.{◌≡◌, drop, map}
use Rattle.sieve_check.specs.Rows.{test_word}
use Rattle.sieve_explain.specs.Words.{nearest_but}
use Rattle.sieve_explain.proofs.words.nearest_test.Given as goal

abbrev pub invariant-loop-known : goal.invariant-loop-known
invariant-loop-known l = nearest_but l.name l.found (map test_word (drop l.known-index l.tests)) ≡ nearest_but l.name l.found (map test_word l.tests)
