use Rattle.std.proofs.Common.{◌≡◌, drop, map}
use Rattle.sieve_explain.specs.Words.{words_for}
use Rattle.sieve_explain.specs.Private.{hint_of}
use Rattle.sieve_explain.proofs.words.words_for.Given as goal

abbrev pub invariant-loop-names : goal.invariant-loop-names
invariant-loop-names l = words_for l.name (map hint_of (drop l.names-index l.rows)) ≡ words_for l.name (map hint_of l.rows)
