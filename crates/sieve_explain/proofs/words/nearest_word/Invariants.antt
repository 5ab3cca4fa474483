use Rattle.std.proofs.Common.{◌≡◌, drop}
use Rattle.sieve_explain.specs.Words.{nearest_but}
use Rattle.sieve_explain.specs.Private.{texts_of}
use Rattle.sieve_explain.proofs.words.nearest_word.Given as goal

abbrev pub invariant-loop-word : goal.invariant-loop-word
invariant-loop-word l = nearest_but l.name l.found (texts_of (drop l.word-index l.words)) ≡ nearest_but l.name l.found (texts_of l.words)
