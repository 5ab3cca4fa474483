use Rattle.std.proofs.Common.{◌≡◌, drop}
use Rattle.std.specs.List.{list_any}
use Rattle.octets.specs.Ascii.{is_word}
use Rattle.sieve_explain.specs.Private.{texts_of}
use Rattle.sieve_explain.proofs.words.is_any.Given as goal

abbrev pub invariant-loop-word : goal.invariant-loop-word
invariant-loop-word l = list_any (is_word l.name) (texts_of (drop l.word-index l.words)) ≡ list_any (is_word l.name) (texts_of l.words)
