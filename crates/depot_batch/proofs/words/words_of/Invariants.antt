use Rattle.std.proofs.Common.{◌≡◌, map}
use Rattle.depot_batch.specs.Words.{words_of}
use Rattle.depot_batch.proofs.WordLemmas.{after_words, words_from}
use Rattle.depot_batch.proofs.words.words_of.Given as goal

abbrev pub invariant-texts : goal.invariant-texts
invariant-texts l = words_of l.line ≡ after_words (map (λ w. w.items) l.words.items) (words_from l.text-items l.text-index)
