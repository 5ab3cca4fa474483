use Rattle.std.proofs.Common.{◌≡◌, ◌++◌, length, map}
use Rattle.depot_batch.specs.Words.{texts_of}
use Rattle.depot_batch.proofs.words.texts_of.Given as goal

abbrev pub invariant-texts : goal.invariant-texts
invariant-texts l = texts_of l.line ≡ map (λ t. t.now) l.texts.items ++ texts_of l.rest

abbrev pub decreases-texts : goal.decreases-texts
decreases-texts l = length l.rest
