use Rattle.std.proofs.Common.{◌≡◌, map, take}
use Rattle.depot_batch.proofs.line.texts.Given as goal

abbrev pub invariant-loop-word : goal.invariant-loop-word
invariant-loop-word l = map (λ text. text.now) l.texts.items ≡ map (λ w. w.items) (take l.word-index l.words)
