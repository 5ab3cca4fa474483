use Rattle.mime_tree.specs.TypeTexts.{AreTypeTexts}
use Rattle.mime_tree.proofs.type_texts.TypeTexts.read.Given as goal

abbrev pub invariant-loop-place : goal.invariant-loop-place
invariant-loop-place l = AreTypeTexts l.fields l.texts.items
