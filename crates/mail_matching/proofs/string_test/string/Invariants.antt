use Rattle.std.proofs.Common.{take}
use Rattle.mail_matching.specs.Private.{GoesOn}
use Rattle.mail_matching.proofs.string_test.string.Given as goal

-- the sources so far
abbrev pub invariant-loop-place : goal.invariant-loop-place
invariant-loop-place g l = GoesOn g.T.Telling.knows l.how (take l.place (g.S.Texts.texts l.sources)) (g.K.Texts.texts l.keys) l.initial.progress l.progress
