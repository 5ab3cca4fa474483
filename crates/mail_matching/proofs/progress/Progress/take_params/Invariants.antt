use Rattle.std.proofs.Common.{take}
use Rattle.mail_matching.specs.Selection.{params_of, reading_of}
use Rattle.mail_matching.specs.Headers.{values_of_params}
use Rattle.mail_matching.specs.Private.{GoesOn}
use Rattle.mail_matching.proofs.progress.Progress.take_params.Given as goal

abbrev pub invariant-loop-place : goal.invariant-loop-place
invariant-loop-place g l =
    GoesOn g.T.Telling.knows l.test.how (values_of_params (params_of (reading_of l.field)) (take l.place (g.P.Texts.texts l.test.params.now))) (g.K.Texts.texts l.test.keys.now) l.initial.self l.self
