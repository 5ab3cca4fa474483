use Rattle.std.proofs.Common.{flat_map, take}
use Rattle.mail_matching.specs.Headers.{selected_among}
use Rattle.mail_matching.specs.Private.{GoesOn}
use Rattle.mail_matching.proofs.header_test.take_headers.Given as goal

abbrev pub invariant-loop-place : goal.invariant-loop-place
invariant-loop-place g l =
    GoesOn
    g.T.Telling.knows
    l.test.how
    (flat_map (selected_among l.test.selector (g.P.Texts.texts l.test.params.now) (g.N.Texts.texts l.names)) (take l.place l.headers))
    (g.K.Texts.texts l.test.keys.now)
    l.initial.progress
    l.progress
