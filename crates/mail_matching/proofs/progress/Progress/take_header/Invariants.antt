use Rattle.std.proofs.Common.{flat_map, take}
use Rattle.mail_matching.specs.Headers.{selected_named}
use Rattle.mail_matching.specs.Private.{GoesOn}
use Rattle.mail_matching.proofs.progress.Progress.take_header.Given as goal

abbrev pub invariant-loop-place : goal.invariant-loop-place
invariant-loop-place g l =
    GoesOn
    g.T.Telling.knows
    l.test.how
    (flat_map (selected_named l.test.selector (g.P.Texts.texts l.test.params.now) l.fields) (take l.place (g.N.Texts.texts l.names)))
    (g.K.Texts.texts l.test.keys.now)
    l.initial.self
    l.self
