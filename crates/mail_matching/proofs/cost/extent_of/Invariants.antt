use Rattle.std.proofs.Common.{◌≡◌, take}
use Rattle.mail_matching.specs.Costs.{extent_of}
use Rattle.mail_matching.proofs.cost.extent_of.Given as goal

abbrev pub invariant-loop-place : goal.invariant-loop-place
invariant-loop-place g l = l.extent ≡ extent_of (take l.place (g.T.Texts.texts l.texts))
