use Rattle.std.proofs.Common.{◌++◌}
use Rattle.mail_matching.specs.Headers.{HaveFirsts}
use Rattle.mail_matching.proofs.asked.asked_params.Given as goal

-- with those that are left the found ones are enough
abbrev pub invariant-loop-param : goal.invariant-loop-param
invariant-loop-param g l = HaveFirsts (g.P.Texts.texts l.names) l.fn.params (l.found.items ++ l.param-iterator)
