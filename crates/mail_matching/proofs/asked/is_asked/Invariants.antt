use Rattle.std.proofs.Common.{◌≡◌, drop}
use Rattle.mail_matching.specs.Headers.{is_asked}
use Rattle.mail_matching.proofs.asked.is_asked.Given as goal

-- the names that are left, as long as none was this
abbrev pub invariant-loop-place : goal.invariant-loop-place
invariant-loop-place g l = is_asked (drop l.place (g.P.Texts.texts l.names)) l.name ≡ is_asked (g.P.Texts.texts l.names) l.name
