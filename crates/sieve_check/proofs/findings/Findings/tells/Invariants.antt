use Rattle.std.proofs.Common.{◌≡◌, drop, map}
use Rattle.octets.specs.Once.{is_listed}
use Rattle.sieve_check.specs.ReasonView.{refused_view}
use Rattle.sieve_check.specs.Rules.{same_reason}
use Rattle.sieve_check.proofs.findings.Findings.tells.Given as goal

-- what is left has it where all of them have
abbrev pub invariant-loop-told : goal.invariant-loop-told
invariant-loop-told l = is_listed same_reason (refused_view l.found) (map refused_view (drop l.told-index l.told-items)) ≡ is_listed same_reason (refused_view l.found) (map refused_view l.told-items)
