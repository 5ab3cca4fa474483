use Rattle.std.proofs.Common.{drop, map}
use Rattle.sieve_check.specs.Rules.{lacking_causes}
use Rattle.sieve_check.specs.Causes.{refused_for}
use Rattle.sieve_check.proofs.Visits.{AreToNote}
use Rattle.sieve_check.proofs.findings.Findings.refuse_lacking.Given as goal

-- what is left is to be noted yet
abbrev pub invariant-loop-capability : goal.invariant-loop-capability
invariant-loop-capability l =
    AreToNote l.self (map (refused_for l.head.token l.head.name) (lacking_causes l.required (drop l.capability-index l.needed)))
    l.initial.self (map (refused_for l.head.token l.head.name) (lacking_causes l.required l.needed))
