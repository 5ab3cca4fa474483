use Rattle.std.proofs.Common.{length, map}
use Rattle.sieve_check.specs.Rules.{unknown_causes}
use Rattle.sieve_check.specs.Causes.{refused_for}
use Rattle.sieve_check.proofs.Visits.{AreToNote}
use Rattle.sieve_check.proofs.findings.Findings.refuse_all_unknown.Given as goal

-- what is left is to be noted yet
abbrev pub invariant-strings : goal.invariant-strings
invariant-strings l =
    AreToNote l.self (map (refused_for l.head.token l.head.name) (unknown_causes l.strings))
    l.initial.self (map (refused_for l.head.token l.head.name) (unknown_causes l.fn.strings))

abbrev pub decreases-strings : goal.decreases-strings
decreases-strings l = length l.strings
