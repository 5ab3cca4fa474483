use Rattle.std.proofs.Common.{◌∙◌, List, ap, map, subst, sym}
use Rattle.sieve_check.specs.Causes as causes
use Rattle.sieve_check.specs.Causes.{refused_for}
use Rattle.sieve_check.specs.Refusing.{AreNoted}
use Rattle.sieve_check.proofs.Noting.{none_unknown}
use Rattle.sieve_check.proofs.Visits.{none_noted}
use Rattle.sieve_check.proofs.findings.Findings.refuse_unknown.Goals as goal

pub returns-else-is_in : goal.returns-else-is_in
returns-else-is_in c = let head = c.args.head.now in
    subst (λ (l : List causes.Refused). AreNoted c.args.self.now l c.args.self.now)
    (ap (map (refused_for head.token head.name)) (sym (none_unknown c.args.string.now (sym c.is_in.ensures ∙ c.if-is_in.false)))) (none_noted c.args.self.now)
