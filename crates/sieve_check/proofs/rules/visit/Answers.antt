use Rattle.std.proofs.Common.{◌∙◌, Option, bytes_eq, map, refl, ap, subst}
use Rattle.octets.specs.Once.{with_more}
use Rattle.sieve_check.specs.Causes.{refused_for}
use Rattle.sieve_check.specs.Private.{cause_view, arguments_of}
use Rattle.sieve_check.specs.Refusing.{AreNoted, Finds, context_of, listed}
use Rattle.sieve_check.specs.Rows.{Row}
use Rattle.sieve_check.specs.Rules.{cause_of, known_cause, lacks_by, names_by, unknown_as, visit_of}
use Rattle.sieve_check.proofs.Visits.{one_passed, one_refused}
use Rattle.sieve_check.proofs.rules.visit.Goals as goal

pub returns-in_default-clause-visited : goal.returns-in_default-clause-visited
returns-in_default-clause-visited c =
    let s = context_of c.args.surroundings.now in
    let ending = c.args.ending in
    let args = arguments_of c.args.head.now in
    let v = visit_of ending s c.args.head.now.token c.args.head.now.name args c.args.tests in
    let found = subst (λ (o : Option Row). Finds (names_by s.required args o) (cause_of (unknown_as ending) (known_cause s args c.args.tests ending) o) c.found.result) c.requires c.found.ensures in
    let right = subst (Finds v.names v.cause) c.in-Ok.is found in
    one_passed c.args.findings.now _ v right.0 (c.in_default.ensures ∙ ap (with_more bytes_eq (listed c.args.findings.now.names)) right.1) refl

pub returns-in-Err-clause-visited : goal.returns-in-Err-clause-visited
returns-in-Err-clause-visited c =
    let s = context_of c.args.surroundings.now in
    let ending = c.args.ending in
    let head = c.args.head.now in
    let args = arguments_of head in
    let v = visit_of ending s head.token head.name args c.args.tests in
    let between = c.refuse-in-Err.new.self in
    let after = c.refuse_lacks.new.findings in
    let found = subst (λ (o : Option Row). Finds (names_by s.required args o) (cause_of (unknown_as ending) (known_cause s args c.args.tests ending) o) c.found.result) c.requires c.found.ensures in
    let wrong = subst (Finds v.names v.cause) c.in-Err.is found in
    one_refused c.args.findings.now between after v (cause_view c.in-Err.cause) wrong c.refuse-in-Err.ensures
    (subst (λ (o : Option Row). AreNoted between (map (refused_for head.token head.name) (lacks_by s.required args o)) after) c.requires c.refuse_lacks.ensures)
