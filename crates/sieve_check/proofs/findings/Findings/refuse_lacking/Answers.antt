use Rattle.std.proofs.Common.{List, ◌+◌, ap, drop, map}
use Rattle.std.proofs.lemmas.List.{drop_all}
use Rattle.sieve_check.specs.declared.names.Capability.{Capability}
use Rattle.sieve_check.specs.Causes.{refused_for}
use Rattle.sieve_check.specs.Rules.{lacking_causes}
use Rattle.sieve_check.proofs.Noting.{lacking_next}
use Rattle.sieve_check.proofs.Visits.{fewer_to_note, none_to_note}
use Rattle.sieve_check.proofs.findings.Findings.refuse_lacking.Goals as goal

pub loop-capability-preserved : goal.loop-capability-preserved
loop-capability-preserved c =
    let head = c.args.head.now in
    let noted = λ (needed : List Capability). map (refused_for head.token head.name) (lacking_causes c.args.required needed) in
    let i = c.loop-capability.capability-index in
    let needed = c.args.needed.now in
    fewer_to_note c.loop-capability.self c.refuse_lack.new.self c.args.self.now (noted (drop i needed)) _ (noted (drop (i + 1) needed)) (noted needed)
    (lacking_next head.token head.name c.args.required needed i _ c.loop-capability-test.true) c.refuse_lack.ensures c.loop-capability.invariant

pub returns : goal.returns
returns c = let head = c.args.head.now in
    none_to_note c.loop-capability.self c.args.self.now (map (refused_for head.token head.name) (lacking_causes c.args.required (drop c.loop-capability.capability-index c.args.needed.now)))
    (map (refused_for head.token head.name) (lacking_causes c.args.required c.args.needed.now))
    (ap (λ xs. map (refused_for head.token head.name) (lacking_causes c.args.required xs)) (drop_all c.loop-capability.capability-index c.args.needed.now c.loop-capability-test.false)) c.loop-capability.invariant
