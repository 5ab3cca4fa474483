use Rattle.std.proofs.Common.{◌∙◌, ℕ, List, ◌∷◌, [], ap, map}
use Rattle.sieve_check.specs.Causes.{refused_for}
use Rattle.sieve_check.specs.Rules.{unknown_causes}
use Rattle.sieve_check.proofs.Noting.{unknown_then}
use Rattle.sieve_check.proofs.Visits.{fewer_to_note, none_to_note}
use Rattle.sieve_check.proofs.findings.Findings.refuse_all_unknown.Goals as goal

pub strings-preserved : goal.strings-preserved
strings-preserved c =
    let head = c.args.head.now in
    let noted = λ (strings : List (List ℕ)). map (refused_for head.token head.name) (unknown_causes strings) in
    let string = c.in-Some.string.now in
    fewer_to_note c.strings.self c.refuse_unknown.new.self c.args.self.now (noted c.strings.strings) (noted (string ∷ [])) (noted c.next.new.self) (noted c.args.strings)
    (ap noted c.in-Some.ensures.steps ∙ unknown_then head.token head.name (string ∷ []) c.next.new.self) c.refuse_unknown.ensures c.strings.invariant

pub returns : goal.returns
returns c =
    let head = c.args.head.now in
    let noted = λ (strings : List (List ℕ)). map (refused_for head.token head.name) (unknown_causes strings) in
    none_to_note c.strings.self c.args.self.now (noted c.strings.strings) (noted c.args.strings) (ap noted c.in_default.ensures.steps.0) c.strings.invariant
