use Rattle.std.proofs.Common.{◌≡◌, ◌∙◌, ◌++◌, ℕ, List, ap, map, subst}
use Rattle.std.proofs.lemmas.List.{map-append}
use Rattle.sieve_check.specs.declared.names.Capability.{Capability}
use Rattle.sieve_check.specs.Causes.{refused_for}
use Rattle.sieve_check.specs.Refusing.{AreNoted}
use Rattle.sieve_check.specs.Rules.{capability_arguments, lacking_causes, lacks_by, mime_needs, strings_of, unknown_causes}
use Rattle.sieve_check.specs.Private.{arguments_of, row_view}
use Rattle.std.specs.Prelude.{option_map}
use Rattle.sieve_check.proofs.Noting.{lacking_both}
use Rattle.sieve_check.proofs.Visits.{both_noted}
use Rattle.sieve_check.proofs.rules.refuse_lacks.Goals as goal

pub returns-in-Some : goal.returns-in-Some
returns-in-Some c =
    let old = c.args.findings.now in
    let first = c.refuse_lacking.new.self in
    let between = c.refuse_lacking-in-Some.new.self in
    let new = c.refuse_all_unknown.new.self in
    let head = c.args.head.now in
    let args = arguments_of head in
    let required = c.args.required in
    let row = c.in-Some.row in
    let f = refused_for head.token head.name in
    let mime = mime_needs row.signature args in
    let own = lacking_causes required row.needs.now in
    let with_mime = lacking_causes required mime in
    let unknown = unknown_causes (strings_of (capability_arguments row.follows args)) in
    let lacks = lacking_causes required (row.needs.now ++ mime) in
    let is : map f (lacks_by required args (option_map row_view c.args.known_as.now)) ≡ map f lacks ++ map f unknown =
    ap (λ known. map f (lacks_by required args (option_map row_view known))) c.in-Some.is ∙ map-append f lacks unknown in
    both_noted old between new (map f (lacks_by required args (option_map row_view c.args.known_as.now))) (map f lacks) (map f unknown) is
    (both_noted old first between (map f lacks) (map f own) (map f with_mime) (ap (map f) (lacking_both required row.needs.now mime) ∙ map-append f own with_mime)
    c.refuse_lacking.ensures
    (subst (λ (xs : List Capability). AreNoted first (map f (lacking_causes required xs)) between) c.mime_needs.ensures c.refuse_lacking-in-Some.ensures))
    (subst (λ (xs : List (List ℕ)). AreNoted between (map f (unknown_causes xs)) new) c.capability_strings.ensures c.refuse_all_unknown.ensures)
