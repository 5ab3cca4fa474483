use Rattle.std.proofs.Common.{◌+◌, ◌*◌, ◌∙◌, ap, length}
use Rattle.std.specs.List.{list_all}
use Rattle.mail_matching.specs.Costs.{extent_of}
use Rattle.mail_matching.specs.Headers.{all_fields}
use Rattle.mail_matching.specs.HeaderTests.{has_field}
use Rattle.mail_matching.proofs.Scopes.{fields_are}
use Rattle.mail_matching.proofs.existence.exists.Goals as goal

pub returns-clause-value : goal.returns-clause-value
returns-clause-value g c =
    let names = g.N.Texts.texts c.args.names.now in
    let fields = ap all_fields c.in_scope-headers.ensures ∙ fields_are c.args.reach.scope c.args.reach.current c.args.message.now in
    c.have_fields.ensures ∙ ap (λ fs. list_all (has_field fs) names) fields

pub returns-clause-cost : goal.returns-clause-cost
returns-clause-cost g c =
    let names = g.N.Texts.texts c.args.names.now in
    let fields = ap all_fields c.in_scope-headers.ensures ∙ fields_are c.args.reach.scope c.args.reach.current c.args.message.now in
    c.names_cost-cost.ensures ∙ ap (λ n. (n + 1) * extent_of names) (c.fields_number.ensures.number ∙ ap length fields)
