use Rattle.std.proofs.Common.{◌≡◌, ◌+◌, ◌*◌, ◌∙◌, ap, arith, length, subst}
use Rattle.mail_matching.specs.Selection.{selected_values}
use Rattle.mail_matching.specs.Costs.{extent_of, names_cost}
use Rattle.mail_matching.specs.Headers.{all_fields, selected_in_all}
use Rattle.mail_matching.specs.HeaderTests.{fields_in_scope}
use Rattle.mail_matching.specs.Private.{GoesOn}
use Rattle.mail_matching.proofs.Asking.{has_compared}
use Rattle.mail_matching.proofs.Extents.{selected_are_in_all}
use Rattle.mail_matching.proofs.Scopes.{fields_are}
use Rattle.mail_matching.proofs.header_test.header.Goals as goal

pub returns-clause-asked : goal.returns-clause-asked
returns-clause-asked g c =
    let scope = c.args.test.scope in
    let current = c.args.current in
    let selector = c.args.test.selector in
    let params = g.P.Texts.texts c.args.texts.params.now in
    let names = g.N.Texts.texts c.args.texts.names.now in
    let keys = g.K.Texts.texts c.args.texts.keys.now in
    let mail = c.args.message.now in
    let values = selected_values scope current selector params names mail in
    let selected : selected_in_all selector params names c.in_scope-headers.result ≡ values =
    ap (selected_in_all selector params names) c.in_scope-headers.ensures ∙ selected_are_in_all scope current selector params names mail in
    let fields = ap all_fields c.in_scope-headers.ensures ∙ fields_are scope current mail in
    let looked : c.names_cost-looked.result ≡ names_cost (fields_in_scope scope current mail) names =
    c.names_cost-looked.ensures ∙ ap (λ n. (n + 1) * extent_of names) (c.fields_number.ensures.number ∙ ap length fields) in
    has_compared g.T.Telling.knows c.args.test.how values keys (names_cost (fields_in_scope scope current mail) names) c.args.progress.now c.take_headers.new.progress c.extent_of.result c.product.result (c.names_cost-looked.result + c.product.result) c.requires.fresh
    (subst (λ vs. GoesOn g.T.Telling.knows c.args.test.how vs keys c.args.progress.now c.take_headers.new.progress) selected c.in_ok-take_headers.ensures.goes)
    (omega (arith, c.in_ok-take_headers.ensures.few, ap extent_of selected))
    c.extent_of.ensures c.product.ensures (ap (λ n. n + c.product.result) looked)
