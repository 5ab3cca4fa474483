use Rattle.std.proofs.Common.{ap, codes, ◌∙◌}
use Rattle.serde_json.specs.Data.{Members, object}
use Rattle.serde_json.specs.View.{members_view}
use Rattle.catalog.specs.Fields.{with_field}
use Rattle.catalog.proofs.fields.fields_value.Goals as goal

pub returns : goal.returns
returns c =
    let put = with_field c.args.fields.now in
    let m1 = c.in_ok-put_field.ensures ∙ ap (λ (m : Members). put m (codes "From")) (ap members_view c.new-members.ensures.empty) in
    let m2 = c.in_ok-put_field-2.ensures ∙ ap (λ (m : Members). put m (codes "To")) m1 in
    let m3 = c.in_ok-put_field-3.ensures ∙ ap (λ (m : Members). put m (codes "Cc")) m2 in
    let m4 = c.in_ok-put_field-4.ensures ∙ ap (λ (m : Members). put m (codes "Subject")) m3 in
    let m5 = c.in_ok-put_field-5.ensures ∙ ap (λ (m : Members). put m (codes "Date")) m4 in
    let m6 = c.in_ok-put_field-6.ensures ∙ ap (λ (m : Members). put m (codes "Message-ID")) m5 in
    let m7 = c.in_ok-put_field-7.ensures ∙ ap (λ (m : Members). put m (codes "In-Reply-To")) m6 in
    let m8 = c.in_ok-put_field-8.ensures ∙ ap (λ (m : Members). put m (codes "References")) m7 in
    c.from.ensures ∙ ap object m8
