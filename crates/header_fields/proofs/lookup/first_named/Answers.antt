use Rattle.std.proofs.Common.{◌∙◌, sym}
use Rattle.std.proofs.lemmas.Bool.{false≢true}
use Rattle.header_fields.proofs.FirstNamed.{first_here, first_later}
use Rattle.header_fields.proofs.lookup.first_named.Goals as goal

pub returns-then-name_is : goal.returns-then-name_is
returns-then-name_is c =
    sym c.loop-field.invariant
    ∙ first_here c.args.name.now c.args.fields.now c.loop-field.field-index c.field-item.result c.loop-field-test.true c.field-item.is (c.name_is.ensures.0 c.if-name_is.true)

pub loop-field-preserved : goal.loop-field-preserved
loop-field-preserved c =
    sym (first_later c.args.name.now c.args.fields.now c.loop-field.field-index c.field-item.result c.loop-field-test.true c.field-item.is
    (λ same. false≢true (sym c.if-name_is.false ∙ c.name_is.ensures.1 same)))
    ∙ c.loop-field.invariant
