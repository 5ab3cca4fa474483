use Rattle.std.proofs.Common.{◌∙◌, sym, ap}
use Rattle.std.proofs.lemmas.Bool.{false≢true}
use Rattle.octets.specs.Ascii.{lowercase_of}
use Rattle.mime_params.proofs.Lists.{named_at, named_after}
use Rattle.mail_matching.proofs.asked.first_named.Goals as goal

pub returns-then-equal_ignoring_case : goal.returns-then-equal_ignoring_case
returns-then-equal_ignoring_case c =
    sym c.loop-param.invariant
    ∙ named_at c.args.name.now c.args.params.now c.loop-param.param-index c.param-item.result c.loop-param-test.true c.param-item.is
    (ap lowercase_of (sym c.name.ensures) ∙ c.equal_ignoring_case.ensures.0 c.if-equal_ignoring_case.true)

pub loop-param-preserved : goal.loop-param-preserved
loop-param-preserved c =
    sym (named_after c.args.name.now c.args.params.now c.loop-param.param-index c.param-item.result c.loop-param-test.true c.param-item.is
    (λ same. false≢true (sym c.if-equal_ignoring_case.false ∙ c.equal_ignoring_case.ensures.1 (ap lowercase_of c.name.ensures ∙ same))))
    ∙ c.loop-param.invariant
