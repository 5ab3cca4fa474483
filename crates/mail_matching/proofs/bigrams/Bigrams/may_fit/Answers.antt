use Rattle.std.proofs.Common.{◌-◌, ◌∙◌, sym, arith}
use Rattle.mail_matching.proofs.NotContained.{unset}
use Rattle.mail_matching.proofs.NotFitting.{not_fitting}
use Rattle.mail_matching.proofs.bigrams.Bigrams.may_fit.Goals as goal

pub returns-then-not-has : goal.returns-then-not-has
returns-then-not-has c = λ same.
    let key = c.args.key.now in
    let place = c.places.place in
    not_fitting c.args.self.now.rows key (place - 1) place (omega arith) (omega arith)
    (sym c.is_special.ensures ∙ c.if-not-is_special.true) (sym c.is_special-then-not-is_special.ensures ∙ c.if-not-is_special-2.true)
    (unset _ (sym c.has.ensures ∙ c.if-not-has.true))
