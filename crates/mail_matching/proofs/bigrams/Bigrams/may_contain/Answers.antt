use Rattle.std.proofs.Common.{◌-◌, sym, ◌∙◌, arith}
use Rattle.mail_matching.proofs.NotContained.{passed_over, unset}
use Rattle.mail_matching.proofs.bigrams.Bigrams.may_contain.Goals as goal

pub returns-then-not-has : goal.returns-then-not-has
returns-then-not-has c = λ same.
    let key = c.args.key.now in
    let rows = c.args.self.now.rows in
    let place = c.places.place in
    passed_over rows key (place - 1) place (omega arith) (omega arith) (unset _ (sym c.has.ensures ∙ c.if-not-has.true))
