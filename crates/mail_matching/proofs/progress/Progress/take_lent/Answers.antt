use Rattle.std.proofs.Common.{◌+◌, ◌∙◌, arith, length, sym}
use Rattle.mail_matching.proofs.Extents.{extent_one}
use Rattle.mail_matching.proofs.Onward.{goes_on_compared}
use Rattle.mail_matching.proofs.progress.Progress.take_lent.Goals as goal

pub returns-clause-goes : goal.returns-clause-goes
returns-clause-goes g c =
    let value = c.args.lent.now in
    goes_on_compared g.T.Telling.knows c.args.how value (g.K.Texts.texts c.args.keys.now) c.args.self.now c.first_key_of_lent.new.outcome (c.args.self.now.extent + (length c.args.lent.now + 1)) c.first_key_of_lent.new.told
    (sym c.holds.ensures ∙ c.if-holds.false)
    (omega (arith, extent_one value))
    c.in_ok-first_key_of_lent.ensures.outcome
    c.in_ok-first_key_of_lent.ensures.found
