use Rattle.std.proofs.Common.{◌+◌, ◌∙◌, arith, sym}
use Rattle.std.specs.Cow.{cow_slice_items}
use Rattle.mail_matching.proofs.Extents.{extent_one}
use Rattle.mail_matching.proofs.Onward.{goes_on_compared}
use Rattle.mail_matching.proofs.progress.Progress.take.Goals as goal

pub returns-clause-goes : goal.returns-clause-goes
returns-clause-goes g c =
    let value = cow_slice_items c.args.value.now in
    goes_on_compared g.T.Telling.knows c.args.how value (g.K.Texts.texts c.args.keys.now) c.args.self.now c.first_key.new.outcome (c.args.self.now.extent + (c.len.result + 1)) c.first_key.new.told
    (sym c.holds.ensures ∙ c.if-holds.false)
    (omega (arith, c.len.ensures, extent_one value))
    c.in_ok-first_key.ensures.outcome
    c.in_ok-first_key.ensures.found
