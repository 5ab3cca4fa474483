use Rattle.std.proofs.Common.{◌+◌, length, [], ap, arith}
use Rattle.std.specs.Prelude.{List, ℕ}
use Rattle.std.proofs.lemmas.List.Sums.{sum_by_more_le}
use Rattle.mail_matching.proofs.Extents.{texts_within}
use Rattle.mail_matching.proofs.cost.extent_of.Goals as goal

pub overflow_add-extent-in-loop-place : goal.overflow_add-extent-in-loop-place
overflow_add-extent-in-loop-place g c =
    let texts = g.T.Texts.texts c.args.texts.now in
    let next = sum_by_more_le (λ (text : List ℕ). length text + 1) texts c.loop-place.place [] (omega (arith, c.loop-place-test.true, c.count-place-end.ensures)) in
    omega (arith, next, texts_within texts c.requires, c.loop-place.invariant, ap length c.text.ensures)
