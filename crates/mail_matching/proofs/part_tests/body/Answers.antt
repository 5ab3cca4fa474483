use Rattle.std.proofs.Common.{◌∷◌, [], arith}
use Rattle.std.proofs.lemmas.Bool.{false≢true}
use Rattle.std.specs.Cow.{cow_slice_items}
use Rattle.mail_matching.proofs.Asking.{has_compared}
use Rattle.mail_matching.proofs.Extents.{extent_one}
use Rattle.mail_matching.proofs.Keeping.{keeps_first}
use Rattle.mail_matching.proofs.part_tests.body.Goals as goal

pub returns-clause-asked : goal.returns-clause-asked
returns-clause-asked g c =
    let value = cow_slice_items c.args.content.now in
    has_compared g.T.Telling.knows c.args.how (value ∷ []) (g.K.Texts.texts c.args.keys.now) 0 c.args.progress.now c.take.new.self c.extent_of.result c.product.result c.product.result c.requires.fresh c.in_ok-take.ensures.goes
    (omega (arith, extent_one value, c.requires.content))
    c.extent_of.ensures c.product.ensures (omega arith)

pub returns-in_err-take-clause-no_memory : goal.returns-in_err-take-clause-no_memory
returns-in_err-take-clause-no_memory g c = λ free keeps.
    let value = cow_slice_items c.args.content.now in
    let keys = g.K.Texts.texts c.args.keys.now in
    absurd (false≢true (c.in_err-take.ensures.no_memory free (λ missed. keeps_first c.args.how value [] keys keeps)))
