use Rattle.std.proofs.Common.{◌∷◌, [], arith}
use Rattle.std.proofs.lemmas.Bool.{false≢true}
use Rattle.mail_matching.specs.PartTests.{exactly}
use Rattle.mail_matching.proofs.Asking.{has_compared}
use Rattle.mail_matching.proofs.Extents.{extent_one}
use Rattle.mail_matching.proofs.Keeping.{equals_keep}
use Rattle.mail_matching.proofs.part_tests.digest.Goals as goal

pub returns-clause-asked : goal.returns-clause-asked
returns-clause-asked g c =
    let value = c.args.digest.now in
    has_compared g.T.Telling.knows exactly (value ∷ []) (g.K.Texts.texts c.args.keys.now) 0 c.args.progress.now c.take_lent.new.self c.extent_of.result c.product.result c.product.result c.requires.fresh c.in_ok-take_lent.ensures.goes
    (omega (arith, extent_one value, c.told-digest))
    c.extent_of.ensures c.product.ensures (omega arith)

pub returns-in_err-take_lent-clause-no_memory : goal.returns-in_err-take_lent-clause-no_memory
returns-in_err-take_lent-clause-no_memory g c = λ free.
    absurd (false≢true (c.in_err-take_lent.ensures.no_memory free (λ missed. equals_keep c.args.digest.now (g.K.Texts.texts c.args.keys.now))))
