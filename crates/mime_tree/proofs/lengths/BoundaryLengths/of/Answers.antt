use Rattle.std.proofs.Common.{◌∷◌, ◌++◌, [], take, sym, ap, ◌∙◌, subst}
use Rattle.std.proofs.lemmas.List.{take_more}
use Rattle.mime_tree.specs.OpenParts.{OpenPart}
use Rattle.mime_tree.specs.Reading.{AreWithin}
use Rattle.mime_tree.proofs.LengthsMet.{within_more}
use Rattle.mime_tree.proofs.lengths.BoundaryLengths.of.Goals as goal

pub loop-part-preserved : goal.loop-part-preserved
loop-part-preserved c =
    let opened = c.args.opened.now in
    let at = c.loop-part.part-index in
    let part = c.part-item.result in
    let one_more = take_more opened at part c.loop-part-test.true ∙ ap (λ (o : OpenPart). take at opened ++ o ∷ []) (sym c.part-item.is) in
    subst (AreWithin c.with-lengths.result) (sym one_more)
    (within_more c.loop-part.lengths c.with-lengths.result (take at opened) part c.with-lengths.ensures.least c.with-lengths.ensures.most c.loop-part.invariant c.with-lengths.ensures.within)
