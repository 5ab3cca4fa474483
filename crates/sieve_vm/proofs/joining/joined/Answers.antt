use Rattle.std.proofs.Common.{◌∙◌, ap, arith, take, length}
use Rattle.std.specs.List.{concat}
use Rattle.std.proofs.lemmas.List.{length-take}
use Rattle.sieve_vm.proofs.Holding.{joined_more}
use Rattle.sieve_vm.proofs.joining.joined.Goals as goal

pub put-requires : goal.put-requires
put-requires g c =
    let texts = g.T.Texts.texts c.args.texts.now in
    omega (arith, ap length c.loop-place.invariant, length-take 16384 (concat (take c.loop-place.place texts)))

pub loop-place-preserved : goal.loop-place-preserved
loop-place-preserved g c =
    let texts = g.T.Texts.texts c.args.texts.now in
    c.in_ok-put.ensures ∙ joined_more 16384 texts c.loop-place.place c.loop-place.out.items c.text.result.now (omega (arith, c.loop-place-test.true, c.count-place-end.ensures)) c.text.ensures c.loop-place.invariant
