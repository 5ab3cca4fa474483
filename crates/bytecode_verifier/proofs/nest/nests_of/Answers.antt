use Rattle.std.proofs.Common.{arith}
use Rattle.bytecode_verifier.proofs.Nests.{nests_more, are_nests}
use Rattle.bytecode_verifier.proofs.nest.nests_of.Goals as goal

pub loop-place-preserved : goal.loop-place-preserved
loop-place-preserved c =
    let more =
    nests_more c.args.instructions.now c.loop-place.place c.pop-next.result c.first.result c.number.result c.loop-place.nexts c.pop-next.new.self c.loop-place.inside c.pass_on.new.inside
    c.loop-place.nests.items c.push.new.self.items c.loop-place-test.true
    c.loop-place.invariant.nexts c.loop-place.invariant.inside c.loop-place.invariant.few c.loop-place.invariant.nests
    c.pop-next.ensures.value c.pop-next.ensures.left c.first.ensures c.number.ensures c.in_ok-pass_on.ensures c.in_ok-push.ensures.items in
    record { nexts = more.nexts; inside = more.inside; few = more.few; nests = more.nests }

pub returns : goal.returns
returns c = are_nests c.args.instructions.now c.loop-place.nests.items c.loop-place.place c.loop-place.invariant.nests (omega (arith, c.loop-place-test.false, c.loop-place.auto.place-end))
