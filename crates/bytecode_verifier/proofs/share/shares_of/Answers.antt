use Rattle.bytecode_verifier.proofs.Short.{shape_small}
use Rattle.bytecode_verifier.proofs.Shares.{one_more}
use Rattle.bytecode_verifier.proofs.share.shares_of.Goals as goal

pub pass_over-requires-clause-small : goal.pass_over-requires-clause-small
pass_over-requires-clause-small c = shape_small c.args.program.now c.instructions-instructions.ensures.program c.loop-place.place c.loop-place.shape c.loop-place.invariant.shape

pub loop-place-preserved : goal.loop-place-preserved
loop-place-preserved c = record {
  shape = c.in_ok-pass_over.ensures.after;
  shares = one_more c.args.program.now c.loop-place.place _ c.loop-place.shares.items c.push.new.self.items c.loop-place.invariant.shares c.in_ok-pass_over.ensures.share c.in_ok-push.ensures.items;
}
