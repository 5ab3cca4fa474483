use Rattle.bytecode_verifier.proofs.LoopRules.{depth_here}
use Rattle.bytecode_verifier.proofs.loop_rules.depth_at.Goals as goal

pub returns : goal.returns
returns c = λ code is. depth_here code c.args.nests.now is c.args.place _ c.requires
