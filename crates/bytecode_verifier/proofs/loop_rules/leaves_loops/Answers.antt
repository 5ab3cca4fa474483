use Rattle.bytecode_verifier.proofs.LoopRules.{leaves_here}
use Rattle.bytecode_verifier.proofs.loop_rules.leaves_loops.Goals as goal

pub returns-in-Some : goal.returns-in-Some
returns-in-Some c = λ code is.
    let found = c.in-Some.ensures.lookup in
    leaves_here code c.args.nests.now is c.args.place c.args.target c.in-Some.nest.now _ c.requires found.3.0 found.1
