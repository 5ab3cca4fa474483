use Rattle.std.proofs.Common.{◌∙◌}
use Rattle.bytecode_verifier.proofs.LoopRules.{has_loop_here, no_loop_past}
use Rattle.bytecode_verifier.proofs.loop_rules.has_loop.Goals as goal

pub returns-in-Some : goal.returns-in-Some
returns-in-Some c = λ code is.
    let found = c.in-Some.ensures.lookup in
    c.leads.ensures ∙ has_loop_here code c.args.nests.now is c.args.each c.args.next c.in-Some.nest.now found.3.0 found.1

pub returns-in-None : goal.returns-in-None
returns-in-None c = λ code is. no_loop_past code c.args.nests.now is c.args.each c.args.next c.in-None.ensures.lookup.3
