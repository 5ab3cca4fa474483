use Rattle.std.proofs.Common.{◌<◌, length, arith}
use Rattle.sieve_compiler.proofs.AimingLemmas.{next_aimed}
use Rattle.sieve_compiler.proofs.instructions.aim_all.Goals as goal

pub loop-instruction-preserved : goal.loop-instruction-preserved
loop-instruction-preserved c =
    let within : c.loop-instruction.instruction-index < length c.args.instructions.now = omega arith in
    next_aimed c.args.target c.loop-instruction.instruction-index c.loop-instruction.instructions c.args.instructions.now c.aimed.result _ within c.loop-instruction.invariant c.aimed.ensures
