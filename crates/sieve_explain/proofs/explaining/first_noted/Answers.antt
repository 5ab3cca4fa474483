use Rattle.std.proofs.Common.{arith}
use Rattle.std.proofs.lemmas.Grind.{common_steps}
use Rattle.sieve_explain.proofs.explaining.first_noted.Goals as goal

pub loop-noted-preserved : goal.loop-noted-preserved
loop-noted-preserved c = grind (arith, common_steps)

pub returns : goal.returns
returns c = grind (arith, common_steps)
